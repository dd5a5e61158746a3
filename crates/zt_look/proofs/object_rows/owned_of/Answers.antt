-- Where there is no first number, there is no row; else the first is that of the least.
use Rattle.std.proofs.Common.{subst}
use Rattle.zt_look.specs.ProofsOnly.RowWalk.{IsFirstOwned}
use Rattle.zt_look.proofs.ObjectRowLaws.{owned-none}
use Rattle.zt_look.proofs.object_rows.owned_of.Goals as goal

pub owned_from-requires-clause-first : goal.owned_from-requires-clause-first
owned_from-requires-clause-first c =
    subst (IsFirstOwned c.args.store.now.state c.args.owned c.args.koid) c.in-Some.is c.first_of.ensures

pub returns-in-None : goal.returns-in-None
returns-in-None c =
    owned-none c.args.store.now.state c.args.owned c.args.koid c.first_of.result c.new.result.items c.first_of.ensures c.in-None.is c.new.ensures.items
