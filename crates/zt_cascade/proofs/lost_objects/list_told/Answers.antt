use Rattle.std.proofs.Common.{sym, subst}
use Rattle.std.proofs.lemmas.Result.{on_ok_weaker}
use Rattle.zt_cascade.specs.ProofsOnly.RemovedObject.{Covers}
use Rattle.zt_cascade.proofs.LostLaws.{told-covers}
use Rattle.zt_cascade.proofs.lost_objects.list_told.Goals as goal

pub returns : goal.returns
returns c =
    let s = c.args.step.now in
    on_ok_weaker c.add_koids.result
    (λ added. subst (λ l. Covers l s.current) (sym added) (told-covers s c.list_lost.new.list.items c.in_ok-list_lost.ensures.differs c.in_ok-list_lost.ensures.lost c.args.released.now c.requires))
    c.add_koids.ensures
