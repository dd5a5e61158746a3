-- One difference more is compared.
use Rattle.std.proofs.Common.{subst, sym}
use Rattle.zt_import.specs.ProofsOnly.TakenCalls.{ComparedView, IsComparedAs}
use Rattle.zt_import.proofs.ComparedLaws.{compared-push}
use Rattle.zt_import.proofs.compared.Compared.tell.Goals as goal

pub returns : goal.returns
returns c = λ differences small so.
    let P : ComparedView → Type 0 = λ v. IsComparedAs differences v in
    compared-push differences (record { call = c.args.call; moment = c.args.moment; by_schedule = c.args.by_schedule })
    (record { told = c.self.inside.told.items; count = c.self.inside.count; by_schedule = c.self.inside.by_schedule })
    (record { told = c.push_told.new.told.items; count = c.counted-self-inside.result; by_schedule = c.counted-self-inside-2.result })
    small c.in_ok-push_told.ensures c.counted-self-inside.ensures c.counted-self-inside-2.ensures (subst P (sym c.self.view_is) so)
