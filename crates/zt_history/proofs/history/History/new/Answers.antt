-- The opening, with no moment, no change and one branch; it gave out few koids.
use Rattle.std.proofs.Common.{◌<◌, ◌≡◌, [], ◌∷◌, sym, ap, subst, arith, ◌∙◌}
use Rattle.zt_rows.specs.Handles.{next_koid}
use Rattle.zt_rows.specs.Opening.{opening}
use Rattle.zt_rows.proofs.SpentLaws.{spent-opening}
use Rattle.zt_store.specs.StoreView.{Stored}
use Rattle.zt_history.specs.ProofsOnly.FourBytes.{four_byte_numbers}
use Rattle.zt_history.specs.ProofsOnly.ObjectNotes.{NotedChanges}
use Rattle.zt_history.proofs.WholeLaws.{whole-opening}
use Rattle.zt_history.proofs.history.History.new.Goals as goal

abbrev noted_of : Stored → NotedChanges
noted_of s = record { notes = []; next_koids = next_koid s.state ∷ [] }

pub new-requires : goal.new-requires
new-requires c =
    let few : next_koid opening < four_byte_numbers = omega (arith, spent-opening.koids) in
    let lent : c.store-2.result.now.state ≡ opening = ap (λ (s : Stored). s.state) c.store-2.ensures ∙ c.in_ok-store.ensures in
    record { few = subst (λ S. next_koid S < four_byte_numbers) (sym lent) few }

pub invariant_of-result : goal.invariant_of-result
invariant_of-result c =
    whole-opening c.in_ok-store.store c.in_ok-moments.moments c.in_ok-notes.notes c.in_ok-branches.branches c.in_ok-store.ensures c.in_ok-moments.ensures.made c.in_ok-moments.ensures.records
    (c.in_ok-notes.ensures ∙ ap noted_of c.store-2.ensures) c.in_ok-branches.ensures
