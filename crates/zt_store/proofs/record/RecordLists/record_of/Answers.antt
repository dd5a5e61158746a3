use Rattle.std.proofs.Common.{◌≡◌, ℕ, List, refl, ap, subst, sym, ◌∙◌}
use Rattle.zt_store.specs.Places.{fits}
use Rattle.zt_store.specs.ProofsOnly.ChangedRows.{picked}
use Rattle.zt_store.specs.ProofsOnly.BeforeImages.{Firsts}
use Rattle.zt_store.specs.ProofsOnly.KeptRows.{AreOf, keys_in, rows_in}
use Rattle.zt_store.specs.declared.kept_rows.KeptRows.{KeptRows}
use Rattle.zt_store.proofs.SlotLaws.{Slots, filled-slots, pairs-filled}
use Rattle.zt_store.proofs.record.RecordLists.record_of.Goals.{in-Ok, in-Err}
use Rattle.zt_store.proofs.record.RecordLists.record_of.Goals as goal

-- AreOf with equals in place of equals: `kept` for `rows`, G for F, `places` for `order`
same_are : (rows kept : KeptRows) (F G : Slots) (order places : List ℕ) → kept ≡ rows → F ≡ G → order ≡ places → AreOf (keys_in rows) (rows_in rows) (picked F order) → AreOf (keys_in kept) (rows_in kept) (picked G places)
same_are rows kept F G order places rows_is firsts_are places_are is =
    subst (λ k. AreOf (keys_in k) (rows_in k) (picked G places)) (sym rows_is)
    (subst (λ H. AreOf (keys_in rows) (rows_in rows) (picked H places)) firsts_are (subst (λ p. AreOf (keys_in rows) (rows_in rows) (picked F p)) places_are is))

are_of : (c : goal.Joined-take) → AreOf (keys_in c.match-take.rows) (rows_in c.match-take.rows) (picked c.args.firsts.now.rows c.find_changed.new.order.items)
are_of c =
    elim c.match-take.branch [
      | in-Ok w ↦ same_are _ _ _ _ _ _ w.rows-is refl c.as_slice.ensures.value w.in-Ok.ensures.ok
      | in-Err w ↦ same_are _ _ _ _ _ _ w.rows-is (ap (λ (f : Firsts). f.rows) w.in-Err.ensures.err) w.as_slice-in-Err.ensures.value w.give-rows.ensures
    ]

pub invariant_of-result : goal.invariant_of-result
invariant_of-result c = filled-slots _ _ _ _ _ (are_of c) c.find_changed.ensures.rows c.find_changed.ensures.suited

pub returns-clause-recorded : goal.returns-clause-recorded
returns-clause-recorded c = pairs-filled _ _ _ (are_of c) ∙ c.find_changed.ensures.rows

pub returns-clause-fits : goal.returns-clause-fits
returns-clause-fits c = ap (fits c.args.store.now.places) (pairs-filled _ _ _ (are_of c)) ∙ c.find_changed.ensures.fits
