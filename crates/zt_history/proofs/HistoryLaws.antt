-- What a history keeps while its store goes over a moment, back or forth, while a call makes one more, and while the
-- last one is dropped.
use Rattle.std.proofs.Common.{◌≡◌, ℕ, suc, ◌≤◌, ◌<◌, Bool, true, false, eqb, List, [], length, set, Some, refl, sym, ◌∙◌, ap, subst, arith}
use Rattle.std.specs.Prelude.{slice_get}
use Rattle.std.specs.Option.{option_map}
use Rattle.std.proofs.lemmas.Bool.{eqb-true, eqb-false}
use Rattle.std.proofs.lemmas.List.{length-set}
use Rattle.std.proofs.lemmas.Option.{same_Some}
use Rattle.zt_rows.specs.Change.{exchange}
use Rattle.zt_rows.specs.Opening.{opening}
use Rattle.zt_rows.specs.State.{State}
use Rattle.zt_rows.proofs.ChangeLaws.{Rows}
use Rattle.zt_store.specs.Places.{fits}
use Rattle.zt_store.specs.RecordRows.{all_fit}
use Rattle.zt_store.specs.StoreView.{Stored}
use Rattle.zt_store.proofs.Fitting.{all_fit-set}
use Rattle.zt_history.specs.Tree.{Made, parent_at, state_at}
use Rattle.zt_history.specs.TreeInvariant.{Falls, record_of, recorded_at}
use Rattle.zt_history.specs.ProofsOnly.TreeInvariant.{IsHistory}
use Rattle.zt_history.proofs.ListLaws.{get-within, get-set_same, get-set_other}
use Rattle.zt_history.proofs.RecordLaws.{record_of-others, exchange-back, exchange-forth}
use Rattle.zt_history.proofs.RunLaws.{state-opening}

pub history-opening : (store : Stored) → store.state ≡ opening → IsHistory [] 0 store []
history-opening store is = record {
  within = omega arith;
  here = is ∙ sym (state-opening []);
  many = refl;
  each = λ i. refl;
  fit = refl;
}

-- the record of a moment that is there
recorded-there : (made : List Made) (position j : ℕ) → j < length made → recorded_at made position (suc j) ≡ Some (record_of made position (suc j))
recorded-there made position j h = rw (get-within made j h).1 refl

-- ---- over one moment

-- the store goes from p to q by the record of moment j + 1
turned : (made : List Made) (p q j : ℕ) (old new : Stored) (records : List Rows) (R kept : Rows)
    → ◌≡◌ {A = State × Rows} (exchange (state_at made p) (record_of made p (suc j))) (state_at made q, record_of made q (suc j))
    → ((m : ℕ) → (m ≡ suc j → ⊥) → record_of made p m ≡ record_of made q m)
    → q ≤ length made → j < length made → IsHistory made p old records → slice_get records j ≡ Some R
    → ◌≡◌ {A = State × Rows} (new.state, kept) (exchange old.state R) → new.places ≡ old.places → fits new.places kept ≡ true
    → IsHistory made q new (set records j kept)
turned made p q j old new records R kept over others within there is at done places fit =
    let was : R ≡ record_of made p (suc j) = same_Some R (record_of made p (suc j)) (sym at ∙ is.each j ∙ recorded-there made p j there) in
    let gone : ◌≡◌ {A = State × Rows} (new.state, kept) (state_at made q, record_of made q (suc j)) = done ∙ (λ i. exchange (is.here i) (was i)) ∙ over in
    let each : (i : ℕ) (b : Bool) → eqb i j ≡ b → slice_get (set records j kept) i ≡ recorded_at made q (suc i) =
    λ i b. elim b as (λ b. eqb i j ≡ b → slice_get (set records j kept) i ≡ recorded_at made q (suc i)) [
      | true ↦ λ e.
          let same : i ≡ j = eqb-true i j e in
          let P : ℕ → Type 0 = λ i. slice_get (set records j kept) i ≡ recorded_at made q (suc i) in
          subst P (sym same)
          (get-set_same records j kept (omega (arith, there, is.many))
          ∙ ap Some (ap (λ (x : State × Rows). x.1) gone)
          ∙ sym (recorded-there made q j there))
      | false ↦ λ e.
          get-set_other records j i kept (eqb-false i j e)
          ∙ is.each i
          ∙ ap (λ (R : Rows). option_map (λ _. R) (slice_get made i)) (others (suc i) (λ h. eqb-false i j e (omega (arith, h))))
    ] in
    record {
      within = within;
      here = ap (λ (x : State × Rows). x.0) gone;
      many = length-set records j kept ∙ is.many;
      each = λ i. each i (eqb i j) refl;
      fit = all_fit-set new.places records j kept (subst (λ p. all_fit p records ≡ true) (sym places) is.fit) fit;
    }

module _ (made : List Made) (falls : Falls made) (j : ℕ) (old new : Stored) (records : List Rows) (R kept : Rows)
    (there : j < length made) (at : slice_get records j ≡ Some R)
    (done : ◌≡◌ {A = State × Rows} (new.state, kept) (exchange old.state R)) (places : new.places ≡ old.places) (fit : fits new.places kept ≡ true) where
  pub history-back : IsHistory made (suc j) old records → IsHistory made (parent_at made (suc j)) new (set records j kept)
  history-back is =
      turned made (suc j) (parent_at made (suc j)) j old new records R kept
      (exchange-back made falls j) (record_of-others made falls j) (omega (arith, falls j, there)) there is at done places fit

  pub history-forth : IsHistory made (parent_at made (suc j)) old records → IsHistory made (suc j) new (set records j kept)
  history-forth is =
      turned made (parent_at made (suc j)) (suc j) j old new records R kept
      (exchange-forth made falls j) (λ m n. sym (record_of-others made falls j m n)) (omega (arith, there)) there is at done places fit
