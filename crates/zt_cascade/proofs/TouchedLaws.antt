-- A list that is filled key by key along those that a step put: what holds of each key looked at so far, and in the end of
-- all of them.
use Rattle.std.proofs.Common.{◌≡◌, ◌<◌, ◌≤◌, ℕ, suc, ◌+◌, true, List, [], ◌∷◌, length, sym, ap, ◌∙◌, subst, arith, inl, inr}
use Rattle.std.specs.Prelude.{Option, None, Some, slice_get}
use Rattle.std.proofs.lemmas.Bool.{cases_lt}
use Rattle.std.proofs.lemmas.Option.{slice_get_cases, slice_get_within}
use Rattle.zt_rows.specs.declared.keys.RowKey.{RowKey}
use Rattle.zt_rows.specs.Keys.{rowkey_eq}
use Rattle.zt_rows.specs.ProofsOnly.KeyOrder.{rowkey_eq-equal}
use Rattle.zt_rows.proofs.RowLaws.{or_true}
use Rattle.zt_store.specs.StepView.{listed}
use Rattle.zt_cascade.specs.ProofsOnly.RaisedWaits.{IsLonger}

-- it holds of the first so many keys
abbrev pub HoldsSoFar : (RowKey → List ℕ → Type 0) → List RowKey → ℕ → List ℕ → Type 0
HoldsSoFar P ks i list = (j : ℕ) (k : RowKey) → j < i → slice_get ks j ≡ Some k → P k list

-- it still holds once the list is longer
abbrev pub LastsLonger : (RowKey → List ℕ → Type 0) → Type 0
LastsLonger P = (k : RowKey) (list later : List ℕ) → IsLonger list later → P k list → P k later

pub so_far-next : (P : RowKey → List ℕ → Type 0) → LastsLonger P → (ks : List RowKey) (i : ℕ) (k : RowKey) (list later : List ℕ) → slice_get ks i ≡ Some k → P k later → IsLonger list later → HoldsSoFar P ks i list → HoldsSoFar P ks (i + 1) later
so_far-next P lasts ks i k list later here new longer before j q less at = elim (cases_lt j i) [
  | inl earlier ↦ lasts q list later longer (before j q earlier at)
  | inr ge ↦
      let is : i ≡ j = omega arith in
      let same : k ≡ q = one_key k q (sym here ∙ ap (slice_get ks) is ∙ at) in
      subst (λ z. P z later) same new
]
  where
    one_key : (a b : RowKey) → Some a ≡ Some b → a ≡ b
    one_key a b e = cc

listed-at : (ks : List RowKey) (k : RowKey) → listed ks k ≡ true → (j : ℕ) × (slice_get ks j ≡ Some k)
listed-at [] k e = cc
listed-at (q ∷ ks) k e = elim (or_true (rowkey_eq k q) (listed ks k) e) [
  | inl t ↦ (0, ap Some (sym (rowkey_eq-equal k q t)))
  | inr t ↦ let w = listed-at ks k t in (suc w.0, w.1)
]

no_key : (r : Option RowKey) (k : RowKey) → r ≡ None → r ≡ Some k → ⊥
no_key r k e f = cc

past_end : (ks : List RowKey) (i : ℕ) → slice_get ks i ≡ None → length ks ≤ i
past_end ks i end = elim (slice_get_cases ks i).1 [
  | inl w ↦ absurd (no_key (slice_get ks i) w.0 end w.2)
  | inr w ↦ w.0
]

-- it holds of all keys once the places are gone through
pub so_far-end : (P : RowKey → List ℕ → Type 0) (ks : List RowKey) (i : ℕ) (list : List ℕ) → length ks ≤ i → HoldsSoFar P ks i list → (k : RowKey) → listed ks k ≡ true → P k list
so_far-end P ks i list past so_far k there =
    let w = listed-at ks k there in
    let within : w.0 < length ks = slice_get_within ks w.0 k w.1 in
    so_far w.0 k (omega arith) w.1
