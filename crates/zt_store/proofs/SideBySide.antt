-- Keys and rows in two lists, each row at the place of its key: an exchange with a state's rows, one after another.
use Rattle.std.proofs.Common.{◌≡◌, ℕ, zero, suc, ◌+◌, ◌<◌, ◌≤◌, Bool, true, false, List, [], ◌∷◌, drop, get_or, set, length, Option, refl, sym, ap, ◌∙◌, subst, arith}
use Rattle.std.specs.List.{zip}
use Rattle.std.proofs.lemmas.List.{get_or_default, length-map, length-set}
use Rattle.std.proofs.lemmas.Slice.Zip.{firsts-zip, get_or-zip}
use Rattle.zt_rows.specs.declared.keys.RowKey.{RowKey}
use Rattle.zt_rows.specs.declared.rows.Row.{Row}
use Rattle.zt_rows.specs.State.{State, row, put}
use Rattle.zt_rows.specs.Change.{exchange}
use Rattle.zt_rows.specs.Room.{SuitsKey}
use Rattle.zt_store.specs.Places.{Places, fits, fits_row}
use Rattle.zt_store.specs.StoreView.{Stored}
use Rattle.zt_store.specs.ProofsOnly.StoreView.{standing}
use Rattle.zt_store.proofs.Fitting.{Rows, fits-all, fits-at, fits-next, fits-not, suits-at}
use Rattle.zt_store.proofs.Exchanges.{IsSwapping, swapping-end, swapping-next}

length-beside : (ks : List RowKey) (rs : List (Option Row)) → length rs ≡ length ks → length (zip ks rs) ≡ length ks
length-beside ks rs even = sym (length-map (zip ks rs) (λ (e : RowKey × Option Row). e.0)) ∙ ap length (firsts-zip ks rs even)

zip-set : (ks : List RowKey) (rs : List (Option Row)) (i : ℕ) (k : RowKey) (v : Option Row) → i < length ks → k ≡ get_or ks i k → zip ks (set rs i v) ≡ set (zip ks rs) i (k, v)
zip-set [] rs i k v within at = absurd (omega (arith, within))
zip-set (x ∷ ks) [] i k v within at = refl
zip-set (x ∷ ks) (r ∷ rs) zero k v within at = ap (λ q. (q, v) ∷ zip ks rs) (sym at)
zip-set (x ∷ ks) (r ∷ rs) (suc i) k v within at = ap (λ R. (x, r) ∷ R) (zip-set ks rs i k v (omega (arith, within)) at)

-- the pair at a place
pair-at : (ks : List RowKey) (rs : List (Option Row)) (i : ℕ) (k : RowKey) (v : Option Row) → length rs ≡ length ks → i < length ks → k ≡ get_or ks i k → v ≡ get_or rs i v → ◌≡◌ {A = RowKey × Option Row} (k, v) (get_or (zip ks rs) i (k, v))
pair-at ks rs i k v even within key_at row_at =
    (λ j. (key_at j, row_at j)) ∙ sym (get_or-zip ks rs i (k, v) within (omega (arith, within, even)))

-- in the words of a loop, where k is the key at i, and d stands for what is read beyond the end
module _ (S : State) (R : Rows) (p : Places) (i : ℕ) (ks : List RowKey) (rs : List (Option Row)) (k : RowKey) (d : Option Row) (even : length rs ≡ length ks) (within : i < length ks) (key_at : k ≡ get_or ks i k) where
  abbrev v : Option Row
  v = get_or rs i d

  here : ◌≡◌ {A = RowKey × Option Row} (k, v) (get_or (zip ks rs) i (k, v))
  here = pair-at ks rs i k v even within key_at (get_or_default rs i d v (omega (arith, within, even)))

  inside : i < length (zip ks rs)
  inside = omega (arith, within, length-beside ks rs even)

  pub beside-fits : (T : State) (places : Places) → IsSwapping S R p i T (zip ks rs) → places ≡ p → fits_row places k (get_or rs i d) ≡ true
  beside-fits T places is same = subst (λ x. fits_row x k v ≡ true) (sym same) (fits-at p (zip ks rs) i (k, v) inside here is.placed)

  pub beside-suits : (T : State) → IsSwapping S R p i T (zip ks rs) → SuitsKey k (get_or rs i d)
  beside-suits T is = suits-at (zip ks rs) i (k, v) inside here is.suited

  pub beside-step : (store new : Stored) (came : Option Row) → IsSwapping S R p i store.state (zip ks rs) → store.places ≡ p → new ≡ standing store (put store.state k (get_or rs i d)) → came ≡ row store.state k
      → SuitsKey k came → fits_row new.places k came ≡ true
      → IsSwapping S R p (i + 1) new.state (zip ks (set rs i came)) × (new.places ≡ p) × (length (set rs i came) ≡ length ks)
  beside-step store new came is same stands was suits fit =
      let places : new.places ≡ p = ap (λ s. s.places) stands ∙ same in
      let next : IsSwapping S R p (i + 1) (put store.state k v) (set (zip ks rs) i (k, came)) =
      swapping-next S R p i store.state (zip ks rs) (k, v) came is inside here was suits (subst (λ x. fits_row x k came ≡ true) places fit) in
      let listed : IsSwapping S R p (i + 1) (put store.state k v) (zip ks (set rs i came)) =
      subst (IsSwapping S R p (i + 1) (put store.state k v)) (sym (zip-set ks rs i k came within key_at)) next in
      (subst (λ T. IsSwapping S R p (i + 1) T (zip ks (set rs i came))) (sym (ap (λ s. s.state) stands)) listed, places, length-set rs i came ∙ even)

pub beside-end : (S T : State) (ks : List RowKey) (rs qs : List (Option Row)) (p : Places) (i : ℕ) → IsSwapping S (zip ks rs) p i T (zip ks qs) → length qs ≡ length ks → length qs ≤ i → ◌≡◌ {A = State × Rows} (T, zip ks qs) (exchange S (zip ks rs))
beside-end S T ks rs qs p i is even over =
    swapping-end S (zip ks rs) p i T (zip ks qs) is (omega (arith, over, length-beside ks qs even, even))

-- ---- whether all fit, key by key

module _ (p : Places) (R : Rows) (ks : List RowKey) (rs : List (Option Row)) (i : ℕ) (even : length rs ≡ length ks) (left : fits p (drop i (zip ks rs)) ≡ fits p R) where
  module _ (k : RowKey) (v : Option Row) (b : Bool) (within : i < length ks) (key_at : k ≡ get_or ks i k) (row_at : v ≡ get_or rs i v) (is : b ≡ fits_row p k v) where
    pub beside-not : b ≡ false → false ≡ fits p R
    beside-not = fits-not p R (zip ks rs) i (k, v) b (omega (arith, within, length-beside ks rs even)) (pair-at ks rs i k v even within key_at row_at) left is

    pub beside-next : b ≡ true → fits p (drop (i + 1) (zip ks rs)) ≡ fits p R
    beside-next = fits-next p R (zip ks rs) i (k, v) b (omega (arith, within, length-beside ks rs even)) (pair-at ks rs i k v even within key_at row_at) left is

  pub beside-all : length ks ≤ i → true ≡ fits p R
  beside-all over = fits-all p R (zip ks rs) i (omega (arith, over, length-beside ks rs even)) left

pub even-slices : {A B : Type 0} (xs ks : List A) (ys rs : List B) → xs ≡ ks → ys ≡ rs → length rs ≡ length ks → length ys ≡ length xs
even-slices xs ks ys rs p q even = ap length q ∙ even ∙ sym (ap length p)
