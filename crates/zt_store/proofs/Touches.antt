-- What a step's parts say of the step: which keys were put, what stood under them, and what one more put makes of it.
use Rattle.std.proofs.Common.{◌≡◌, ℕ, ◌+◌, ◌<◌, ◌≤◌, Bool, true, false, cond, List, [], ◌∷◌, ◌++◌, take, get_or, length, Option, Some, None, is_some, refl, sym, ap, ◌∙◌, subst, unwrap_or, arith}
use Rattle.std.specs.Prelude.{slice_get}
use Rattle.std.specs.FinMap.Entries as entries
use Rattle.std.specs.List.{IsDistinct}
use Rattle.std.proofs.lemmas.List.{length-map, map-append, length-append, take_all, take_more}
use Rattle.std.proofs.lemmas.List.Folds.{list_any-append}
use Rattle.std.proofs.lemmas.Map.Entries.{lookup_from_place}
use Rattle.std.proofs.lemmas.Map.Keys.{IsDistinct-push, any_passes_from_place}
use Rattle.std.proofs.lemmas.Option.{slice_get-get_or, slice_get_within, slice_get-map}
use Rattle.zt_rows.specs.declared.keys.RowKey.{RowKey}
use Rattle.zt_rows.specs.declared.rows.Row.{Row}
use Rattle.zt_rows.specs.Keys.{rowkey_cmp, rowkey_eq}
use Rattle.zt_rows.specs.ProofsOnly.KeyOrder.{rowkey_eq-self}
use Rattle.zt_rows.specs.State.{State, row, put}
use Rattle.zt_rows.specs.Change.{with_rows}
use Rattle.zt_rows.specs.Room.{SuitsKey}
use Rattle.zt_rows.proofs.ChangeLaws.{row-with_rows}
use Rattle.zt_store.specs.Places.{Keeps, fits, fits_row}
use Rattle.zt_store.specs.StoreView.{Stored}
use Rattle.zt_store.specs.ProofsOnly.StoreView.{standing, AllSuit}
use Rattle.zt_store.specs.StepView.{Stepping, listed, with_key, put_on, DiffersAtTouched}
use Rattle.zt_store.specs.ProofsOnly.StepRows.{IsTouching, IsPlaceOf}
use Rattle.zt_store.specs.ProofsOnly.TouchedIndex.{AreNoted}
use Rattle.zt_store.specs.declared.touched_index.TouchedIndex.{TouchedIndex}
use Rattle.zt_store.proofs.TouchedIndexLaws.{alone}
use Rattle.zt_store.proofs.Fitting.{Rows, fits-nil, fits-push, suits-push}
use Rattle.zt_store.proofs.Exchanges.{keys_of, key_equality, find-lookup, row-unlisted, with_rows-put_listed, with_rows-push}

-- how a step over the store with these before-images is seen
abbrev pub stepping_of : Stored → Rows → Stepping
stepping_of store firsts = record { beginning = with_rows store.state firsts; current = store.state; touched = keys_of firsts; places = store.places }

-- ---- nothing put yet

pub noted-none : (places : TouchedIndex) (ks : List RowKey) → places.last.items ≡ [] → AreNoted places ks
noted-none places ks bare = record { chained = λ some. absurd (omega (arith, some, ap length bare)) }

pub touching-none : (store : Stored) (firsts : Rows) (places : TouchedIndex) (room : ℕ) → firsts ≡ [] → places.last.items ≡ [] → IsTouching store firsts places room
unfolding IsDistinct
touching-none store firsts places room f bare = record {
  distinct = subst (λ es. IsDistinct rowkey_eq (keys_of es)) (sym f) tt;
  noted = noted-none places (keys_of firsts) bare;
  suited = subst AllSuit (sym f) tt;
  placed = ap (fits store.places) f ∙ fits-nil store.places;
  roomy = omega (arith, ap length f);
}

-- ---- which keys were put

pub place-listed : (ks : List RowKey) (k : RowKey) (found : Option ℕ) → IsPlaceOf ks k found → is_some found ≡ listed ks k
place-listed ks k None out = sym out
place-listed ks k (Some i) at = sym (any_passes_from_place (rowkey_eq k) ks i k at (rowkey_eq-self k))

-- ---- a look at each key

pub among-next : (ks : List RowKey) (i : ℕ) (x : RowKey) (k : RowKey) (b : Bool) → i < length ks → x ≡ get_or ks i x → listed (take i ks) k ≡ false → b ≡ rowkey_eq k x → b ≡ false → listed (take (i + 1) ks) k ≡ false
among-next ks i x k b within read out test apart =
    ap (λ xs. listed xs k) (take_more ks i x within ∙ ap (λ y. take i ks ++ y ∷ []) (sym read)) ∙ list_any-append (rowkey_eq k) (take i ks) (x ∷ [])
    ∙ alone (listed (take i ks) k) (rowkey_eq k x) out (sym test ∙ apart)

pub among-none : (ks : List RowKey) (i : ℕ) (k : RowKey) → length ks ≤ i → listed (take i ks) k ≡ false → listed ks k ≡ false
among-none ks i k over out = ap (λ xs. listed xs k) (sym (take_all i ks over)) ∙ out

module _ (store : Stored) (firsts : Rows) (places : TouchedIndex) (room : ℕ) (step : Stepping) (is : IsTouching store firsts places room) (seen : stepping_of store firsts ≡ step) where
  pub is_touched : (k : RowKey) (found : Option ℕ) (b : Bool) → b ≡ is_some found → IsPlaceOf step.touched k found → b ≡ listed step.touched k
  is_touched k found b test at = test ∙ place-listed step.touched k found at

  pub others_as_before : DiffersAtTouched step
  others_as_before =
      subst DiffersAtTouched seen (λ k out. sym (row-unlisted store.state firsts k out))

  placed_here : (k : RowKey) (found : Option ℕ) → IsPlaceOf step.touched k found → IsPlaceOf (keys_of firsts) k found
  placed_here k found at = subst (λ s. IsPlaceOf s.touched k found) (sym seen) at

  pub placed_there : (k : RowKey) (found : Option ℕ) → IsPlaceOf (keys_of firsts) k found → IsPlaceOf step.touched k found
  placed_there k found at = subst (λ s. IsPlaceOf s.touched k found) seen at

  pub was-current : (k : RowKey) (found : Option ℕ) (r : Option Row) → IsPlaceOf step.touched k found → found ≡ None → r ≡ row store.state k → r ≡ row step.beginning k
  was-current k found r at none here =
      here ∙ sym (row-unlisted store.state firsts k (subst (IsPlaceOf (keys_of firsts) k) none (placed_here k found at))) ∙ ap (λ s. row s.beginning k) seen

  pub place_bound : (k : RowKey) (found : Option ℕ) (i : ℕ) → IsPlaceOf step.touched k found → found ≡ Some i → i < length firsts
  place_bound k found i at some =
      let b : i < length (keys_of firsts) = slice_get_within (keys_of firsts) i k (subst (IsPlaceOf (keys_of firsts) k) some (placed_here k found at)) in
      omega (arith, length-map firsts (λ (e : RowKey × Option Row). e.0))

  pub first_bound : (i : ℕ) → i < length step.touched → i < length firsts
  first_bound i within = omega (arith, within, ap (λ s. length s.touched) seen, length-map firsts (λ (e : RowKey × Option Row). e.0))

  pub was-first : (k : RowKey) (found : Option ℕ) (i : ℕ) (e : RowKey × Option Row) (r : Option Row) → IsPlaceOf step.touched k found → found ≡ Some i → e ≡ get_or firsts i e → r ≡ e.1 → r ≡ row step.beginning k
  was-first k found i e r is_place some at first =
      let within : i < length firsts = place_bound k found i is_place some in
      let here : slice_get firsts i ≡ Some e = slice_get-get_or firsts i e within ∙ ap Some (sym at) in
      let same : Some e.0 ≡ Some k = ap (λ (o : Option (RowKey × Option Row)). Rattle.std.specs.Option.option_map (λ x. x.0) o) (sym here) ∙ sym (slice_get-map (λ (x : RowKey × Option Row). x.0) firsts i) ∙ subst (IsPlaceOf (keys_of firsts) k) some (placed_here k found is_place) in
      let key_is : e.0 ≡ k = cc in
      let pair : ◌≡◌ {A = Option (RowKey × Option Row)} (slice_get firsts i) (Some (k, e.1)) = here ∙ ap (λ x. Some (x, e.1)) key_is in
      let found_row : entries.find rowkey_cmp k firsts ≡ Some e.1 = find-lookup k firsts ∙ lookup_from_place key_equality firsts i k e.1 is.distinct pair in
      first ∙ sym (row-with_rows store.state firsts k ∙ ap (λ o. unwrap_or o (row store.state k)) found_row) ∙ ap (λ s. row s.beginning k) seen

  pub was-touched : (k : RowKey) (i : ℕ) (e : RowKey × Option Row) (r : Option Row) → slice_get step.touched i ≡ Some k → e ≡ get_or firsts i e → r ≡ e.1 → r ≡ row step.beginning k
  was-touched k i e r there at first = was-first k (Some i) i e r there refl at first

-- ---- one more put

with_key-there : (ks : List RowKey) (k : RowKey) → listed ks k ≡ true → ks ≡ with_key ks k
with_key-there ks k here = sym (ap (λ b. cond b ks (ks ++ k ∷ [])) here)

with_key-new : (ks : List RowKey) (k : RowKey) → listed ks k ≡ false → ks ++ k ∷ [] ≡ with_key ks k
with_key-new ks k out = sym (ap (λ b. cond b ks (ks ++ k ∷ [])) out)

module _ (old made new : Stored) (firsts : Rows) (places : TouchedIndex) (room : ℕ) (k : RowKey) (r : Option Row) (is : IsTouching old firsts places room)
    (same : made.state ≡ old.state) (stands : new ≡ standing made (put made.state k r)) where
  state_after : new.state ≡ put old.state k r
  state_after = ap (λ s. s.state) stands ∙ ap (λ S. put S k r) same

  -- under a key that was put before
  put_again-here : listed (keys_of firsts) k ≡ true → stepping_of new firsts ≡ put_on (stepping_of old firsts) new.places k r
  put_again-here here =
      let beginning : with_rows new.state firsts ≡ with_rows old.state firsts =
      ap (λ S. with_rows S firsts) state_after ∙ with_rows-put_listed old.state k r firsts here in
      λ i. record { beginning = beginning i; current = state_after i; touched = with_key-there (keys_of firsts) k here i; places = new.places }

  pub put_again-seen : (step : Stepping) → stepping_of old firsts ≡ step → listed step.touched k ≡ true → stepping_of new firsts ≡ put_on step new.places k r
  put_again-seen step seen here =
      put_again-here (ap (λ s. listed s.touched k) seen ∙ here) ∙ ap (λ s. put_on s new.places k r) seen

  -- under a new key, whose old row comes to the before-images
  module _ (v : Option Row) (more : Rows) (was : v ≡ row made.state k) (pushed : more ≡ firsts ++ (k, v) ∷ []) where
    put_first-here : listed (keys_of firsts) k ≡ false → stepping_of new more ≡ put_on (stepping_of old firsts) new.places k r
    put_first-here out =
        let first : v ≡ row old.state k = was ∙ ap (λ S. row S k) same in
        let beginning : with_rows new.state more ≡ with_rows old.state firsts =
        (λ i. with_rows (state_after i) (pushed i)) ∙ ap (λ x. with_rows (put old.state k r) (firsts ++ (k, x) ∷ [])) first
        ∙ with_rows-push old.state k r firsts out in
        let touched : keys_of more ≡ with_key (keys_of firsts) k =
        ap keys_of pushed ∙ map-append (λ (e : RowKey × Option Row). e.0) firsts ((k, v) ∷ []) ∙ with_key-new (keys_of firsts) k out in
        λ i. record { beginning = beginning i; current = state_after i; touched = touched i; places = new.places }

    pub put_first-seen : (step : Stepping) → stepping_of old firsts ≡ step → listed step.touched k ≡ false → stepping_of new more ≡ put_on step new.places k r
    put_first-seen step seen out =
        put_first-here (ap (λ s. listed s.touched k) seen ∙ out) ∙ ap (λ s. put_on s new.places k r) seen

-- ---- the before-images with one more

-- before-images stay right in a store that keeps what fitted, with an index that notes their keys and at least as much room
pub touching-still : (old new : Stored) (firsts same : Rows) (places other : TouchedIndex) (room more_room : ℕ) → IsTouching old firsts places room
    → Keeps old.places new.places → same ≡ firsts → AreNoted other (keys_of same) → room ≤ more_room → IsTouching new same other more_room
touching-still old new firsts same places other room more_room is kept e noted more = record {
  distinct = subst (λ es. IsDistinct rowkey_eq (keys_of es)) (sym e) is.distinct;
  noted = noted;
  suited = subst AllSuit (sym e) is.suited;
  placed = ap (fits new.places) e ∙ kept firsts is.placed;
  roomy = omega (arith, is.roomy, ap length e, more);
}

pub touching-push : (old new : Stored) (firsts more : Rows) (places more_places : TouchedIndex) (room more_room : ℕ) (k : RowKey) (v : Option Row) (n : ℕ) → IsTouching old firsts places room
    → Keeps old.places new.places → listed (keys_of firsts) k ≡ false → SuitsKey k v → fits_row new.places k v ≡ true
    → more ≡ firsts ++ (k, v) ∷ [] → n ≡ length firsts → n + 1 ≤ more_room → AreNoted more_places (keys_of firsts ++ k ∷ []) → IsTouching new more more_places more_room
touching-push old new firsts more places more_places room more_room k v n is kept out suits fit pushed counted roomy noted =
    let keys : keys_of more ≡ keys_of firsts ++ k ∷ [] = ap keys_of pushed ∙ map-append (λ (e : RowKey × Option Row). e.0) firsts ((k, v) ∷ []) in
    record {
      distinct = subst (IsDistinct rowkey_eq) (sym keys) (IsDistinct-push key_equality (keys_of firsts) k is.distinct out);
      noted = subst (AreNoted more_places) (sym keys) noted;
      suited = subst AllSuit (sym pushed) (suits-push firsts k v is.suited suits);
      placed = ap (fits new.places) pushed ∙ fits-push new.places firsts k v (kept firsts is.placed) fit;
      roomy = omega (arith, ap length pushed, length-append firsts ((k, v) ∷ []), counted, roomy);
    }

pub places-kept : (old made new : Stored) (T : State) → new ≡ standing made T → Keeps old.places made.places → Keeps old.places new.places
places-kept old made new T stands kept = subst (λ p. Keeps old.places p) (sym (ap (λ s. s.places) stands)) kept
