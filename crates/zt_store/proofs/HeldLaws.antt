-- A look for a key among those of a record, which stand in order, each once.
use Rattle.std.proofs.Common.{◌≡◌, ◌<◌, ℕ, zero, suc, ◌+◌, inl, inr, Bool, true, false, ◌&&◌, T, List, [], ◌∷◌, length, get_or, Option, Some, None, refl, sym, ap, ◌∙◌, subst, arith}
use Rattle.std.specs.declared.cmp.Ordering.{Ordering}
use Rattle.std.specs.declared.cmp.Ordering.TheVariants.{Less, Equal, Greater}
use Rattle.std.specs.Ordering.{is_lt, ordering_index, ordering_reverse}
use Rattle.std.specs.Cmp.{tied_itself}
use Rattle.std.specs.FinMap.Entries as entries
use Rattle.std.specs.List.{HoldsAt, IsDistinct, slice_get, zip}
use Rattle.std.specs.List.Sorted.{IsNonDecreasingBy, IsPartitionPoint}
use Rattle.std.specs.Option.{option_map}
use Rattle.std.proofs.lemmas.Bool.{cases_lt}
use Rattle.std.proofs.lemmas.List.{get_or-map}
use Rattle.std.proofs.lemmas.List.Sorted.{searchable_from_sorted}
use Rattle.std.proofs.lemmas.Option.{slice_get-get_or, slice_get-map}
use Rattle.std.proofs.lemmas.Slice.Zip.{get_or-zip, length-zip, seconds-zip}
use Rattle.std.proofs.lemmas.Map.Views.{Contains-from_lookup, lookup-from_Contains}
use Rattle.zt_rows.specs.declared.keys.RowKey.{RowKey}
use Rattle.zt_rows.specs.declared.rows.Row.{Row}
use Rattle.zt_rows.specs.Keys.{rowkey_cmp, rowkey_eq}
use Rattle.zt_rows.specs.ProofsOnly.KeyOrder.{rowkey_cmp_total, rowkey_cmp-equal, rowkey_eq-equal}
use Rattle.zt_store.specs.RecordLook.{held}
use Rattle.zt_cells.specs.RowSlots.{decode_slot}
use Rattle.zt_store.specs.ProofsOnly.KeptRows.{pairs_of, under_keys}
use Rattle.zt_store.specs.ProofsOnly.RecordRows.{IsSlotRecord, IsRecord}
use Rattle.zt_store.proofs.SlotLaws.{under_keys-at}
use Rattle.zt_store.proofs.Fitting.{Rows}
use Rattle.zt_store.proofs.Exchanges.{keys_of, key_equality, find-lookup}
use Rattle.zt_store.proofs.RecordLaws.{distinct-record, listed-record}

some_same : {A : Type 0} (x y : A) → Some x ≡ Some y → x ≡ y
some_same x y e = cc

first : (a b : Bool) → T (a && b) → T a
first true b p = tt
first false b p = p

second : (a b : Bool) → T (a && b) → T b
second true b p = p
second false b p = absurd p

length-keys : (R : Rows) → length (keys_of R) ≡ length R
length-keys [] = refl
length-keys (e ∷ es) = ap suc (length-keys es)

-- the key of a row is the key at its place
key-at : (R : Rows) (i : ℕ) (d : RowKey) (e : RowKey × Option Row) → i < length R → get_or R i e ≡ e → get_or (keys_of R) i d ≡ e.0
key-at R i d e h at = get_or-map (λ (q : RowKey × Option Row). q.0) R i e d h ∙ ap (λ (q : RowKey × Option Row). q.0) at

-- ---- a key that was found

pub held-found : (ks : List RowKey) (rs : List (Option Row)) (k : RowKey) (i : ℕ) (v : Option Row) → IsRecord ks rs → i < length ks
    → HoldsAt (λ y. rowkey_cmp y k ≡ Equal) ks i → v ≡ get_or rs i v → Some v ≡ held (zip ks rs) k
held-found ks rs k i v is within tied at =
    let h : i < length rs = omega (arith, within, is.even) in
    let z : i < length (zip ks rs) = omega (arith, within, length-keys (zip ks rs), ap length (listed-record ks rs is)) in
    let same : get_or ks i k ≡ k = rowkey_cmp-equal (get_or ks i k) k (tied k) in
    let there : ◌≡◌ {A = RowKey × Option Row} (get_or (zip ks rs) i (k, v)) (k, v) = get_or-zip ks rs i (k, v) within h ∙ (λ j. (same j, sym at j)) in
    sym (find-lookup k (zip ks rs) ∙ lookup-from_Contains key_equality k v (zip ks rs) (distinct-record ks rs is) (i, z, there))

-- where rows are kept as slots, a key that is found at place i has in the record what the slot at i stands for under it
pub slot-found : (ks : List RowKey) (rs : List Row) (k : RowKey) (i : ℕ) (r : Row) → IsSlotRecord ks rs → i < length ks
    → HoldsAt (λ y. rowkey_cmp y k ≡ Equal) ks i → r ≡ get_or rs i r → Some (decode_slot k r) ≡ held (pairs_of ks rs) k
slot-found ks rs k i r is within tied at =
    held-found ks (under_keys ks rs) k i (decode_slot k r) is.recorded within tied
    (under_keys-at ks rs i k r is.even within (sym (rowkey_cmp-equal (get_or ks i k) k (tied k))) at)

both_there : (R : Rows) (i : ℕ) (k : RowKey) (v : Option Row) → option_map (λ e. e.0) (slice_get R i) ≡ Some k → option_map (λ e. e.1) (slice_get R i) ≡ Some v
    → ◌≡◌ {A = RowKey × Option Row} (get_or R i (k, v)) (k, v)
both_there [] i k v at_k at_v = cc
both_there (e ∷ R) zero k v at_k at_v = λ j. (some_same e.0 k at_k j, some_same e.1 v at_v j)
both_there (e ∷ R) (suc i) k v at_k at_v = both_there R i k v at_k at_v

-- ---- the row at a place

module _ (ks : List RowKey) (rs : List (Option Row)) (R : Rows) (is : IsRecord ks rs) (seen : zip ks rs ≡ R) (i : ℕ) (within : i < length R) where
  pub place-rows : i < length rs
  place-rows = omega (arith, ap length seen, length-zip ks rs)

  pub key-at-place : (k : RowKey) → k ≡ get_or ks i k → option_map (λ e. e.0) (slice_get R i) ≡ Some k
  key-at-place k at =
      ap (λ Q. option_map (λ e. e.0) (slice_get Q i)) (sym seen) ∙ sym (slice_get-map (λ (e : RowKey × Option Row). e.0) (zip ks rs) i)
      ∙ ap (λ xs. slice_get xs i) (sym (listed-record ks rs is)) ∙ slice_get-get_or ks i k (omega (arith, place-rows, is.even)) ∙ ap Some (sym at)

  pub held-at : (v : Option Row) → v ≡ get_or rs i v → option_map (λ e. e.1) (slice_get R i) ≡ Some v
  held-at v at =
      ap (λ Q. option_map (λ e. e.1) (slice_get Q i)) (sym seen) ∙ sym (slice_get-map (λ (e : RowKey × Option Row). e.1) (zip ks rs) i)
      ∙ ap (λ xs. slice_get xs i) (seconds-zip ks rs is.even) ∙ slice_get-get_or rs i v place-rows ∙ ap Some (sym at)

  -- under the key at a place the record has the row at that place
  pub held-under : (v : Option Row) → option_map (λ e. e.1) (slice_get R i) ≡ Some v → (k : RowKey) → option_map (λ e. e.0) (slice_get R i) ≡ Some k → held R k ≡ Some v
  held-under v at_v k at_k =
      let there : ◌≡◌ {A = RowKey × Option Row} (get_or R i (k, v)) (k, v) = both_there R i k v at_k at_v in
      find-lookup k R ∙ lookup-from_Contains key_equality k v R (subst (λ Q. IsDistinct rowkey_eq (keys_of Q)) seen (distinct-record ks rs is)) (i, within, there)

-- ---- a key that was not found

is_less : (o : Ordering) → T (is_lt o) → o ≡ Less
is_less Less h = refl
is_less Equal h = absurd h
is_less Greater h = absurd h

rising : (R : Rows) → T (entries.is_sorted rowkey_cmp R) → (j : ℕ) (d : RowKey) → suc j < length (keys_of R)
    → rowkey_cmp (get_or (keys_of R) j d) (get_or (keys_of R) (suc j) d) ≡ Less
rising [] h j d l = absurd (omega (arith, l))
rising (e ∷ []) h j d l = absurd (omega (arith, l))
rising (e ∷ f ∷ R) h zero d l = is_less _ (first _ _ (first _ _ h))
rising (e ∷ f ∷ R) h (suc j) d l = rising (f ∷ R) (second _ _ h) j d (omega (arith, l))

not_less : (o p : Ordering) → o ≡ Less → o ≡ ordering_reverse p → is_lt p ≡ false
not_less o Less e h = cc
not_less o Equal e h = refl
not_less o Greater e h = refl

searchable : (R : Rows) (k : RowKey) → T (entries.is_sorted rowkey_cmp R) → IsNonDecreasingBy (λ y. ordering_index (rowkey_cmp y k)) (keys_of R)
searchable R k h =
    searchable_from_sorted rowkey_cmp_total (λ y. y) (keys_of R) k
    (λ j d _ l. steps j d l)
  where
    steps : (j : ℕ) (d : RowKey) → j + 1 < length (keys_of R) → is_lt (rowkey_cmp (get_or (keys_of R) (j + 1) d) (get_or (keys_of R) j d)) ≡ false
    steps j d l =
        let next : suc j ≡ j + 1 = omega arith in
        let up : rowkey_cmp (get_or (keys_of R) j d) (get_or (keys_of R) (j + 1) d) ≡ Less =
        sym (ap (λ n. rowkey_cmp (get_or (keys_of R) j d) (get_or (keys_of R) n d)) next) ∙ rising R h j d (omega (arith, l)) in
        not_less _ _ up (rowkey_cmp_total.antisymm (get_or (keys_of R) j d) (get_or (keys_of R) (j + 1) d))

pub held-missing : (ks : List RowKey) (rs : List (Option Row)) (k : RowKey) (i : ℕ) → IsRecord ks rs
    → (IsNonDecreasingBy (λ y. ordering_index (rowkey_cmp y k)) ks → IsPartitionPoint (λ y. rowkey_cmp y k ≡ Less) (λ y. rowkey_cmp y k ≡ Greater) ks i)
    → None ≡ held (zip ks rs) k
held-missing ks rs k i is parts = at (entries.find rowkey_cmp k R) refl
  where
    R : Rows
    R = zip ks rs

    keys_are : ks ≡ keys_of R
    keys_are = listed-record ks rs is

    sides : IsPartitionPoint (λ y. rowkey_cmp y k ≡ Less) (λ y. rowkey_cmp y k ≡ Greater) ks i
    sides = parts (subst (IsNonDecreasingBy (λ y. ordering_index (rowkey_cmp y k))) (sym keys_are) (searchable R k is.ordered))

    apart : (j : ℕ) → j < length ks → rowkey_cmp (get_or ks j k) k ≡ Equal → ⊥
    apart j l e =
        elim (cases_lt j i) [
          | inl low ↦ let o : rowkey_cmp (get_or ks j k) k ≡ Less = sides.0 j k (omega arith) low in absurd (cc)
          | inr high ↦ let o : rowkey_cmp (get_or ks j k) k ≡ Greater = sides.1 j k high l in absurd (cc)
        ]

    at : (o : Option (Option Row)) → held R k ≡ o → None ≡ held R k
    at None e = sym e
    at (Some v) e =
        let there = Contains-from_lookup rowkey_eq-equal k v R (sym (find-lookup k R) ∙ e) in
        let key : get_or ks there.0 k ≡ k = ap (λ l. get_or l there.0 k) keys_are ∙ key-at R there.0 k (k, v) there.1 there.2 in
        absurd (apart there.0 (omega (arith, there.1, ap length keys_are, length-keys R)) (ap (λ y. rowkey_cmp y k) key ∙ tied_itself rowkey_cmp_total k))
