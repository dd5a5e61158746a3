-- Two states, compared at keys among which is each one at which they differ.
use Rattle.std.proofs.Common.{◌≡◌, ◌≤◌, ◌<◌, ℕ, zero, suc, Bool, true, false, not, cond, ◌&&◌, ◌||◌, T, List, [], ◌∷◌, ◌++◌, length, map, Option, Some, None, refl, sym, ◌∙◌, ap, subst, arith}
use Rattle.std.specs.Prelude.{◌==◌, filter, if◌then◌else◌, slice_get, Ok}
use Rattle.std.specs.BTreeSet.{BTreeSet, contains, IsOrdered}
use Rattle.std.specs.FinMap.Entries as entries
use Rattle.std.specs.List.{AllByRecursion, flat_map, list_any}
use Rattle.std.specs.List.Sorted.{IsStrictlySortedBy}
use Rattle.std.specs.Ordering.{is_lt}
use Rattle.std.specs.declared.cmp.Ordering.TheVariants.{Less}
use Rattle.std.proofs.lemmas.Bool.{eqb-true}
use Rattle.std.proofs.lemmas.Map.Keys.{sorted_head, sorted_tail}
use Rattle.zt_rows.specs.declared.keys.RowKey.{RowKey}
use Rattle.zt_rows.specs.declared.rows.Row.{Row}
use Rattle.zt_rows.specs.Change.{before, changed, differ_at, option_row_eq, rows_under}
use Rattle.zt_rows.specs.Keys.{rowkey_cmp}
use Rattle.zt_rows.specs.ProofsOnly.KeyOrder.{rowkey_eq-cmp}
use Rattle.zt_rows.specs.State.{State, row}
use Rattle.zt_rows.specs.Tests.{among}
use Rattle.zt_rows.proofs.ChangeLaws.{among-changed, among-filter, differ-turned, find-rows_under, is_before, option_row_eq-self, same_where_not_differ}
use Rattle.zt_rows.proofs.RowLaws.{true≢false}
use Rattle.zt_history.specs.HistoryRefusals.{◌>>=◌}
use Rattle.zt_history.specs.TreeInvariant.{Falls, record_of, recorded_at}
use Rattle.zt_history.specs.Tree.{Made, Tree, parent_at, path, state_at}
use Rattle.zt_history.proofs.ListLaws.{get-within}
use Rattle.zt_look.specs.declared.changes.Change.{Change}
use Rattle.zt_look.specs.Changes.{both_on, changed_between, changes}
use Rattle.zt_look.specs.ProofsOnly.TwoStates.{CoversChanges, IsSameBeside, change_from, is_key_of}
use Rattle.zt_look.proofs.ChangeLaws.{given_record, keys-before, none_there}

-- ---- a set of keys

pub contains-key : (keys : BTreeSet RowKey) (k : RowKey) → contains rowkey_cmp keys k ≡ is_key_of keys.keys k
contains-key keys k = λ i. list_any (λ x. rowkey_eq-cmp k x i) keys.keys

-- ---- the keys of a record

-- wherever the history stands, the record of a moment has the keys at which its call changed rows
pub recorded-keys : (made : List Made) (position m : ℕ) (R : List (RowKey × Option Row)) (k : RowKey) → recorded_at made position m ≡ Some R
    → is_key_of (map (λ e. e.0) R) k ≡ differ_at (state_at made (parent_at made m)) (state_at made m) k
unfolding record_of
recorded-keys made position zero R k e = cc
recorded-keys made position (suc i) R k e =
    ap (λ R. is_key_of (map (λ e. e.0) R) k) (sym (given_record (slice_get made i) (record_of made position (suc i)) R e))
    ∙ by (among (path made position) (suc i))
  where
    S : State
    S = state_at made (parent_at made (suc i))

    U : State
    U = state_at made (suc i)

    by : (b : Bool) → is_key_of (map (λ e. e.0) (if b then before S U else before U S)) k ≡ differ_at S U k
    by true = ap (λ ks. is_key_of ks k) (keys-before S U) ∙ among-changed S U k
    by false = ap (λ ks. is_key_of ks k) (keys-before U S) ∙ among-changed U S k ∙ differ-turned U S k

-- a moment of the tree has a record
pub recorded-there : (made : List Made) (position m : ℕ) → 0 < m → m ≤ length made → recorded_at made position m ≡ None → ⊥
recorded-there made position zero low high none = absurd (omega (arith, low))
recorded-there made position (suc i) low high none =
    let e = get-within made i (omega (arith, high)) in
    none_there (λ _. record_of made position (suc i)) (slice_get made i) e.0 e.1 none

-- ---- on the way from one moment to the other

or-parts : (a b : Bool) → (a || b) ≡ false → (a ≡ false) × (b ≡ false)
or-parts true b h = absurd (true≢false true refl h)
or-parts false b h = (refl, h)

module _ (S U V : State) (old new : BTreeSet RowKey) (adds : (k : RowKey) → contains rowkey_cmp new k ≡ (contains rowkey_cmp old k || differ_at U V k)) where
  -- back over a call whose keys are added
  pub beside-back : IsSameBeside S V old → IsSameBeside S U new
  beside-back same k none =
      let parts = or-parts (contains rowkey_cmp old k) (differ_at U V k) (sym (adds k) ∙ none) in
      same k parts.0 ∙ sym (same_where_not_differ U V k parts.1)

  pub beside-kept : (W : State) → IsSameBeside S W old → IsSameBeside S W new
  beside-kept W same k none =
      let parts = or-parts (contains rowkey_cmp old k) (differ_at U V k) (sym (adds k) ∙ none) in
      same k parts.0

-- the moment before one that is there is there too
pub parent-within : (made : List Made) → Falls made → (m p : ℕ) → m ≤ length made → p ≡ parent_at made m → p ≤ length made
parent-within made falls zero p h e = omega (arith, e)
parent-within made falls (suc i) p h e = omega (arith, h, e, falls i)

pub both-same : (a b : ℕ) → false ≡ not (a == b) → a ≡ b
both-same a b e = by (a == b) refl
  where
    by : (t : Bool) → (a == b) ≡ t → a ≡ b
    by true h = eqb-true a b h
    by false h = absurd (true≢false (not (a == b)) (ap not h) (sym e))

-- where both ways meet
pub beside-met : (S T U : State) (keys : BTreeSet RowKey) → IsSameBeside S U keys → IsSameBeside T U keys → CoversChanges S T keys
beside-met S T U keys left right k differs = by (contains rowkey_cmp keys k) refl
  where
    by : (b : Bool) → contains rowkey_cmp keys k ≡ b → contains rowkey_cmp keys k ≡ true
    by true e = e
    by false e =
        let same : row S k ≡ row T k = left k e ∙ sym (right k e) in
        absurd (true≢false (differ_at S T k) differs (ap (λ r. not (option_row_eq r (row T k))) same ∙ ap not (option_row_eq-self (row T k))))

-- ---- a list in order that has each key at which two states differ

less-is : (a b : RowKey) → rowkey_cmp a b ≡ Less → T (is_lt (rowkey_cmp a b))
less-is a b e = subst (λ o. T (is_lt o)) (sym e) tt

both : (a b : Bool) → T a → T b → T (a && b)
both true b p q = q
both false b p q = p

below-under : (S : State) (p : RowKey → Bool) (x : RowKey) (ks : List RowKey) → AllByRecursion (λ y. rowkey_cmp x y ≡ Less) ks → T (entries.below_all rowkey_cmp x (rows_under S (filter p ks)))
below-under S p x [] h = tt
below-under S p x (k ∷ ks) h =
    elim (p k) as (λ b. T (entries.below_all rowkey_cmp x (rows_under S (cond b (k ∷ filter p ks) (filter p ks))))) [
      | true ↦ both _ _ (less-is x k h.0) (below-under S p x ks h.1)
      | false ↦ below-under S p x ks h.1
    ]

sorted-under : (S : State) (p : RowKey → Bool) (ks : List RowKey) → IsStrictlySortedBy rowkey_cmp ks → T (entries.is_sorted rowkey_cmp (rows_under S (filter p ks)))
sorted-under S p [] up = tt
sorted-under S p (k ∷ ks) up =
    elim (p k) as (λ b. T (entries.is_sorted rowkey_cmp (rows_under S (cond b (k ∷ filter p ks) (filter p ks))))) [
      | true ↦ both _ _ (below-under S p k ks (sorted_head rowkey_cmp k ks up)) (sorted-under S p ks (sorted_tail rowkey_cmp k ks up))
      | false ↦ sorted-under S p ks (sorted_tail rowkey_cmp k ks up)
    ]

narrowed : (a b : Bool) → (a ≡ true → b ≡ true) → (a && b) ≡ a
narrowed true b h = h refl
narrowed false b h = refl

keys-under : (S : State) (ks : List RowKey) → map (λ e. e.0) (rows_under S ks) ≡ ks
keys-under S [] = refl
keys-under S (k ∷ ks) = ap (λ l. k ∷ l) (keys-under S ks)

-- of these keys, those at which the states differ are all at which they do, in order
covered : (S T : State) (keys : BTreeSet RowKey) → CoversChanges S T keys → IsOrdered rowkey_cmp keys → filter (differ_at S T) keys.keys ≡ changed S T
covered S T keys covers up =
    sym (keys-under S (filter (differ_at S T) keys.keys))
    ∙ ap (map (λ e. e.0)) (is_before S T (rows_under S (filter (differ_at S T) keys.keys)) (sorted-under S (differ_at S T) keys.keys up) found)
    ∙ keys-before S T
  where
    found : (q : RowKey) → entries.find rowkey_cmp q (rows_under S (filter (differ_at S T) keys.keys)) ≡ cond (differ_at S T q) (Some (row S q)) None
    found q =
        find-rows_under S q (filter (differ_at S T) keys.keys)
        ∙ ap (λ b. cond b (Some (row S q)) None)
        (among-filter (differ_at S T) q keys.keys ∙ narrowed (differ_at S T q) (is_key_of keys.keys q) (λ d. sym (contains-key keys q) ∙ covers q d))

-- ---- the rows that differ

module _ (S T : State) where
  abbrev pair_at : RowKey → Change
  pair_at k = record { key = k; before = row S k; after = row T k }

  next-from : (k : RowKey) (b : Bool) (rest : List RowKey)
      → (if b then [] else pair_at k ∷ []) ++ map pair_at rest ≡ map pair_at (cond (not b) (k ∷ rest) rest)
  next-from k true rest = refl
  next-from k false rest = refl

  from-under : (ks : List RowKey) → flat_map (change_from T) (rows_under S ks) ≡ map pair_at (filter (differ_at S T) ks)
  from-under [] = refl
  from-under (k ∷ ks) =
      ap (λ l. change_from T (k, row S k) ++ l) (from-under ks) ∙ next-from k (option_row_eq (row S k) (row T k)) (filter (differ_at S T) ks)

  changes-under : (keys : BTreeSet RowKey) → CoversChanges S T keys → IsOrdered rowkey_cmp keys → flat_map (change_from T) (rows_under S keys.keys) ≡ changes S T
  changes-under keys covers up = from-under keys.keys ∙ ap (map pair_at) (covered S T keys covers up)

-- what differs between two moments of the tree, by copies of the rows at the one and the state of the other
pub told-between : (t : Tree) (a b : ℕ) (S T : State) (keys : BTreeSet RowKey) (rows : List (RowKey × Option Row)) (list : List Change) → both_on t a b ≡ Ok b
    → S ≡ state_at t.made a → T ≡ state_at t.made b → CoversChanges (state_at t.made a) (state_at t.made b) keys → IsOrdered rowkey_cmp keys
    → rows ≡ rows_under S keys.keys → list ≡ flat_map (change_from T) rows → changed_between t a b ≡ Ok list
told-between t a b S T keys rows list there first second covers up copied told =
    ap (λ r. r >>= λ _. Ok (changes (state_at t.made a) (state_at t.made b))) there
    ∙ ap Ok (sym (
    told ∙ ap (flat_map (change_from T)) copied
    ∙ ap (λ S. flat_map (change_from T) (rows_under S keys.keys)) first
    ∙ ap (λ T. flat_map (change_from T) (rows_under (state_at t.made a) keys.keys)) second
    ∙ changes-under (state_at t.made a) (state_at t.made b) keys covers up
    ))
