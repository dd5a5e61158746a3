-- What a call changed, by its record and the state after it.
use Rattle.std.proofs.Common.{◌≡◌, ℕ, zero, suc, ◌≤◌, Bool, false, not, cond, List, [], ◌∷◌, length, map, Option, Some, None, refl, sym, ◌∙◌, ap, arith}
use Rattle.std.specs.Prelude.{filter, slice_get, if◌then◌else◌}
use Rattle.std.specs.Option.{option_map}
use Rattle.zt_rows.specs.declared.keys.RowKey.{RowKey}
use Rattle.zt_rows.specs.declared.rows.Row.{Row}
use Rattle.zt_rows.specs.Change.{changed, before, differ_at, keys_of_both, rows_under}
use Rattle.zt_rows.specs.State.{State, row}
use Rattle.zt_rows.proofs.ChangeLaws.{with_rows-before, row-with_rows, option_row_eq-self}
use Rattle.zt_history.specs.TreeInvariant.{Falls, record_of, recorded_at}
use Rattle.zt_history.specs.Tree.{Made, parent_at, state_at}
use Rattle.zt_history.proofs.ListLaws.{get-within}
use Rattle.zt_history.proofs.PathLaws.{among-parent, among-self}
use Rattle.zt_look.specs.declared.changes.Change.{Change}
use Rattle.zt_look.specs.Changes.{changes, changes_at}
use Rattle.zt_look.specs.ProofsOnly.RecordSides.{row_before, change_under}

-- ---- nothing differs from itself

filter_none : {A : Type 0} (p : A → Bool) → ((x : A) → p x ≡ false) → (xs : List A) → filter p xs ≡ []
filter_none p never [] = refl
filter_none p never (x ∷ xs) = ap (λ b. cond b (x ∷ filter p xs) (filter p xs)) (never x) ∙ filter_none p never xs

abbrev pair_at : State → State → RowKey → Change
pair_at S T k = record { key = k; before = row S k; after = row T k }

changed-same : (S : State) → changed S S ≡ []
unfolding changed
changed-same S = filter_none (differ_at S S) (λ k. ap not (option_row_eq-self (row S k))) (keys_of_both S S)

changes-same : (S : State) → changes S S ≡ []
changes-same S = ap (map (pair_at S S)) (changed-same S)

-- ---- by the record

pub row-turned : (S T : State) (k : RowKey) → row_before (before S T) k (row T k) ≡ row S k
row-turned S T k = sym (row-with_rows T (before S T) k) ∙ ap (λ U. row U k) (with_rows-before S T)

pub keys-before : (S T : State) → map (λ e. e.0) (before S T) ≡ changed S T
unfolding before
keys-before S T = all (changed S T)
  where
    all : (ks : List RowKey) → map (λ e. e.0) (rows_under S ks) ≡ ks
    all [] = refl
    all (k ∷ ks) = ap (λ l. k ∷ l) (all ks)

under-before : (S T : State) (ks : List RowKey) → map (change_under (before S T) T) ks ≡ map (pair_at S T) ks
under-before S T [] = refl
under-before S T (k ∷ ks) =
    let P : Option Row → Change = λ r. record { key = k; before = r; after = row T k } in
    ap (λ c. c ∷ map (change_under (before S T) T) ks) (ap P (row-turned S T k)) ∙ ap (λ l. pair_at S T k ∷ l) (under-before S T ks)

changes-before : (S T : State) → map (change_under (before S T) T) (map (λ e. e.0) (before S T)) ≡ changes S T
changes-before S T = under-before S T (map (λ e. e.0) (before S T)) ∙ ap (map (pair_at S T)) (keys-before S T)

-- ---- at a position

some_same : {A : Type 0} (x y : A) → Some x ≡ Some y → x ≡ y
some_same x y e = cc

pub none_there : {A B : Type 0} (f : A → B) (o : Option A) (x : A) → o ≡ Some x → option_map f o ≡ None → ⊥
none_there f o x e n = cc

-- where there is no record there is no call, and nothing changed
pub unrecorded : (made : List Made) (m : ℕ) → m ≤ length made → recorded_at made m m ≡ None → changes_at made m ≡ []
unrecorded made zero h n = changes-same (state_at made 0)
unrecorded made (suc i) h n =
    let e = get-within made i (omega (arith, h)) in
    absurd (none_there (λ _. record_of made (suc i) (suc i)) (slice_get made i) e.0 e.1 n)

turned : (made : List Made) → Falls made → (i : ℕ) → record_of made (suc i) (suc i) ≡ before (state_at made (parent_at made (suc i))) (state_at made (suc i))
unfolding record_of
turned made falls i =
    ap (λ b. if b then before (state_at made (parent_at made (suc i))) (state_at made (suc i)) else before (state_at made (suc i)) (state_at made (parent_at made (suc i)))) (among-self made falls i)

pub given_record : {A B : Type 0} (o : Option A) (x y : B) → option_map (λ _. x) o ≡ Some y → x ≡ y
given_record (Some a) x y e = some_same x y e
given_record None x y e = cc

pub here-before : (made : List Made) → Falls made → (m : ℕ) (R : List (RowKey × Option Row)) → recorded_at made m m ≡ Some R → R ≡ before (state_at made (parent_at made m)) (state_at made m)
here-before made falls zero R e = cc
here-before made falls (suc i) R e = sym (given_record (slice_get made i) (record_of made (suc i) (suc i)) R e) ∙ turned made falls i

forth : (made : List Made) → Falls made → (i : ℕ) → record_of made (parent_at made (suc i)) (suc i) ≡ before (state_at made (suc i)) (state_at made (parent_at made (suc i)))
unfolding record_of
forth made falls i =
    ap (λ b. if b then before (state_at made (parent_at made (suc i))) (state_at made (suc i)) else before (state_at made (suc i)) (state_at made (parent_at made (suc i)))) (among-parent made falls i)

-- a moment's record, for a store at its parent, has the rows after its call
pub record-forth : (made : List Made) → Falls made → (m : ℕ) (R : List (RowKey × Option Row)) → recorded_at made (parent_at made m) m ≡ Some R → R ≡ before (state_at made m) (state_at made (parent_at made m))
record-forth made falls zero R e = cc
record-forth made falls (suc i) R e = sym (given_record (slice_get made i) (record_of made (parent_at made (suc i)) (suc i)) R e) ∙ forth made falls i

-- what stands under the keys of the record, in it and in the state, is what changed
pub recorded : (made : List Made) → Falls made → (m : ℕ) (R : List (RowKey × Option Row)) (ks : List RowKey) (T : State)
    → recorded_at made m m ≡ Some R → ks ≡ map (λ e. e.0) R → T ≡ state_at made m → map (change_under R T) ks ≡ changes_at made m
recorded made falls m R ks T e k t =
    let r : R ≡ before (state_at made (parent_at made m)) (state_at made m) = here-before made falls m R e in
    ap (map (change_under R T)) k
    ∙ ap (λ U. map (change_under R U) (map (λ e. e.0) R)) t
    ∙ ap (λ Q. map (change_under Q (state_at made m)) (map (λ e. e.0) Q)) r
    ∙ changes-before (state_at made (parent_at made m)) (state_at made m)
