-- Tables of places and tables by owner: what stands at a place after an exchange and after a growth.
use Rattle.std.proofs.Common.{zero, suc, ◌≡◌, ◌≤◌, ◌<◌, ℕ, ◌+◌, List, [], ◌∷◌, ◌++◌, length, get_or, set, Option, refl, arith, ⊎_elim}
use Rattle.std.proofs.lemmas.Bool.{cases_lt}
use Rattle.std.proofs.lemmas.List.{get_or_past}
use Rattle.std.proofs.lemmas.List.Sums.{sum_by-set, sum-map, get_or-le-sum_by}
use Rattle.std.specs.List.{sum}
use Rattle.zt_rows.specs.declared.rows.Row.{Row}
use Rattle.zt_cells.specs.ProofsOnly.TablePlaces.{table, lengths, by_owner, entry_places}

-- ---- tables by owner

-- one owner more with no place
pub table_push : (tables : List (List (Option Row))) (added : List (Option Row)) (x : ℕ) → added ≡ [] → table (tables ++ added ∷ []) x ≡ table tables x
table_push [] added zero e = e
table_push [] added (suc x) e = refl
table_push (t ∷ ts) added zero e = refl
table_push (t ∷ ts) added (suc x) e = table_push ts added x e

-- another table for one owner
pub lengths_set : (tables : List (List (Option Row))) (x : ℕ) (places : List (Option Row)) → x < length tables → sum (lengths (set tables x places)) + length (table tables x) ≡ sum (lengths tables) + length places
lengths_set tables x places h =
    let s = sum_by-set length tables x places [] h in
    let a = sum-map length (set tables x places) in
    let b = sum-map length tables in
    rw (a, b) s

-- ---- the entries

-- other tables for the values of one remainder
pub entry_places-set : (sizes : List (List (List (Option Row)))) (r : ℕ) (tables : List (List (Option Row))) → r < length sizes → entry_places (set sizes r tables) + sum (lengths (by_owner sizes r)) ≡ entry_places sizes + sum (lengths tables)
entry_places-set sizes r tables h =
    let s = sum_by-set (λ ts. sum (lengths ts)) sizes r tables [] h in
    let a = sum-map (λ ts. sum (lengths ts)) (set sizes r tables) in
    let b = sum-map (λ ts. sum (lengths ts)) sizes in
    rw (a, b) s

pub length_table : (tables : List (List (Option Row))) (x : ℕ) → length (table tables x) ≤ sum (lengths tables)
length_table tables x =
    ⊎_elim (λ h. let s = get_or-le-sum_by length tables x [] h in rw (sum-map length tables) s) (λ h. rw (get_or_past tables x [] h) (omega arith)) (cases_lt x (length tables))

-- no table has more places than all
pub length_entry_table : (sizes : List (List (List (Option Row)))) (r x : ℕ) → length (table (by_owner sizes r) x) ≤ entry_places sizes
length_entry_table sizes r x =
    let t = length_table (by_owner sizes r) x in
    let l : sum (lengths (by_owner sizes r)) ≤ entry_places sizes =
    ⊎_elim (λ h. let s = get_or-le-sum_by (λ ts. sum (lengths ts)) sizes r [] h in rw (sum-map (λ ts. sum (lengths ts)) sizes) s) (λ h. rw (get_or_past sizes r [] h) (omega arith)) (cases_lt r (length sizes)) in
    omega arith

pub ruleset entry_laws = (entry_places-set, length_entry_table)

-- a list of four is made of what stands in it
pub of_four : {A : Type 0} (xs : List A) (a b c d p q r s : A) → length xs ≡ 4 → a ≡ get_or xs 0 p → b ≡ get_or xs 1 q → c ≡ get_or xs 2 r → d ≡ get_or xs 3 s → (a ∷ b ∷ c ∷ d ∷ []) ≡ xs
of_four [] a b c d p q r s n i j k l = absurd (omega arith)
of_four (x ∷ []) a b c d p q r s n i j k l = absurd (omega arith)
of_four (x ∷ y ∷ []) a b c d p q r s n i j k l = absurd (omega arith)
of_four (x ∷ y ∷ z ∷ []) a b c d p q r s n i j k l = absurd (omega arith)
of_four (x ∷ y ∷ z ∷ w ∷ []) a b c d p q r s n i j k l = λ t. i t ∷ j t ∷ k t ∷ l t ∷ []
of_four (x ∷ y ∷ z ∷ w ∷ v ∷ xs) a b c d p q r s n i j k l = absurd (omega arith)
