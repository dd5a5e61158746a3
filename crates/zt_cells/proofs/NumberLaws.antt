-- Tables by owner as numbers and tables: which places an owner has, also where its table is another one, or one table more is
-- made.
use Rattle.std.proofs.Common.{suc, ◌≡◌, ◌≢◌, ◌≤◌, ◌<◌, ℕ, ◌+◌, Bool, true, false, cond, ◌==◌, List, [], ◌∷◌, ◌++◌, map, length, get_or, set, Option, refl, sym, ap, ◌∙◌, subst, arith, ◌⊎◌, inl, inr, ⊎_elim}
use Rattle.std.proofs.lemmas.Bool.{cases_eq, cases_lt, eq-eqb, ne_eqb, eqb-true}
use Rattle.std.proofs.lemmas.List.{ext_get_or, get_or-map, get_or_default, get_or_past, length-map, length-set, length-append}
use Rattle.std.proofs.lemmas.List.Sums.{sum_by-cons}
use Rattle.std.specs.List.{sum}
use Rattle.zt_rows.specs.declared.rows.Row.{Row}
use Rattle.zt_cells.specs.ProofsOnly.NumberedTables.{no_table, number_of, numbered, AreNumbers}
use Rattle.zt_cells.specs.ProofsOnly.TablePlaces.{cell, cell_at, table, lengths}
use Rattle.zt_cells.proofs.GridLaws.{table_push, lengths_set}
use Rattle.zt_cells.proofs.RowTableLaws.{get_or-set}

-- ---- numbers and tables

pub no_numbers : (tables : List (List (Option Row))) → numbered [] tables ≡ []
unfolding numbered
no_numbers tables = refl

pub length-numbered : (numbers : List ℕ) (tables : List (List (Option Row))) → length (numbered numbers tables) ≡ length numbers
unfolding numbered
length-numbered numbers tables = length-map numbers (table tables)

pub ruleset owner_laws = (no_numbers, length-numbered)

-- an owner's places are those of the table that has its number
pub table-numbered : (numbers : List ℕ) (tables : List (List (Option Row))) (x : ℕ) → length tables ≤ no_table → table (numbered numbers tables) x ≡ table tables (number_of numbers x)
unfolding numbered
table-numbered numbers tables x few =
    ⊎_elim (λ h. get_or-map (table tables) numbers x no_table [] h)
    (λ h.
    let l : length (map (table tables) numbers) ≤ x = rw (length-map numbers (table tables)) h in
    get_or_past (map (table tables) numbers) x [] l
    ∙ sym (ap (table tables) (get_or_past numbers x no_table h) ∙ get_or_past tables no_table [] few))
    (cases_lt x (length numbers))

pub table-seen : (numbers : List ℕ) (tables seen : List (List (Option Row))) (x : ℕ) → AreNumbers numbers (length tables) → numbered numbers tables ≡ seen → table tables (number_of numbers x) ≡ table seen x
table-seen numbers tables seen x are is = sym (table-numbered numbers tables x are.few) ∙ ap (λ t. table t x) is

-- who has a table is one of the owners
pub owner-numbered : (numbers : List ℕ) (x count : ℕ) → count ≤ no_table → number_of numbers x < count → x < length numbers
owner-numbered numbers x count few h =
    ⊎_elim (λ l. l) (λ l. let e : number_of numbers x ≡ no_table = get_or_past numbers x no_table l in absurd (omega arith)) (cases_lt x (length numbers))

-- who has places has a table
pub number-numbered : (numbers : List ℕ) (tables : List (List (Option Row))) (x n : ℕ) → length tables ≤ no_table → n < length (table (numbered numbers tables) x) → number_of numbers x < length tables
number-numbered numbers tables x n few h =
    ⊎_elim (λ l. l) (λ l. let e : length (table (numbered numbers tables) x) ≡ 0 = ap length (table-numbered numbers tables x few ∙ get_or_past tables (number_of numbers x) [] l) in absurd (omega arith)) (cases_lt (number_of numbers x) (length tables))

pub number-seen : (numbers : List ℕ) (tables seen : List (List (Option Row))) (x n : ℕ) → AreNumbers numbers (length tables) → numbered numbers tables ≡ seen → n < length (table seen x) → number_of numbers x < length tables
number-seen numbers tables seen x n are is h =
    number-numbered numbers tables x n are.few (subst (λ (t : List (List (Option Row))). n < length (table t x)) (sym is) h)

-- a number as it was read
pub number-read : (numbers : List ℕ) (x count n : ℕ) → count ≤ no_table → number_of numbers x < count → n ≡ get_or numbers x n → n ≡ number_of numbers x
number-read numbers x count n few h e =
    e ∙ get_or_default numbers x n no_table (owner-numbered numbers x count few h)

-- ---- another table in the place of one

same_number : (numbers : List ℕ) (count x : ℕ) → AreNumbers numbers count → number_of numbers x < count → (y : ℕ) → (number_of numbers y == number_of numbers x) ≡ (y == x)
same_number numbers count x are h y =
    ⊎_elim (λ s. eq-eqb (number_of numbers y) (number_of numbers x) (ap (number_of numbers) s) ∙ sym (eq-eqb y x s)) (λ s. ne_eqb (number_of numbers y) (number_of numbers x) (λ d. s (sym (are.apart x y (sym d) h))) ∙ sym (ne_eqb y x s)) (cases_eq y x)

pub set-numbered : (numbers : List ℕ) (tables : List (List (Option Row))) (x : ℕ) (places : List (Option Row)) → AreNumbers numbers (length tables) → number_of numbers x < length tables → numbered numbers (set tables (number_of numbers x) places) ≡ set (numbered numbers tables) x places
set-numbered numbers tables x places are h =
    let within : x < length numbers = owner-numbered numbers x (length tables) are.few h in
    let there : x < length (numbered numbers tables) = rw (length-numbered numbers tables) within in
    let few : length (set tables (number_of numbers x) places) ≤ no_table = rw (length-set tables (number_of numbers x) places) are.few in
    ext_get_or [] (numbered numbers (set tables (number_of numbers x) places)) (set (numbered numbers tables) x places)
    (length-numbered numbers (set tables (number_of numbers x) places) ∙ sym (length-set (numbered numbers tables) x places ∙ length-numbered numbers tables))
    (λ y _.
    table-numbered numbers (set tables (number_of numbers x) places) y few
    ∙ get_or-set tables (number_of numbers x) places [] h (number_of numbers y)
    ∙ ap (λ b. cond b places (table tables (number_of numbers y))) (same_number numbers (length tables) x are h y)
    ∙ ap (cond (y == x) places) (sym (table-numbered numbers tables y are.few))
    ∙ sym (get_or-set (numbered numbers tables) x places [] there y))

-- ---- the same numbers, in a longer list

pub numbers-same : (old new : List ℕ) (count : ℕ) → ((x : ℕ) → number_of new x ≡ number_of old x) → AreNumbers old count → AreNumbers new count
numbers-same old new count e are = record {
  known = λ x. subst (λ n. (n < count) ⊎ (n ≡ no_table)) (sym (e x)) (are.known x);
  apart = λ x y same h. are.apart x y (sym (e x) ∙ same ∙ e y) (subst (λ n. n < count) (e x) h);
  few = are.few;
}

pub table-same : (old new : List ℕ) (tables : List (List (Option Row))) (x : ℕ) → length tables ≤ no_table → ((y : ℕ) → number_of new y ≡ number_of old y) → table (numbered new tables) x ≡ table (numbered old tables) x
table-same old new tables x few e =
    table-numbered new tables x few ∙ ap (table tables) (e x) ∙ sym (table-numbered old tables x few)

-- ---- one table more

module _ (numbers : List ℕ) (count x : ℕ) (are : AreNumbers numbers count) (room : count < no_table) (within : x < length numbers) where
  number-added : (y : ℕ) → number_of (set numbers x count) y ≡ cond (y == x) count (number_of numbers y)
  number-added y = get_or-set numbers x count no_table within y

  known-added : (y : ℕ) (b : Bool) → (y == x) ≡ b → (cond b count (number_of numbers y) < count + 1) ⊎ (cond b count (number_of numbers y) ≡ no_table)
  known-added y true e = inl (omega arith)
  known-added y false e = ⊎_elim (λ h. inl (omega arith)) (λ h. inr h) (are.known y)

  not_yet : (y : ℕ) → count ≡ number_of numbers y → ⊥
  not_yet y e = ⊎_elim (λ h. absurd (omega arith)) (λ h. absurd (omega arith)) (are.known y)

  apart-added : (y z : ℕ) (b d : Bool) → (y == x) ≡ b → (z == x) ≡ d → cond b count (number_of numbers y) ≡ cond d count (number_of numbers z) → cond b count (number_of numbers y) < count + 1 → y ≡ z
  apart-added y z true true p q e h = eqb-true y x p ∙ sym (eqb-true z x q)
  apart-added y z true false p q e h = absurd (not_yet z e)
  apart-added y z false true p q e h = absurd (not_yet y (sym e))
  apart-added y z false false p q e h =
      ⊎_elim (λ l. are.apart y z e l) (λ l. absurd (omega arith)) (are.known y)

  pub numbers-added : AreNumbers (set numbers x count) (count + 1)
  numbers-added = record {
    known = λ y. subst (λ n. (n < count + 1) ⊎ (n ≡ no_table)) (sym (number-added y)) (known-added y (y == x) refl);
    apart = λ y z e h. apart-added y z (y == x) (z == x) refl refl (sym (number-added y) ∙ e ∙ number-added z) (subst (λ n. n < count + 1) (number-added y) h);
    few = omega arith;
  }

pub table-added : (numbers : List ℕ) (tables : List (List (Option Row))) (added : List (Option Row)) (x : ℕ) → AreNumbers numbers (length tables) → length tables < no_table → x < length numbers → number_of numbers x ≡ no_table → added ≡ [] → (y : ℕ) → table (numbered (set numbers x (length tables)) (tables ++ added ∷ [])) y ≡ table (numbered numbers tables) y
table-added numbers tables added x are room within none empty y =
    let few : length (tables ++ added ∷ []) ≤ no_table = simp length-append (omega arith) in
    table-numbered (set numbers x (length tables)) (tables ++ added ∷ []) y few
    ∙ table_push tables added (number_of (set numbers x (length tables)) y) empty
    ∙ ap (table tables) (number-added numbers (length tables) x are room within y)
    ∙ here (y == x) refl
    ∙ sym (table-numbered numbers tables y are.few)
  where
    here : (b : Bool) → (y == x) ≡ b → table tables (cond b (length tables) (number_of numbers y)) ≡ table tables (number_of numbers y)
    here true e =
        let same : number_of numbers y ≡ no_table = ap (number_of numbers) (eqb-true y x e) ∙ none in
        get_or_past tables (length tables) [] (omega arith) ∙ sym (ap (table tables) same ∙ get_or_past tables no_table [] are.few)
    here false e = refl

-- ---- how many places there are

sum-empty : (tables : List (List (Option Row))) → ((x : ℕ) → table tables x ≡ []) → sum (lengths tables) ≡ 0
sum-empty [] e = refl
sum-empty (t ∷ ts) e =
    let s : sum (lengths (t ∷ ts)) ≡ length t + sum (lengths ts) = sum_by-cons (λ x. x) (length t) (lengths ts) in
    let l : length t ≡ 0 = ap length (e 0) in
    let h : sum (lengths ts) ≡ 0 = sum-empty ts (λ x. e (suc x)) in
    omega arith

-- tables in which each owner has as many places have as many together
pub sum-same : (s t : List (List (Option Row))) → ((x : ℕ) → table s x ≡ table t x) → sum (lengths s) ≡ sum (lengths t)
sum-same [] t e = sym (sum-empty t (λ x. sym (e x)))
sum-same (p ∷ ps) [] e = sum-empty (p ∷ ps) e
sum-same (p ∷ ps) (q ∷ qs) e =
    let a : sum (lengths (p ∷ ps)) ≡ length p + sum (lengths ps) = sum_by-cons (λ x. x) (length p) (lengths ps) in
    let b : sum (lengths (q ∷ qs)) ≡ length q + sum (lengths qs) = sum_by-cons (λ x. x) (length q) (lengths qs) in
    let l : length p ≡ length q = ap length (e 0) in
    let h : sum (lengths ps) ≡ sum (lengths qs) = sum-same ps qs (λ x. e (suc x)) in
    omega arith

-- what grew by nothing
pub sum-kept : (new old was places : ℕ) → new + was ≡ old + places → places ≡ was → new ≡ old
sum-kept new old was places e h = omega arith

-- ---- other places for one owner, for whom there is a table

module _ (old : List (List (Option Row))) (numbers : List ℕ) (tables : List (List (Option Row))) (x n : ℕ) (was places : List (Option Row)) (are : AreNumbers numbers (length tables)) (at : n ≡ number_of numbers x) (there : n < length tables) (same : (y : ℕ) → table (numbered numbers tables) y ≡ table old y) (is : was ≡ get_or tables n was) where
  pub was-old : was ≡ table old x
  was-old =
      is ∙ get_or_default tables n was [] there ∙ ap (table tables) at ∙ sym (table-numbered numbers tables x are.few) ∙ same x

  within : x < length (numbered numbers tables)
  within =
      let h : x < length numbers = owner-numbered numbers x (length tables) are.few (omega arith) in
      rw (length-numbered numbers tables) h

  pub put-there : numbered numbers (set tables n places) ≡ set (numbered numbers tables) x places
  put-there =
      ap (λ m. numbered numbers (set tables m places)) at ∙ set-numbered numbers tables x places are (subst (λ m. m < length tables) at there)

  table-there : (y : ℕ) → table (numbered numbers (set tables n places)) y ≡ cond (y == x) places (table old y)
  table-there y =
      ap (λ t. table t y) put-there ∙ get_or-set (numbered numbers tables) x places [] within y ∙ ap (cond (y == x) places) (same y)

  pub table-at : table (numbered numbers (set tables n places)) x ≡ places
  table-at = table-there x ∙ ap (λ b. cond b places (table old x)) (eq-eqb x x refl)

  pub table-others : (y : ℕ) → y ≢ x → table (numbered numbers (set tables n places)) y ≡ table old y
  table-others y h = table-there y ∙ ap (λ b. cond b places (table old y)) (ne_eqb y x h)

  pub cells-there : ((i : ℕ) → cell places i ≡ cell was i) → (y i : ℕ) → cell_at (numbered numbers (set tables n places)) y i ≡ cell_at old y i
  cells-there e y i =
      ⊎_elim (λ s. ap (λ z. cell_at (numbered numbers (set tables n places)) z i) s ∙ ap (λ t. cell t i) table-at ∙ e i ∙ ap (λ t. cell t i) was-old ∙ ap (λ z. cell_at old z i) (sym s)) (λ s. ap (λ t. cell t i) (table-others y s)) (cases_eq y x)

  pub lengths-there : length was ≤ length places → (y : ℕ) → length (table old y) ≤ length (table (numbered numbers (set tables n places)) y)
  lengths-there l y =
      ⊎_elim (λ s.
      let a : length (table (numbered numbers (set tables n places)) y) ≡ length places = ap (λ z. length (table (numbered numbers (set tables n places)) z)) s ∙ ap length table-at in
      let b : length was ≡ length (table old y) = ap length was-old ∙ ap (λ z. length (table old z)) (sym s) in
      omega arith) (λ s.
      let a : length (table (numbered numbers (set tables n places)) y) ≡ length (table old y) = ap length (table-others y s) in
      omega arith) (cases_eq y x)

  pub sum-there : sum (lengths (numbered numbers (set tables n places))) + length (table old x) ≡ sum (lengths old) + length places
  sum-there =
      let a = lengths_set (numbered numbers tables) x places within in
      let b : length (table (numbered numbers tables) x) ≡ length (table old x) = ap length (same x) in
      let d : sum (lengths (numbered numbers tables)) ≡ sum (lengths old) = sum-same (numbered numbers tables) old same in
      let e : sum (lengths (numbered numbers (set tables n places))) ≡ sum (lengths (set (numbered numbers tables) x places)) = ap (λ t. sum (lengths t)) put-there in
      omega arith
