-- Koids that were found: those in a rising list, and others.
use Rattle.std.proofs.Common.{◌≡◌, ◌<◌, ◌≤◌, ℕ, Bool, true, false, cond, ◌||◌, ◌+◌, List, [], ◌∷◌, ◌++◌, length, take, get_or, inl, inr, suc, refl, sym, ap, ◌∙◌, subst, arith}
use Rattle.std.specs.Prelude.{◌==◌, Result, Ok, Err, is_ok}
use Rattle.std.specs.BTreeMap.{is_at}
use Rattle.std.specs.Ordering.{nat_cmp}
use Rattle.std.specs.List.Sorted.{IsBinarySearchResult}
use Rattle.std.proofs.lemmas.Bool.{ne_eqb, cases_lt}
use Rattle.std.proofs.lemmas.List.{take_more}
use Rattle.std.proofs.lemmas.List.Sorted.{searched}
use Rattle.zt_rows.specs.Tests.{among}
use Rattle.zt_jobs.specs.ProofsOnly.TaskTree.{IsRising}
use Rattle.zt_jobs.proofs.BelowLaws.{at-same}
use Rattle.zt_jobs.proofs.MemberLaws.{among-at, among-push}

-- one more in the list, or in the set
more-first : (a b c : Bool) → ((a || c) || b) ≡ ((a || b) || c)
more-first true b c = refl
more-first false true true = refl
more-first false true false = refl
more-first false false true = refl
more-first false false false = refl

-- a number that is at no place is not in the list
pub among-no_place : (xs : List ℕ) (x : ℕ) → ((k : ℕ) → k < length xs → get_or xs k 0 ≡ x → ⊥) → among xs x ≡ false
among-no_place [] x away = refl
among-no_place (y ∷ ys) x away =
    λ i. ne_eqb y x (away 0 (omega arith)) i || among-no_place ys x (λ k within. away (suc k) (omega (arith, within))) i

pub among-above : (xs : List ℕ) (x : ℕ) → ((k d : ℕ) → k < length xs → get_or xs k d < x) → among xs x ≡ false
among-above xs x above = among-no_place xs x (λ k within same. omega (arith, above k 0 within, same))

rising-le : (xs : List ℕ) (i j : ℕ) → IsRising xs → i ≤ j → j < length xs → get_or xs i 0 ≤ get_or xs j 0
rising-le xs i j is le within = elim (cases_lt i j) [
  | inl less ↦ omega (arith, is i j 0 less within)
  | inr more ↦ let same : i ≡ j = omega arith in omega (arith, ap (λ k. get_or xs k 0) same)
]

pub among-searched : (xs : List ℕ) (x : ℕ) (r : Result ℕ ℕ) → IsRising xs → IsBinarySearchResult (λ y. nat_cmp y x) xs r → is_ok r ≡ among xs x
among-searched xs x (Ok i) is found =
    let at = searched xs x (Ok i) found (λ i j le within. rising-le xs i j is le within) in
    sym (subst (λ y. among xs y ≡ true) at.1 (among-at xs i 0 at.0))
among-searched xs x (Err i) is found =
    let at = searched xs x (Err i) found (λ i j le within. rising-le xs i j is le within) in
    sym (among-no_place xs x (λ k within same. elim (cases_lt k i) [
      | inl less ↦ omega (arith, at.1 k less, same)
      | inr more ↦ omega (arith, at.2 k more within, same)
    ]))

-- one more of the numbers is in the set
pub with_next : (xs : List ℕ) (i x y d : ℕ) (before now was : Bool) → i < length xs → before ≡ (among (take i xs) y || was) → x ≡ get_or xs i d → now ≡ (before || (x == y)) → now ≡ (among (take (i + 1) xs) y || was)
with_next xs i x y d before now was within so at more =
    let taken : among (take (i + 1) xs) y ≡ (among (take i xs) y || (x == y)) =
    ap (λ l. among l y) (take_more xs i d within ∙ ap (λ z. take i xs ++ z ∷ []) (sym at)) ∙ among-push (take i xs) x y in
    more ∙ ap (λ b. b || (x == y)) so ∙ more-first (among (take i xs) y) (x == y) was ∙ sym (ap (λ b. b || was) taken)

or-last : (b was : Bool) → cond b true was ≡ (was || b)
or-last true true = refl
or-last true false = refl
or-last false true = refl
or-last false false = refl

-- one more in the set
pub inserted : (k x : ℕ) (was now : Bool) → now ≡ cond (is_at (nat_cmp k) x) true was → now ≡ (was || (k == x))
inserted k x was now put = put ∙ ap (λ b. cond b true was) (at-same k x) ∙ or-last (k == x) was
