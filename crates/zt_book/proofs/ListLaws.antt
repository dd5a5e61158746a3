-- Lists: without the last, an element that is set twice, and what holds of all elements.
use Rattle.std.proofs.Common.{◌≡◌, ℕ, zero, suc, ◌-◌, List, [], ◌∷◌, ◌++◌, length, take, set, refl, ◌∙◌, ap, arith, length-append}
use Rattle.std.proofs.Math.Seq.{take-append_seam}
use Rattle.std.specs.List.{AllByRecursion}
use Rattle.zt_history.specs.ProofsOnly.Branches.{without_last}

pub without_last-push : {A : Type 0} (xs : List A) (x : A) → without_last (xs ++ x ∷ []) ≡ xs
without_last-push xs x =
    let one : length (xs ++ x ∷ []) - 1 ≡ length xs = omega (arith, length-append xs (x ∷ [])) in
    ap (λ n. take n (xs ++ x ∷ [])) one ∙ take-append_seam xs (x ∷ [])

pub set-again : {A : Type 0} (xs : List A) (i : ℕ) (x y : A) → set (set xs i x) i y ≡ set xs i y
set-again [] i x y = refl
set-again (a ∷ xs) zero x y = refl
set-again (a ∷ xs) (suc i) x y = ap (λ l. a ∷ l) (set-again xs i x y)

pub all-append : {A : Type 0} (P : A → Type 0) (xs : List A) (x : A) → AllByRecursion P xs → P x → AllByRecursion P (xs ++ x ∷ [])
all-append P [] x all one = (one, tt)
all-append P (y ∷ ys) x all one = (all.0, all-append P ys x all.1 one)
