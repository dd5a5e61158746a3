-- What is told of the numbers below one: each is told of in its turn, and no other.
use Rattle.std.proofs.Common.{◌≡◌, ℕ, zero, suc, ◌≤◌, ◌<◌, true, false, List, [], ◌∷◌, ◌++◌, map, Option, Some, None, ◌⊎◌, inl, inr, refl, sym, ◌∙◌, ap, subst, arith, append-nil}
use Rattle.std.specs.Prelude.{◌==◌}
use Rattle.std.specs.List.{AllByRecursion, cons_option}
use Rattle.std.specs.List.Sorted.{IsStrictlyIncreasing}
use Rattle.std.proofs.lemmas.Bool.{cases_lt, eq-eqb}
use Rattle.std.proofs.lemmas.List.{map-append}
use Rattle.std.proofs.lemmas.List.Folds.{list_any-append}
use Rattle.zt_rows.specs.Tests.{among}
use Rattle.zt_rows.proofs.RowLaws.{or_left, or_right}
use Rattle.zt_look.specs.ProofsOnly.NumbersBelow.{told_below}
use Rattle.zt_look.proofs.HandleLaws.{rising-push}

all-more : {A : Type 0} (P : A → Type 0) (xs ys : List A) → AllByRecursion P xs → AllByRecursion P ys → AllByRecursion P (xs ++ ys)
all-more P [] ys all more = more
all-more P (x ∷ xs) ys all more = (all.0, all-more P xs ys all.1 more)

all-wider : (n : ℕ) (xs : List ℕ) → AllByRecursion (λ y. y < n) xs → AllByRecursion (λ y. y < suc n) xs
all-wider n [] all = tt
all-wider n (x ∷ xs) all = (omega (arith, all.0), all-wider n xs all.1)

module _ {A : Type 0} (f : ℕ → Option A) where
  pub below-each : (P : A → Type 0) → ((x : ℕ) (g : A) → f x ≡ Some g → P g) → (n : ℕ) → AllByRecursion P (told_below f n)
  below-each P h zero = tt
  below-each P h (suc n) = all-more P (told_below f n) (cons_option (f n) []) (below-each P h n) (one (f n) refl)
    where
      one : (o : Option A) → f n ≡ o → AllByRecursion P (cons_option o [])
      one (Some g) e = (h n g e, tt)
      one None e = tt

  module _ (koid_of : A → ℕ) (koid : (x : ℕ) (g : A) → f x ≡ Some g → koid_of g ≡ x) where
    -- with one more, the koids have its number
    koids-push : (n : ℕ) (g : A) → f n ≡ Some g → map koid_of (told_below f (suc n)) ≡ map koid_of (told_below f n) ++ n ∷ []
    koids-push n g e =
        ap (λ o. map koid_of (told_below f n ++ cons_option o [])) e ∙ map-append koid_of (told_below f n) (g ∷ []) ∙ ap (λ k. map koid_of (told_below f n) ++ k ∷ []) (koid n g e)

    koids-same : (n : ℕ) → f n ≡ None → map koid_of (told_below f (suc n)) ≡ map koid_of (told_below f n)
    koids-same n e = ap (λ o. map koid_of (told_below f n ++ cons_option o [])) e ∙ ap (map koid_of) (append-nil (told_below f n))

    below-short : (n : ℕ) → AllByRecursion (λ y. y < n) (map koid_of (told_below f n))
    below-short zero = tt
    below-short (suc n) = by (f n) refl (below-short n)
      where
        by : (o : Option A) → f n ≡ o → AllByRecursion (λ y. y < n) (map koid_of (told_below f n)) → AllByRecursion (λ y. y < suc n) (map koid_of (told_below f (suc n)))
        by (Some g) e rest =
            subst (AllByRecursion (λ y. y < suc n)) (sym (koids-push n g e))
            (all-more (λ y. y < suc n) (map koid_of (told_below f n)) (n ∷ []) (all-wider n (map koid_of (told_below f n)) rest) (omega arith, tt))
        by None e rest = subst (AllByRecursion (λ y. y < suc n)) (sym (koids-same n e)) (all-wider n (map koid_of (told_below f n)) rest)

    pub below-rising : (n : ℕ) → IsStrictlyIncreasing (map koid_of (told_below f n))
    below-rising zero = λ k h. absurd (omega (arith, h))
    below-rising (suc n) = by (f n) refl (below-rising n)
      where
        by : (o : Option A) → f n ≡ o → IsStrictlyIncreasing (map koid_of (told_below f n)) → IsStrictlyIncreasing (map koid_of (told_below f (suc n)))
        by (Some g) e rest = subst IsStrictlyIncreasing (sym (koids-push n g e)) (rising-push (map koid_of (told_below f n)) n rest (below-short n))
        by None e rest = subst IsStrictlyIncreasing (sym (koids-same n e)) rest

    pub below-all : (n x : ℕ) (g : A) → x < n → f x ≡ Some g → among (map koid_of (told_below f n)) x ≡ true
    below-all zero x g l e = absurd (omega (arith, l))
    below-all (suc n) x g l e = by (cases_lt x n) (λ h. below-all n x g h e)
      where
        kept : (o : Option A) → f n ≡ o → among (map koid_of (told_below f n)) x ≡ true → among (map koid_of (told_below f (suc n))) x ≡ true
        kept (Some q) h on =
            ap (λ l. among l x) (koids-push n q h) ∙ list_any-append (λ m. m == x) (map koid_of (told_below f n)) (n ∷ []) ∙ or_left (among (map koid_of (told_below f n)) x) (among (n ∷ []) x) on
        kept None h on = ap (λ l. among l x) (koids-same n h) ∙ on

        by : (x < n) ⊎ (n ≤ x) → (x < n → among (map koid_of (told_below f n)) x ≡ true) → among (map koid_of (told_below f (suc n))) x ≡ true
        by (inl h) rest = kept (f n) refl (rest h)
        by (inr h) rest =
            let same : n ≡ x = omega (arith, l, h) in
            ap (λ l. among l x) (koids-push n g (ap f same ∙ e)) ∙ list_any-append (λ m. m == x) (map koid_of (told_below f n)) (n ∷ [])
            ∙ or_right (among (map koid_of (told_below f n)) x) (among (n ∷ []) x) (or_left (n == x) false (eq-eqb n x same))
