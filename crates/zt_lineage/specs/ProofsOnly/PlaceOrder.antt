-- The order of places is total, and only equal places tie in it. Used by proofs only.
use Rattle.std.proofs.Common.{◌≡◌, ℕ, Bool, true, false, cond, refl, sym, ◌∙◌, subst}
use Rattle.std.specs.Prelude.{◌==◌, ◌&&◌}
use Rattle.std.specs.declared.cmp.Ordering.{Ordering}
use Rattle.std.specs.declared.cmp.Ordering.TheVariants.{Less, Equal, Greater}
use Rattle.std.specs.Ordering.{nat_cmp, ordering_then, is_eq, eq_by_cmp, as_partial_cmp}
use Rattle.std.specs.Bool.{Decides, one_answer}
use Rattle.std.specs.Cmp.{IsTotalOrder, IsPartialEquivalence, IsPartialOrder, Equal-is, tied_itself, partial_order_from_agreeing_total}
use Rattle.std.proofs.lemmas.Cmp.{then_total, on_total, nat_cmp_total}
use Rattle.std.proofs.lemmas.Map.Lookups.{exact_unsigned}
use Rattle.std.proofs.lemmas.Bool.{eqb-true, eq-eqb}
use Rattle.zt_lineage.specs.declared.places.Place.{Place}
use Rattle.zt_lineage.specs.declared.places.Place.TheVariants as place
use Rattle.zt_lineage.specs.Places.{variant, owner, number, index, place_cmp, is_same}

pub place_cmp_total : IsTotalOrder place_cmp
place_cmp_total =
    then_total (on_total variant nat_cmp_total)
    (then_total (on_total owner nat_cmp_total) (then_total (on_total number nat_cmp_total) (on_total index nat_cmp_total)))

then_first : (p q : Ordering) → ordering_then p q ≡ Equal → p ≡ Equal
then_first Less q e = cc
then_first Equal q e = refl
then_first Greater q e = cc

then_second : (p q : Ordering) → ordering_then p q ≡ Equal → q ≡ Equal
then_second Less q e = cc
then_second Equal q e = e
then_second Greater q e = cc

-- the place with these numbers
place_of : ℕ → ℕ → ℕ → ℕ → Place
place_of v x n i = cond (v == 0) (place.Entry x n) (place.Message x n i)

place_of-numbers : (at : Place) → place_of (variant at) (owner at) (number at) (index at) ≡ at
unfolding place_of
place_of-numbers (place.Entry p h) = refl
place_of-numbers (place.Message e n i) = refl

-- places that tie are one
pub place_cmp-equal : (a b : Place) → place_cmp a b ≡ Equal → a ≡ b
place_cmp-equal a b e =
    let v : variant a ≡ variant b = exact_unsigned _ _ (then_first _ _ e) in
    let rest : ordering_then (nat_cmp (owner a) (owner b)) (ordering_then (nat_cmp (number a) (number b)) (nat_cmp (index a) (index b))) ≡ Equal = then_second (nat_cmp (variant a) (variant b)) _ e in
    let x : owner a ≡ owner b = exact_unsigned _ _ (then_first _ _ rest) in
    let last : ordering_then (nat_cmp (number a) (number b)) (nat_cmp (index a) (index b)) ≡ Equal = then_second (nat_cmp (owner a) (owner b)) _ rest in
    let n : number a ≡ number b = exact_unsigned _ _ (then_first _ _ last) in
    let i : index a ≡ index b = exact_unsigned _ _ (then_second (nat_cmp (number a) (number b)) _ last) in
    sym (place_of-numbers a) ∙ (λ j. place_of (v j) (x j) (n j) (i j)) ∙ place_of-numbers b

pub is_same-self : (at : Place) → is_same at at ≡ true
is_same-self (place.Entry p h) = rw (eq-eqb p p refl, eq-eqb h h refl) refl
is_same-self (place.Message e n i) = rw (eq-eqb e e refl, eq-eqb n n refl, eq-eqb i i refl) refl

both_first : (a b : Bool) → (a && b) ≡ true → a ≡ true
both_first true b e = refl
both_first false b e = e

both_second : (a b : Bool) → (a && b) ≡ true → b ≡ true
both_second true b e = e
both_second false b e = cc

pub is_same-equal : (a b : Place) → is_same a b ≡ true → a ≡ b
is_same-equal (place.Entry p h) (place.Entry q g) e =
    let x : p ≡ q = eqb-true p q (both_first _ _ e) in
    let y : h ≡ g = eqb-true h g (both_second (p == q) _ e) in
    λ i. place.Entry (x i) (y i)
is_same-equal (place.Message e n i) (place.Message f m j) h =
    let front : ((e == f) && (n == m)) ≡ true = both_first _ _ h in
    let x : e ≡ f = eqb-true e f (both_first _ _ front) in
    let y : n ≡ m = eqb-true n m (both_second (e == f) _ front) in
    let z : i ≡ j = eqb-true i j (both_second ((e == f) && (n == m)) _ h) in
    λ k. place.Message (x k) (y k) (z k)
is_same-equal _ _ e = cc

pub is_same-decides : (a b : Place) → Decides (is_same a b) (a ≡ b)
is_same-decides a b = (is_same-equal a b, λ e. subst (λ at. is_same a at ≡ true) e (is_same-self a))

tied-decides : (a b : Place) → Decides (eq_by_cmp place_cmp a b) (a ≡ b)
tied-decides a b =
    (λ e. place_cmp-equal a b ((Equal-is (place_cmp a b)).0 e), λ e. (Equal-is (place_cmp a b)).1 (subst (λ at. place_cmp a at ≡ Equal) e (tied_itself place_cmp_total a)))

-- the test of equality is the tie in the order
pub is_same-cmp : (a b : Place) → eq_by_cmp place_cmp a b ≡ is_same a b
is_same-cmp a b = one_answer _ _ (tied-decides a b) (is_same-decides a b)

flipped : (a b : Place) → Decides (is_same b a) (a ≡ b)
flipped a b = (λ e. sym (is_same-equal b a e), λ e. (is_same-decides b a).1 (sym e))

pub is_same-laws : IsPartialEquivalence is_same
is_same-laws = record {
  symm = λ a b. one_answer _ _ (is_same-decides a b) (flipped a b);
  trans = λ a b c p q. (is_same-decides a c).1 (is_same-equal a b p ∙ is_same-equal b c q);
}

pub is_same-matches : (a b : Place) → is_same a b ≡ is_eq (place_cmp a b)
is_same-matches a b = sym (is_same-cmp a b)

pub ruleset place_ties = (is_same-matches)

pub place_cmp_partial : IsPartialOrder is_same (as_partial_cmp place_cmp)
place_cmp_partial = partial_order_from_agreeing_total place_cmp place_cmp_total (λ a b. refl) is_same-matches
