-- Names in tables, and where a handle stands there.
use Rattle.std.proofs.Common.{◌≡◌, ℕ, sym, subst}
use Rattle.std.specs.Prelude.{◌==◌, ◌&&◌}
use Rattle.std.specs.Ordering.{nat_cmp, ordering_then, is_eq}
use Rattle.std.specs.declared.cmp.Ordering.TheVariants.{Equal}
use Rattle.std.specs.Bool.{Decides, one_answer}
use Rattle.std.specs.Cmp.{Equal-is, both_tied, tied_itself}
use Rattle.std.proofs.lemmas.Cmp.{nat_cmp_total}
use Rattle.std.proofs.lemmas.Map.Lookups.{exact_unsigned}
use Rattle.std.proofs.lemmas.Bool.{eqb-true, eq-eqb}

tied_decides : (a b : ℕ) → Decides (is_eq (nat_cmp a b)) (a ≡ b)
tied_decides a b =
    (λ e. exact_unsigned a b ((Equal-is (nat_cmp a b)).0 e), λ e. (Equal-is (nat_cmp a b)).1 (subst (λ k. nat_cmp a k ≡ Equal) e (tied_itself nat_cmp_total a)))

equal_decides : (a b : ℕ) → Decides (a == b) (a ≡ b)
equal_decides a b = (eqb-true a b, eq-eqb a b)

same_number : (a b : ℕ) → (a == b) ≡ is_eq (nat_cmp a b)
same_number a b = one_answer _ _ (equal_decides a b) (tied_decides a b)

pub same_pair : (p h q g : ℕ) → is_eq (ordering_then (nat_cmp p q) (nat_cmp h g)) ≡ ((p == q) && (h == g))
same_pair p h q g = sym (both_tied (p == q) (h == g) (nat_cmp p q) (nat_cmp h g) (same_number p q) (same_number h g))
