-- The order of keys is total, and only equal keys tie in it. Used by proofs only.
use Rattle.std.proofs.Common.{◌≡◌, ℕ, Bool, true, false, cond, refl, sym, ap, ◌∙◌, subst}
use Rattle.std.specs.Prelude.{◌==◌, ◌&&◌}
use Rattle.std.specs.declared.cmp.Ordering.{Ordering}
use Rattle.std.specs.declared.cmp.Ordering.TheVariants.{Less, Equal, Greater}
use Rattle.std.specs.Ordering.{nat_cmp, ordering_then, is_eq, eq_by_cmp, as_partial_cmp}
use Rattle.std.specs.Bool.{Decides, one_answer}
use Rattle.std.specs.Cmp.{IsTotalOrder, IsPartialEquivalence, IsPartialOrder, Equal-is, tied_itself, partial_order_from_agreeing_total}
use Rattle.std.proofs.lemmas.Cmp.{then_total, on_total, nat_cmp_total}
use Rattle.std.proofs.lemmas.Map.Lookups.{exact_unsigned}
use Rattle.std.proofs.lemmas.Bool.{eqb-true, eq-eqb}
use Rattle.zt_rows.specs.declared.keys.RowKey.{RowKey}
use Rattle.zt_rows.specs.declared.keys.RowKey.TheVariants as key
use Rattle.zt_rows.specs.Keys.{variant, first_number, second_number, rowkey_cmp, rowkey_eq}

pub rowkey_cmp_total : IsTotalOrder rowkey_cmp
rowkey_cmp_total = then_total (on_total variant nat_cmp_total) (then_total (on_total first_number nat_cmp_total) (on_total second_number nat_cmp_total))

then_first : (p q : Ordering) → ordering_then p q ≡ Equal → p ≡ Equal
then_first Less q e = cc
then_first Equal q e = refl
then_first Greater q e = cc

then_second : (p q : Ordering) → ordering_then p q ≡ Equal → q ≡ Equal
then_second Less q e = cc
then_second Equal q e = e
then_second Greater q e = cc

-- the key with these numbers
key_of : ℕ → ℕ → ℕ → RowKey
key_of v x n =
    cond (v == 0) key.Counters (cond (v == 1) (key.Object x) (cond (v == 2) (key.Entry x n)
    (cond (v == 3) (key.Msg x n) (cond (v == 4) (key.Packet x n) (key.Wait x)))))

key_of-numbers : (k : RowKey) → key_of (variant k) (first_number k) (second_number k) ≡ k
unfolding key_of
key_of-numbers key.Counters = refl
key_of-numbers (key.Object x) = refl
key_of-numbers (key.Entry p h) = refl
key_of-numbers (key.Msg e n) = refl
key_of-numbers (key.Packet p n) = refl
key_of-numbers (key.Wait n) = refl

-- keys that tie are one
pub rowkey_cmp-equal : (a b : RowKey) → rowkey_cmp a b ≡ Equal → a ≡ b
rowkey_cmp-equal a b e =
    let v : variant a ≡ variant b = exact_unsigned _ _ (then_first _ _ e) in
    let rest : ordering_then (nat_cmp (first_number a) (first_number b)) (nat_cmp (second_number a) (second_number b)) ≡ Equal = then_second (nat_cmp (variant a) (variant b)) _ e in
    let x : first_number a ≡ first_number b = exact_unsigned _ _ (then_first _ _ rest) in
    let n : second_number a ≡ second_number b = exact_unsigned _ _ (then_second (nat_cmp (first_number a) (first_number b)) _ rest) in
    sym (key_of-numbers a) ∙ (λ i. key_of (v i) (x i) (n i)) ∙ key_of-numbers b

pub rowkey_eq-self : (k : RowKey) → rowkey_eq k k ≡ true
rowkey_eq-self key.Counters = refl
rowkey_eq-self (key.Object x) = eq-eqb x x refl
rowkey_eq-self (key.Entry p h) = rw (eq-eqb p p refl, eq-eqb h h refl) refl
rowkey_eq-self (key.Msg e n) = rw (eq-eqb e e refl, eq-eqb n n refl) refl
rowkey_eq-self (key.Packet p n) = rw (eq-eqb p p refl, eq-eqb n n refl) refl
rowkey_eq-self (key.Wait n) = eq-eqb n n refl

both_first : (a b : Bool) → (a && b) ≡ true → a ≡ true
both_first true b e = refl
both_first false b e = e

both_second : (a b : Bool) → (a && b) ≡ true → b ≡ true
both_second true b e = e
both_second false b e = cc

pair_equal : (f : ℕ → ℕ → RowKey) (a b x y : ℕ) → ((a == b) && (x == y)) ≡ true → f a x ≡ f b y
pair_equal f a b x y e =
    let p : a ≡ b = eqb-true a b (both_first _ _ e) in
    let q : x ≡ y = eqb-true x y (both_second (a == b) _ e) in
    λ i. f (p i) (q i)

pub rowkey_eq-equal : (a b : RowKey) → rowkey_eq a b ≡ true → a ≡ b
rowkey_eq-equal key.Counters key.Counters e = refl
rowkey_eq-equal (key.Object x) (key.Object y) e = ap key.Object (eqb-true x y e)
rowkey_eq-equal (key.Entry p h) (key.Entry q g) e = pair_equal (λ a x. key.Entry a x) p q h g e
rowkey_eq-equal (key.Msg p h) (key.Msg q g) e = pair_equal (λ a x. key.Msg a x) p q h g e
rowkey_eq-equal (key.Packet p h) (key.Packet q g) e = pair_equal (λ a x. key.Packet a x) p q h g e
rowkey_eq-equal (key.Wait x) (key.Wait y) e = ap key.Wait (eqb-true x y e)
rowkey_eq-equal _ _ e = cc

pub rowkey_eq-decides : (a b : RowKey) → Decides (rowkey_eq a b) (a ≡ b)
rowkey_eq-decides a b = (rowkey_eq-equal a b, λ e. subst (λ k. rowkey_eq a k ≡ true) e (rowkey_eq-self a))

tied-decides : (a b : RowKey) → Decides (eq_by_cmp rowkey_cmp a b) (a ≡ b)
tied-decides a b =
    (λ e. rowkey_cmp-equal a b ((Equal-is (rowkey_cmp a b)).0 e), λ e. (Equal-is (rowkey_cmp a b)).1 (subst (λ k. rowkey_cmp a k ≡ Equal) e (tied_itself rowkey_cmp_total a)))

-- the test of equality is the tie in the order
pub rowkey_eq-cmp : (a b : RowKey) → eq_by_cmp rowkey_cmp a b ≡ rowkey_eq a b
rowkey_eq-cmp a b = one_answer _ _ (tied-decides a b) (rowkey_eq-decides a b)

flipped : (a b : RowKey) → Decides (rowkey_eq b a) (a ≡ b)
flipped a b = (λ e. sym (rowkey_eq-equal b a e), λ e. (rowkey_eq-decides b a).1 (sym e))

pub rowkey_eq-laws : IsPartialEquivalence rowkey_eq
rowkey_eq-laws = record {
  symm = λ a b. one_answer _ _ (rowkey_eq-decides a b) (flipped a b);
  trans = λ a b c p q. (rowkey_eq-decides a c).1 (rowkey_eq-equal a b p ∙ rowkey_eq-equal b c q);
}

pub rowkey_eq-matches : (a b : RowKey) → rowkey_eq a b ≡ is_eq (rowkey_cmp a b)
rowkey_eq-matches a b = sym (rowkey_eq-cmp a b)

pub ruleset key_ties = (rowkey_eq-matches)

pub rowkey_cmp_partial : IsPartialOrder rowkey_eq (as_partial_cmp rowkey_cmp)
rowkey_cmp_partial = partial_order_from_agreeing_total rowkey_cmp rowkey_cmp_total (λ a b. refl) rowkey_eq-matches
