-- Numbers that were passed on a rising walk, those that are left, and numbers in a set.
use Rattle.std.proofs.Common.{◌≡◌, ◌<◌, ◌≤◌, ℕ, ◌+◌, ◌-◌, ◌^◌, Bool, true, false, not, ◌&&◌, ◌||◌, List, [], ◌∷◌, length, inl, inr, refl, sym, ap, ◌∙◌, arith}
use Rattle.std.specs.Prelude.{Option, None, Some, ◌==◌, nat_lt}
use Rattle.std.specs.BTreeMap.{is_at}
use Rattle.std.specs.List.{list_any}
use Rattle.std.specs.Ordering.{is_eq, is_gt, nat_cmp}
use Rattle.std.proofs.lemmas.Bool.{eqb-true, eq-eqb, cases_lt}
use Rattle.std.proofs.lemmas.Bool.Decides.{nat_tests}
use Rattle.zt_rows.proofs.RowLaws.{or_right, not_true}
use Rattle.zt_index.specs.Chains.{IsNext}

-- ---- a walk

abbrev pub is_passed : Option ℕ → ℕ → Bool
is_passed None n = false
is_passed (Some low) n = not (nat_lt low n)

-- how many numbers there are above the low one
abbrev pub left_above : Option ℕ → ℕ
left_above None = 2 ^ 64 + 1
left_above (Some n) = 2 ^ 64 - n

-- how many numbers there are from the next one on
abbrev pub left_from : Option ℕ → ℕ
left_from None = 0
left_from (Some n) = 2 ^ 64 - n

lt_true : (a b : ℕ) → a < b → nat_lt a b ≡ true
lt_true a b h = grind (arith, nat_tests)

lt_false : (a b : ℕ) → b ≤ a → nat_lt a b ≡ false
lt_false a b h = grind (arith, nat_tests)

or-false : (b : Bool) → (b || false) ≡ b
or-false true = refl
or-false false = refl

and-false : (b : Bool) → (b && false) ≡ false
and-false true = refl
and-false false = refl

pub or-assoc : (a b d : Bool) → ((a || b) || d) ≡ (a || (b || d))
or-assoc true b d = refl
or-assoc false b d = refl

-- before the next one nothing passes that was not passed already
before : (passes : ℕ → Bool) (low : Option ℕ) (n x : ℕ) → IsNext passes low (Some n) → x < n → (n == x) ≡ false → (passes x && is_passed (Some n) x) ≡ ((passes x && is_passed low x) || (n == x))
before passes None n x next less other =
    let none : passes x ≡ false = next.1 x tt less in
    ap (λ b. b && is_passed (Some n) x) none ∙ sym (ap (λ b. (b && false) || (n == x)) none ∙ other)
before passes (Some l) n x next less other = elim (cases_lt l x) [
  | inl over ↦
      let none : passes x ≡ false = next.1 x over less in
      ap (λ b. b && is_passed (Some n) x) none ∙ sym (ap (λ b. (b && is_passed (Some l) x) || (n == x)) none ∙ other)
  | inr le ↦
      let here : is_passed (Some l) x ≡ true = ap not (lt_false l x le) in
      let there : is_passed (Some n) x ≡ true = ap not (lt_false n x (omega arith)) in
      ap (λ b. passes x && b) there
      ∙ sym (ap (λ b. (passes x && b) || (n == x)) here ∙ ap (λ b. (passes x && true) || b) other ∙ or-false (passes x && true))
]

-- behind it nothing is passed
low-passed : (passes : ℕ → Bool) (low : Option ℕ) (n x : ℕ) → IsNext passes low (Some n) → n < x → is_passed low x ≡ false
low-passed passes None n x next over = refl
low-passed passes (Some l) n x next over = let under : l < n = next.0.0 in ap not (lt_true l x (omega arith))

beyond : (passes : ℕ → Bool) (low : Option ℕ) (n x : ℕ) → IsNext passes low (Some n) → n < x → (n == x) ≡ false → (passes x && is_passed (Some n) x) ≡ ((passes x && is_passed low x) || (n == x))
beyond passes low n x next over other =
    let gone : is_passed (Some n) x ≡ false = ap not (lt_true n x over) in
    ap (λ b. passes x && b) gone ∙ and-false (passes x)
    ∙ sym (ap (λ b. (passes x && b) || (n == x)) (low-passed passes low n x next over) ∙ ap (λ b. (passes x && false) || b) other ∙ or-false (passes x && false) ∙ and-false (passes x))

itself : (passes : ℕ → Bool) (low : Option ℕ) (n x : ℕ) → IsNext passes low (Some n) → n ≡ x → (passes x && is_passed (Some n) x) ≡ ((passes x && is_passed low x) || (n == x))
itself passes low n x next same =
    let here : passes x ≡ true = ap passes (sym same) ∙ next.0.1 in
    let there : is_passed (Some n) x ≡ true = ap not (lt_false n x (omega arith)) in
    ap (λ b. b && is_passed (Some n) x) here ∙ there ∙ sym (or_right (passes x && is_passed low x) (n == x) (eq-eqb n x same))

-- what was passed up to the next one is what was passed before it, and it
passed_more : (passes : ℕ → Bool) (low : Option ℕ) (n x : ℕ) → IsNext passes low (Some n) → (passes x && is_passed (Some n) x) ≡ ((passes x && is_passed low x) || (n == x))
passed_more passes low n x next = elim (cases_lt x n) [
  | inl less ↦ before passes low n x next less (not_true (n == x) (λ t. let same : n ≡ x = eqb-true n x t in omega arith))
  | inr ge ↦ elim (cases_lt n x) [
    | inl over ↦ beyond passes low n x next over (not_true (n == x) (λ t. let same : n ≡ x = eqb-true n x t in omega arith))
    | inr le ↦ let same : n ≡ x = omega arith in itself passes low n x next same
  ]
]

-- with the next one, all that was passed is known
pub passed_known : (passes : ℕ → Bool) (low : Option ℕ) (n x : ℕ) (first known more : Bool) → IsNext passes low (Some n) → known ≡ (first || (passes x && is_passed low x)) → more ≡ (known || (n == x)) → more ≡ (first || (passes x && is_passed (Some n) x))
passed_known passes low n x first known more next was is =
    is ∙ ap (λ b. b || (n == x)) was ∙ or-assoc first (passes x && is_passed low x) (n == x) ∙ ap (λ b. first || b) (sym (passed_more passes low n x next))

pub passed_none : (first passes : Bool) → first ≡ (first || (passes && false))
passed_none first passes = sym (ap (λ b. first || b) (and-false passes) ∙ or-false first)

-- ---- a set

pub at-same : (m n : ℕ) → is_eq (nat_cmp m n) ≡ (m == n)
at-same m n = grind (arith, nat_tests)

pub not-less : (m n : ℕ) → is_gt (nat_cmp m n) ≡ false → m ≤ n
not-less m n h = grind (arith, nat_tests)

pub none-there : (ks : List ℕ) → (0 < length ks → false ≡ true) → (x : ℕ) → list_any (is_at (nat_cmp x)) ks ≡ false
none-there [] empty x = refl
none-there (k ∷ ks) empty x = let t : false ≡ true = empty (omega arith) in cc
