-- A walk that leaves what f leaves under one key after another is, at its end, the change of all rows by f.
use Rattle.std.proofs.Common.{◌≡◌, ◌<◌, ◌≤◌, ℕ, ◌+◌, Bool, true, false, cond, ◌||◌, ◌⊎◌, inl, inr, refl, sym, ap, ◌∙◌, arith, option_and_then}
use Rattle.std.specs.Prelude.{Option, None, Some, ◌==◌, nat_lt}
use Rattle.std.proofs.lemmas.Bool.{cases_lt}
use Rattle.std.proofs.lemmas.Bool.Decides.{nat_tests}
use Rattle.zt_rows.specs.declared.keys.RowKey.{RowKey}
use Rattle.zt_rows.specs.declared.rows.Row.{Row}
use Rattle.zt_rows.specs.Keys.{rowkey_eq}
use Rattle.zt_rows.specs.ProofsOnly.KeyOrder.{rowkey_eq-equal}
use Rattle.zt_rows.specs.State.{State, row, put, change}
use Rattle.zt_rows.proofs.StateLaws.{row-put, row-change, same_state, put-row}
use Rattle.zt_jobs.specs.ProofsOnly.EndedTasks.{left_behind}

-- ---- one key

pub behind-same : (f : RowKey → Row → Option Row) (S : State) (k : RowKey) → option_and_then (f k) (row S k) ≡ row S k → S ≡ left_behind f S k
behind-same f S k e = sym (ap (put S k) e ∙ put-row S k)

pub row-behind : (f : RowKey → Row → Option Row) (S : State) (k q : RowKey) → row (left_behind f S k) q ≡ cond (rowkey_eq q k) (option_and_then (f k) (row S k)) (row S q)
row-behind f S k q = row-put S k (option_and_then (f k) (row S k)) q

-- where f leaves all rows but those under one key, the change is that of one key
pub behind-change : (f : RowKey → Row → Option Row) (S : State) (k : RowKey) → ((q : RowKey) → rowkey_eq q k ≡ false → option_and_then (f q) (row S q) ≡ row S q) → left_behind f S k ≡ change f S
behind-change f S k others =
    same_state _ _ (λ q.
    row-behind f S k q
    ∙ elim (rowkey_eq q k) as (λ b. rowkey_eq q k ≡ b → cond b (option_and_then (f k) (row S k)) (row S q) ≡ option_and_then (f q) (row S q)) [
      | true ↦ λ t. ap (λ x. option_and_then (f x) (row S x)) (sym (rowkey_eq-equal q k t))
      | false ↦ λ t. sym (others q t)
    ] refl
    ∙ sym (row-change f S q))

-- one change and then another
pub change-then : (f g h : RowKey → Row → Option Row) (S : State) → ((k : RowKey) (r : Row) → option_and_then (f k) (g k r) ≡ h k r) → change f (change g S) ≡ change h S
change-then f g h S same =
    same_state _ _ (λ q. row-change f (change g S) q ∙ ap (option_and_then (f q)) (row-change g S q) ∙ both q (row S q) ∙ sym (row-change h S q))
  where
    both : (q : RowKey) (r : Option Row) → option_and_then (f q) (option_and_then (g q) r) ≡ option_and_then (h q) r
    both q (Some r) = same q r
    both q None = refl

-- two changes that leave the same
pub change-alike : (f h : RowKey → Row → Option Row) (S : State) → ((k : RowKey) (r : Row) → f k r ≡ h k r) → change f S ≡ change h S
change-alike f h S same =
    same_state _ _ (λ q. row-change f S q ∙ both q (row S q) ∙ sym (row-change h S q))
  where
    both : (q : RowKey) (r : Option Row) → option_and_then (f q) r ≡ option_and_then (h q) r
    both q (Some r) = same q r
    both q None = refl

-- ---- a walk

module _ (f : RowKey → Row → Option Row) (S : State) where
  -- under the keys that were seen the rows are as f leaves them, and under the others as before
  abbrev pub IsSeen : State → (RowKey → Bool) → Type 0
  IsSeen T seen = (k : RowKey) → row T k ≡ cond (seen k) (option_and_then (f k) (row S k)) (row S k)

  pub seen-none : (seen : RowKey → Bool) → ((k : RowKey) → seen k ≡ false) → IsSeen S seen
  seen-none seen none k = sym (ap (λ b. cond b (option_and_then (f k) (row S k)) (row S k)) (none k))

  pub seen-put : (T : State) (k : RowKey) (seen more : RowKey → Bool) → IsSeen T seen → seen k ≡ false → ((q : RowKey) → more q ≡ (seen q || rowkey_eq q k)) → IsSeen (left_behind f T k) more
  seen-put T k seen more before new is q =
      row-behind f T k q
      ∙ elim (rowkey_eq q k) as (λ b. rowkey_eq q k ≡ b → cond b (option_and_then (f k) (row T k)) (row T q) ≡ cond (seen q || b) (option_and_then (f q) (row S q)) (row S q)) [
        | true ↦ λ t.
            let same : q ≡ k = rowkey_eq-equal q k t in
            let here : row T k ≡ row S k = before k ∙ ap (λ b. cond b (option_and_then (f k) (row S k)) (row S k)) new in
            ap (option_and_then (f k)) here
            ∙ ap (λ x. option_and_then (f x) (row S x)) (sym same)
            ∙ sym (ap (λ b. cond (b || true) (option_and_then (f q) (row S q)) (row S q)) (ap seen same ∙ new))
        | false ↦ λ t. before q ∙ ap (λ b. cond b (option_and_then (f q) (row S q)) (row S q)) (sym (or-false (seen q)))
      ] refl
      ∙ ap (λ b. cond b (option_and_then (f q) (row S q)) (row S q)) (sym (is q))
    where
      or-false : (b : Bool) → (b || false) ≡ b
      or-false true = refl
      or-false false = refl

  left-either : (b : Bool) (r : Option Row) (k : RowKey) → option_and_then (f k) r ≡ r → r ≡ cond b (option_and_then (f k) r) r
  left-either true r k e = sym e
  left-either false r k e = refl

  -- a key that was not seen, where f leaves the row as it is, had the same row before
  pub unseen-left : (T : State) (seen : RowKey → Bool) → IsSeen T seen → (q : RowKey) → seen q ≡ false → option_and_then (f q) (row T q) ≡ row T q → option_and_then (f q) (row S q) ≡ row S q
  unseen-left T seen before q new same =
      let here : row T q ≡ row S q = before q ∙ ap (λ b. cond b (option_and_then (f q) (row S q)) (row S q)) new in
      ap (option_and_then (f q)) (sym here) ∙ same ∙ here

  -- keys whose rows f leaves as they are count as seen
  pub seen-past : (T : State) (seen more : RowKey → Bool) → IsSeen T seen → ((q : RowKey) → (more q ≡ seen q) ⊎ ((seen q ≡ false) × (option_and_then (f q) (row T q) ≡ row T q))) → IsSeen T more
  seen-past T seen more before past q = elim (past q) [
    | inl same ↦ before q ∙ ap (λ b. cond b (option_and_then (f q) (row S q)) (row S q)) (sym same)
    | inr w ↦
        before q ∙ ap (λ b. cond b (option_and_then (f q) (row S q)) (row S q)) w.0
        ∙ left-either (more q) (row S q) q (unseen-left T seen before q w.0 w.1)
  ]

  -- there is nothing of which f could leave less
  pub none-left : (r : Option Row) (k : RowKey) → r ≡ None → option_and_then (f k) r ≡ r
  none-left r k e = ap (option_and_then (f k)) e ∙ sym e

  pub seen-all : (T : State) (seen : RowKey → Bool) → IsSeen T seen → ((q : RowKey) → (seen q ≡ true) ⊎ ((seen q ≡ false) × (option_and_then (f q) (row S q) ≡ row S q))) → T ≡ change f S
  seen-all T seen before all =
      same_state _ _ (λ q.
      before q
      ∙ elim (all q) [
        | inl t ↦ ap (λ b. cond b (option_and_then (f q) (row S q)) (row S q)) t
        | inr w ↦ ap (λ b. cond b (option_and_then (f q) (row S q)) (row S q)) w.0 ∙ sym w.1
      ]
      ∙ sym (row-change f S q))

-- ---- numbers below

pub below_more : (m n : ℕ) → nat_lt m (n + 1) ≡ (nat_lt m n || (m == n))
below_more m n = grind (arith, nat_tests)

pub below_same : (n : ℕ) → nat_lt n n ≡ false
below_same n = grind (arith, nat_tests)

pub below_none : (m : ℕ) → nat_lt m 0 ≡ false
below_none m = grind (arith, nat_tests)

-- past a number with none in between up to the next
pub below_past : (m n next : ℕ) → n < next → (nat_lt m next ≡ nat_lt m (n + 1)) ⊎ ((nat_lt m (n + 1) ≡ false) × (n < m) × (m < next))
below_past m n next over =
    elim (cases_lt m (n + 1)) [
      | inl l ↦ inl (lt_true m next (omega arith) ∙ sym (lt_true m (n + 1) l))
      | inr g ↦ elim (cases_lt m next) [
        | inl l ↦ inr (lt_false m (n + 1) g, omega arith, l)
        | inr h ↦ inl (lt_false m next h ∙ sym (lt_false m (n + 1) g))
      ]
    ]
  where
    lt_true : (a b : ℕ) → a < b → nat_lt a b ≡ true
    lt_true a b h = grind (arith, nat_tests)

    lt_false : (a b : ℕ) → b ≤ a → nat_lt a b ≡ false
    lt_false a b h = grind (arith, nat_tests)

pub below_all : (m n : ℕ) → (nat_lt m (n + 1) ≡ true) ⊎ ((nat_lt m (n + 1) ≡ false) × (n < m))
below_all m n =
    elim (cases_lt m (n + 1)) [
      | inl l ↦ inl (lt_true m (n + 1) l)
      | inr g ↦ inr (lt_false m (n + 1) g, omega arith)
    ]
  where
    lt_true : (a b : ℕ) → a < b → nat_lt a b ≡ true
    lt_true a b h = grind (arith, nat_tests)

    lt_false : (a b : ℕ) → b ≤ a → nat_lt a b ≡ false
    lt_false a b h = grind (arith, nat_tests)

-- from a number on up to a greater one, or the same
pub below_over : (m from next : ℕ) → from ≤ next → (nat_lt m next ≡ nat_lt m from) ⊎ ((nat_lt m from ≡ false) × (from ≤ m) × (m < next))
below_over m from next over =
    elim (cases_lt m from) [
      | inl l ↦ inl (lt_true m next (omega arith) ∙ sym (lt_true m from l))
      | inr g ↦ elim (cases_lt m next) [
        | inl l ↦ inr (lt_false m from g, g, l)
        | inr h ↦ inl (lt_false m next h ∙ sym (lt_false m from g))
      ]
    ]
  where
    lt_true : (a b : ℕ) → a < b → nat_lt a b ≡ true
    lt_true a b h = grind (arith, nat_tests)

    lt_false : (a b : ℕ) → b ≤ a → nat_lt a b ≡ false
    lt_false a b h = grind (arith, nat_tests)

pub below_or : (m from : ℕ) → (nat_lt m from ≡ true) ⊎ ((nat_lt m from ≡ false) × (from ≤ m))
below_or m from =
    elim (cases_lt m from) [
      | inl l ↦ inl (lt_true m from l)
      | inr g ↦ inr (lt_false m from g, g)
    ]
  where
    lt_true : (a b : ℕ) → a < b → nat_lt a b ≡ true
    lt_true a b h = grind (arith, nat_tests)

    lt_false : (a b : ℕ) → b ≤ a → nat_lt a b ≡ false
    lt_false a b h = grind (arith, nat_tests)
