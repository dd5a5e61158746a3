-- A walk along one column that takes away the rows that pass is one change of all rows.
use Rattle.std.proofs.Common.{◌≡◌, ◌≤◌, ◌<◌, ℕ, Bool, true, false, cond, ◌&&◌, ◌||◌, ◌⊎◌, inl, inr, Option, Some, None, refl, sym, ap, ◌∙◌, subst, arith, option_and_then}
use Rattle.std.specs.Prelude.{◌+◌, ◌-◌, ◌^◌, if◌then◌else◌, nat_le}
use Rattle.std.specs.Option.{option_map_or}
use Rattle.std.proofs.lemmas.Bool.{cases_lt}
use Rattle.std.proofs.lemmas.Bool.Decides.{nat_tests}
use Rattle.zt_rows.specs.declared.keys.RowKey.{RowKey}
use Rattle.zt_rows.specs.declared.rows.Row.{Row}
use Rattle.zt_rows.specs.Keys.{rowkey_eq}
use Rattle.zt_rows.specs.ProofsOnly.KeyOrder.{rowkey_eq-self, rowkey_eq-equal}
use Rattle.zt_rows.specs.State.{State, row, put, change}
use Rattle.zt_rows.specs.Tests.{any_row}
use Rattle.zt_rows.proofs.StateLaws.{row-put, row-change, same_state, put-row}
use Rattle.zt_rows.proofs.RowLaws.{any_row-at, at-any_row, and_left, and_right, and_both, or_true, or_left, or_right, same_test, true≢false}
use Rattle.zt_signals.specs.ProofsOnly.KeyWalk.{IsAfter, IsNextUnder, IsNextThat, passes_under}

-- ---- numbers

-- the number is there, and not after the low one
abbrev pub passed_by : Option ℕ → Option ℕ → Bool
passed_by (Some low) (Some n) = nat_le n low
passed_by _ _ = false

-- how many numbers may come after the low one
abbrev pub numbers_after : Option ℕ → ℕ
numbers_after None = 2 ^ 64 + 1
numbers_after (Some low) = 2 ^ 64 - low

pub numbers-fewer : (low : Option ℕ) (n : ℕ) → n < 2 ^ 64 → IsAfter low n → numbers_after (Some n) < numbers_after low
numbers-fewer None n few past = omega arith
numbers-fewer (Some l) n few past = omega arith

and_false : (a b : Bool) → b ≡ false → (a && b) ≡ false
and_false true b e = e
and_false false b e = refl

and_true : (a b : Bool) → b ≡ true → (a && b) ≡ a
and_true true b e = e
and_true false b e = refl

no_number : (low : Option ℕ) → passed_by low None ≡ false
no_number None = refl
no_number (Some l) = refl

passed-not-after : (low : Option ℕ) (n : ℕ) → passed_by low (Some n) ≡ false → IsAfter low n
passed-not-after None n e = tt
passed-not-after (Some l) n e = grind (arith, nat_tests)

after-not-passed : (low : Option ℕ) (n : ℕ) → IsAfter low n → passed_by low (Some n) ≡ false
after-not-passed None n h = refl
after-not-passed (Some l) n h = grind (arith, nat_tests)

after-more : (low : Option ℕ) (n m : ℕ) → IsAfter low n → n ≤ m → IsAfter low m
after-more None n m h le = tt
after-more (Some l) n m h le = omega arith

passed-more : (low : Option ℕ) (n m : ℕ) → IsAfter low n → passed_by low (Some m) ≡ true → passed_by (Some n) (Some m) ≡ true
passed-more None n m h e = cc
passed-more (Some l) n m h e = grind (arith, nat_tests)

passed-less : (m n : ℕ) → m < n → passed_by (Some n) (Some m) ≡ true
passed-less m n h = grind (arith, nat_tests)

passed-itself : (n : ℕ) → passed_by (Some n) (Some n) ≡ true
passed-itself n = grind (arith, nat_tests)

-- ---- a column, and a test of its rows

-- `at` gives the key of a number, and `index` the number of a key of the column; what passes is in it
pub record IsColumn (at : ℕ → RowKey) (index : RowKey → Option ℕ) (test : RowKey → Row → Bool) : Type 0 where
  pub here : (n : ℕ) → index (at n) ≡ Some n
  pub is : (q : RowKey) (n : ℕ) → index q ≡ Some n → q ≡ at n
  pub within : (q : RowKey) (r : Row) → index q ≡ None → test q r ≡ false

-- what is left of a row when those that pass go
abbrev pub without_those : (RowKey → Row → Bool) → RowKey → Row → Option Row
without_those test k r = if test k r then None else Some r

-- a row that passes and was come past
abbrev pub is_dropped : (RowKey → Option ℕ) → (RowKey → Row → Bool) → Option ℕ → RowKey → Row → Bool
is_dropped index test low k r = test k r && passed_by low (index k)

-- what is left of a row when those go
abbrev pub left_by : (RowKey → Option ℕ) → (RowKey → Row → Bool) → Option ℕ → RowKey → Row → Option Row
left_by index test low = without_those (is_dropped index test low)

-- ---- one row

module _ (test : RowKey → Row → Bool) (S : State) (k : RowKey) where
  gone : (r : Option Row) → option_map_or (test k) r false ≡ true → option_and_then (without_those test k) r ≡ None
  gone (Some r) e = ap (λ b. if b then None else Some r) e
  gone None e = refl

  stays : (r : Option Row) → option_map_or (test k) r false ≡ false → option_and_then (without_those test k) r ≡ r
  stays (Some r) e = ap (λ b. if b then None else Some r) e
  stays None e = refl

  pub row-gone : passes_under test S k ≡ true → put S k None ≡ put S k (option_and_then (without_those test k) (row S k))
  row-gone e = ap (put S k) (sym (gone (row S k) e))

  pub row-stays : passes_under test S k ≡ false → put S k (option_and_then (without_those test k) (row S k)) ≡ S
  row-stays e = ap (put S k) (stays (row S k) e) ∙ put-row S k

-- ---- what comes next

none-passes : (test : RowKey → Row → Bool) (k : RowKey) (r : Option Row) → r ≡ None → option_map_or (test k) r false ≡ false
none-passes test k r e = ap (λ o. option_map_or (test k) o false) e

-- the next row of all is one before which no row passes
pub next-that : (test : RowKey → Row → Bool) (S : State) (at : ℕ → RowKey) (low found : Option ℕ) → IsNextUnder S at low found → IsNextThat test S at low found
next-that test S at low None h = λ n past. none-passes test (at n) (row S (at n)) (h n past)
next-that test S at low (Some n) h = (h.0, λ m past less. none-passes test (at m) (row S (at m)) (h.2 m past less))

-- ---- all rows of the column

module _ (at : ℕ → RowKey) (index : RowKey → Option ℕ) (test : RowKey → Row → Bool) (column : IsColumn at index test) where
  unmoved : (low : Option ℕ) (k : RowKey) → passed_by low (index k) ≡ false → (r : Option Row) → option_and_then (left_by index test low k) r ≡ r
  unmoved low k e (Some r) = ap (λ b. if b then None else Some r) (and_false (test k r) (passed_by low (index k)) e)
  unmoved low k e None = refl

  moved : (low : Option ℕ) (k : RowKey) → passed_by low (index k) ≡ true → (r : Option Row) → option_and_then (left_by index test low k) r ≡ option_and_then (without_those test k) r
  moved low k e (Some r) = ap (λ b. if b then None else Some r) (and_true (test k r) (passed_by low (index k)) e)
  moved low k e None = refl

  unmoved-at : (low : Option ℕ) (n : ℕ) → passed_by low (Some n) ≡ false → (r : Option Row) → option_and_then (left_by index test low (at n)) r ≡ r
  unmoved-at low n e r = unmoved low (at n) (ap (passed_by low) (column.here n) ∙ e) r

  moved-at : (low : Option ℕ) (n : ℕ) → passed_by low (Some n) ≡ true → (r : Option Row) → option_and_then (left_by index test low (at n)) r ≡ option_and_then (without_those test (at n)) r
  moved-at low n e r = moved low (at n) (ap (passed_by low) (column.here n) ∙ e) r

  -- nothing is come past yet
  pub drop-start : (S : State) → S ≡ change (left_by index test None) S
  drop-start S = same_state _ _ (λ q. sym (row-change (left_by index test None) S q ∙ unmoved None q refl (row S q)))

  no_any : (S : State) → any_row (is_dropped index test None) S ≡ true → false ≡ true
  no_any S t = let w = at-any_row (is_dropped index test None) S t in sym (and_false (test w.0 w.1) false refl) ∙ w.3

  pub any-start : (S : State) → false ≡ any_row (is_dropped index test None) S
  any-start S = same_test false (any_row (is_dropped index test None) S) (λ e. cc) (no_any S)

  module _ (S T : State) (low : Option ℕ) (so_far : T ≡ change (left_by index test low) S) where
    row-so_far : (q : RowKey) → row T q ≡ option_and_then (left_by index test low q) (row S q)
    row-so_far q = ap (λ z. row z q) so_far ∙ row-change (left_by index test low) S q

    -- what was not come past is as it was
    row-ahead : (q : RowKey) → passed_by low (index q) ≡ false → row T q ≡ row S q
    row-ahead q e = row-so_far q ∙ unmoved low q e (row S q)

    pub ahead : (n : ℕ) → IsAfter low n → row T (at n) ≡ row S (at n)
    ahead n past = row-ahead (at n) (ap (passed_by low) (column.here n) ∙ after-not-passed low n past)

    module _ (n : ℕ) (next : IsNextThat test T at low (Some n)) where
      abbrev left : RowKey → Option Row
      left q = option_and_then (left_by index test (Some n) q) (row S q)

      earlier : (m : ℕ) → m < n → row T (at m) ≡ left (at m)
      earlier m less = elim (passed_by low (Some m)) as (λ b. passed_by low (Some m) ≡ b → row T (at m) ≡ left (at m)) [
        | true ↦ λ t.
            row-so_far (at m) ∙ moved-at low m t (row S (at m)) ∙ sym (moved-at (Some n) m (passed-more low n m next.0 t) (row S (at m)))
        | false ↦ λ t.
            let past : IsAfter low m = passed-not-after low m t in
            let none : passes_under test T (at m) ≡ false = next.1 m past less in
            sym (moved-at (Some n) m (passed-less m n less) (row S (at m)) ∙ ap (option_and_then (without_those test (at m))) (sym (ahead m past)) ∙ stays test T (at m) (row T (at m)) none)
      ] refl

      later : (m : ℕ) → n < m → row T (at m) ≡ left (at m)
      later m more =
          ahead m (after-more low n m next.0 (omega arith)) ∙ sym (unmoved-at (Some n) m (after-not-passed (Some n) m more) (row S (at m)))

      abbrev put_here : Option Row
      put_here = option_and_then (without_those test (at n)) (row T (at n))

      this_one : put_here ≡ left (at n)
      this_one = ap (option_and_then (without_those test (at n))) (ahead n next.0) ∙ sym (moved-at (Some n) n (passed-itself n) (row S (at n)))

      apart : (m : ℕ) → rowkey_eq (at m) (at n) ≡ false → n ≤ m → n < m
      apart m e ge = elim (cases_lt n m) [
        | inl less ↦ less
        | inr le ↦
            let same : m ≡ n = omega arith in
            let one : rowkey_eq (at m) (at n) ≡ true = ap (λ z. rowkey_eq (at z) (at n)) same ∙ rowkey_eq-self (at n) in
            absurd (true≢false (rowkey_eq (at m) (at n)) one e)
      ]

      not_here : (m : ℕ) → rowkey_eq (at m) (at n) ≡ false → row T (at m) ≡ left (at m)
      not_here m e = elim (cases_lt m n) [ inl less ↦ earlier m less | inr ge ↦ later m (apart m e ge) ]

      elsewhere : (q : RowKey) → rowkey_eq q (at n) ≡ false → row T q ≡ left q
      elsewhere q e = elim (index q) as (λ o. index q ≡ o → row T q ≡ left q) [
        | None ↦ λ out.
            row-ahead q (ap (passed_by low) out ∙ no_number low) ∙ sym (unmoved (Some n) q (ap (passed_by (Some n)) out) (row S q))
        | Some m ↦ λ in_it.
            let same : q ≡ at m = column.is q m in_it in
            subst (λ z. row T z ≡ left z) (sym same) (not_here m (ap (λ z. rowkey_eq z (at n)) (sym same) ∙ e))
      ] refl

      at_key : (q : RowKey) → cond (rowkey_eq q (at n)) put_here (row T q) ≡ left q
      at_key q = elim (rowkey_eq q (at n)) as (λ b. rowkey_eq q (at n) ≡ b → cond b put_here (row T q) ≡ left q) [
        | true ↦ λ t. subst (λ z. put_here ≡ left z) (sym (rowkey_eq-equal q (at n) t)) this_one
        | false ↦ λ t. elsewhere q t
      ] refl

      -- the walk came past one row more
      pub drop-next : change (left_by index test (Some n)) S ≡ put T (at n) (option_and_then (without_those test (at n)) (row T (at n)))
      drop-next = same_state _ _ (λ q. row-change (left_by index test (Some n)) S q ∙ sym (row-put T (at n) put_here q ∙ at_key q))

      -- ---- whether there was any

      abbrev earlier_any : Bool
      earlier_any = any_row (is_dropped index test low) S

      abbrev next_any : Bool
      next_any = any_row (is_dropped index test (Some n)) S

      abbrev this_passes : Bool
      this_passes = passes_under test T (at n)

      picked-at : (r : Option Row) → option_map_or (test (at n)) r false ≡ true → (w : Row) × (r ≡ Some w) × (test (at n) w ≡ true)
      picked-at (Some w) e = (w, refl, e)
      picked-at None e = cc

      at-picked : (r : Option Row) (w : Row) → r ≡ Some w → test (at n) w ≡ true → option_map_or (test (at n)) r false ≡ true
      at-picked r w e t = ap (λ o. option_map_or (test (at n)) o false) e ∙ t

      passed-next : (o : Option ℕ) → passed_by low o ≡ true → passed_by (Some n) o ≡ true
      passed-next None e = sym (no_number low) ∙ e
      passed-next (Some m) e = passed-more low n m next.0 e

      any-forth : (earlier_any ≡ true) ⊎ (this_passes ≡ true) → next_any ≡ true
      any-forth (inl t) =
          let w = at-any_row (is_dropped index test low) S t in
          any_row-at (is_dropped index test (Some n)) S w.0 w.1 w.2
          (and_both (test w.0 w.1) (passed_by (Some n) (index w.0)) (and_left _ _ w.3) (passed-next (index w.0) (and_right (test w.0 w.1) _ w.3)))
      any-forth (inr t) =
          let w = picked-at (row T (at n)) t in
          any_row-at (is_dropped index test (Some n)) S (at n) w.0 (sym (ahead n next.0) ∙ w.1)
          (and_both (test (at n) w.0) (passed_by (Some n) (index (at n))) w.2 (ap (passed_by (Some n)) (column.here n) ∙ passed-itself n))

      any-in : (m : ℕ) (r : Row) → row S (at m) ≡ Some r → test (at m) r ≡ true → passed_by (Some n) (Some m) ≡ true → (earlier_any ≡ true) ⊎ (this_passes ≡ true)
      any-in m r there t passed = elim (passed_by low (Some m)) as (λ b. passed_by low (Some m) ≡ b → (earlier_any ≡ true) ⊎ (this_passes ≡ true)) [
        | true ↦ λ u.
            inl (any_row-at (is_dropped index test low) S (at m) r there (and_both (test (at m) r) (passed_by low (index (at m))) t (ap (passed_by low) (column.here m) ∙ u)))
        | false ↦ λ u.
            let past : IsAfter low m = passed-not-after low m u in
            let standing : row T (at m) ≡ Some r = ahead m past ∙ there in
            elim (cases_lt m n) [
              | inl less ↦
                  absurd (true≢false (passes_under test T (at m)) (ap (λ o. option_map_or (test (at m)) o false) standing ∙ t) (next.1 m past less))
              | inr ge ↦
                  let same : m ≡ n = both_ways m passed ge in
                  inr (at-picked (row T (at n)) r (subst (λ z. row T (at z) ≡ Some r) same standing) (subst (λ z. test (at z) r ≡ true) same t))
            ]
      ] refl
        where
          both_ways : (m : ℕ) → nat_le m n ≡ true → n ≤ m → m ≡ n
          both_ways m e ge = grind (arith, nat_tests)

      -- a row that was come past by now was come past before, or is this one
      any-at : (q : RowKey) (r : Row) → row S q ≡ Some r → test q r ≡ true → passed_by (Some n) (index q) ≡ true → (earlier_any ≡ true) ⊎ (this_passes ≡ true)
      any-at q r there t passed = elim (index q) as (λ o. index q ≡ o → passed_by (Some n) o ≡ true → (earlier_any ≡ true) ⊎ (this_passes ≡ true)) [
        | None ↦ λ out p. cc
        | Some m ↦ λ in_it p.
            let same : q ≡ at m = column.is q m in_it in
            any-in m r (ap (row S) (sym same) ∙ there) (ap (λ z. test z r) (sym same) ∙ t) p
      ] refl passed

      any-back : next_any ≡ true → (earlier_any ≡ true) ⊎ (this_passes ≡ true)
      any-back t =
          let w = at-any_row (is_dropped index test (Some n)) S t in
          any-at w.0 w.1 w.2 (and_left _ _ w.3) (and_right (test w.0 w.1) _ w.3)

      either : (a b : Bool) → (a ≡ true) ⊎ (b ≡ true) → (a || b) ≡ true
      either a b (inl e) = or_left a b e
      either a b (inr e) = or_right a b e

      pub any-next : (any_row (is_dropped index test low) S || passes_under test T (at n)) ≡ any_row (is_dropped index test (Some n)) S
      any-next =
          same_test (earlier_any || this_passes) next_any (λ e. any-forth (or_true earlier_any this_passes e)) (λ e. either earlier_any this_passes (any-back e))

    -- ---- the end

    module _ (last : IsNextThat test T at low None) where
      -- a row of the column that was not come past does not pass
      not_passed : (m : ℕ) → passed_by low (Some m) ≡ false → passes_under test S (at m) ≡ false
      not_passed m e =
          let past : IsAfter low m = passed-not-after low m e in
          ap (λ o. option_map_or (test (at m)) o false) (sym (ahead m past)) ∙ last m past

      end-at : (m : ℕ) → option_and_then (left_by index test low (at m)) (row S (at m)) ≡ option_and_then (without_those test (at m)) (row S (at m))
      end-at m = elim (passed_by low (Some m)) as (λ b. passed_by low (Some m) ≡ b → option_and_then (left_by index test low (at m)) (row S (at m)) ≡ option_and_then (without_those test (at m)) (row S (at m))) [
        | true ↦ λ t. moved-at low m t (row S (at m))
        | false ↦ λ t.
            unmoved-at low m t (row S (at m)) ∙ sym (stays test S (at m) (row S (at m)) (not_passed m t))
      ] refl

      not_within : (q : RowKey) → index q ≡ None → (r : Option Row) → option_and_then (without_those test q) r ≡ r
      not_within q out (Some r) = ap (λ b. if b then None else Some r) (column.within q r out)
      not_within q out None = refl

      end-key : (q : RowKey) → option_and_then (left_by index test low q) (row S q) ≡ option_and_then (without_those test q) (row S q)
      end-key q = elim (index q) as (λ o. index q ≡ o → option_and_then (left_by index test low q) (row S q) ≡ option_and_then (without_those test q) (row S q)) [
        | None ↦ λ out. unmoved low q (ap (passed_by low) out ∙ no_number low) (row S q) ∙ sym (not_within q out (row S q))
        | Some m ↦ λ in_it.
            subst (λ z. option_and_then (left_by index test low z) (row S z) ≡ option_and_then (without_those test z) (row S z)) (sym (column.is q m in_it)) (end-at m)
      ] refl

      -- the walk is over: all rows that pass are gone
      pub drop-end : T ≡ change (without_those test) S
      drop-end = so_far ∙ same_state _ _ (λ q. row-change (left_by index test low) S q ∙ end-key q ∙ sym (row-change (without_those test) S q))

      end-in : (m : ℕ) (r : Row) → row S (at m) ≡ Some r → test (at m) r ≡ true → passed_by low (Some m) ≡ true
      end-in m r there t = elim (passed_by low (Some m)) as (λ b. passed_by low (Some m) ≡ b → b ≡ true) [
        | true ↦ λ u. refl
        | false ↦ λ u. absurd (true≢false (passes_under test S (at m)) (ap (λ o. option_map_or (test (at m)) o false) there ∙ t) (not_passed m u))
      ] refl

      end-any : (q : RowKey) (r : Row) → row S q ≡ Some r → test q r ≡ true → passed_by low (index q) ≡ true
      end-any q r there t = elim (index q) as (λ o. index q ≡ o → passed_by low o ≡ true) [
        | None ↦ λ out. absurd (true≢false (test q r) t (column.within q r out))
        | Some m ↦ λ in_it. end-in m r (ap (row S) (sym (column.is q m in_it)) ∙ there) (ap (λ z. test z r) (sym (column.is q m in_it)) ∙ t)
      ] refl

      pub any-end : any_row (is_dropped index test low) S ≡ any_row test S
      any-end = same_test (any_row (is_dropped index test low) S) (any_row test S)
          (λ e. let w = at-any_row (is_dropped index test low) S e in any_row-at test S w.0 w.1 w.2 (and_left _ _ w.3))
          (λ e.
          let w = at-any_row test S e in
          any_row-at (is_dropped index test low) S w.0 w.1 w.2 (and_both (test w.0 w.1) (passed_by low (index w.0)) w.3 (end-any w.0 w.1 w.2 w.3)))
