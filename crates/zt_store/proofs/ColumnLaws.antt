-- The keys from a place of a column on: the numbers of the column, and then the columns after it.
use Rattle.std.proofs.Common.{◌≡◌, ℕ, ◌<◌, ◌≤◌, ◌+◌, ◌-◌, ◌*◌, true, false, Option, Some, None, is_some, refl, sym, ap, ◌∙◌, subst, arith}
use Rattle.std.specs.Prelude.{nat_lt, if◌then◌else◌}
use Rattle.std.specs.List.{find}
use Rattle.std.specs.declared.cmp.Ordering.{Ordering}
use Rattle.std.specs.declared.cmp.Ordering.TheVariants.{Less, Equal, Greater}
use Rattle.std.specs.Ordering.{is_lt, is_le, nat_cmp, ordering_then}
use Rattle.std.proofs.lemmas.Bool.{ltb-true, ltb-false}
use Rattle.std.proofs.lemmas.Bool.Decides.{nat_tests}
use Rattle.zt_rows.specs.declared.keys.RowKey.{RowKey}
use Rattle.zt_rows.specs.declared.keys.RowKey.TheVariants as key
use Rattle.zt_rows.specs.declared.rows.Row.{Row}
use Rattle.zt_rows.specs.Keys.{rowkey_cmp}
use Rattle.zt_rows.specs.ProofsOnly.KeyOrder.{rowkey_cmp-equal}
use Rattle.zt_rows.specs.State.{State, row}
use Rattle.zt_rows.specs.Change.{keys}
use Rattle.zt_rows.specs.Room.{is_above, next_key, SuitsKey}
use Rattle.zt_store.specs.declared.key_columns.KeyColumn.{KeyColumn}
use Rattle.zt_store.specs.declared.key_columns.KeyColumn.TheVariants as column
use Rattle.zt_store.specs.ProofsOnly.KeyColumns.{key_in, next_column, is_from}
use Rattle.zt_store.proofs.NextKeys.{find-alike, find-none, find-least}

-- ---- one number, and pairs of them

one_above : (b y : ℕ) → is_lt (ordering_then (nat_cmp b y) Equal) ≡ is_le (ordering_then (nat_cmp (b + 1) y) Equal)
one_above b y = grind (arith, nat_tests)

one_none : (b y : ℕ) → (b ≤ y → ⊥) → is_le (ordering_then (nat_cmp b y) Equal) ≡ false
one_none b y h = grind (arith, nat_tests)

one_from : (b y : ℕ) → b ≤ y → is_le (ordering_then (nat_cmp b y) Equal) ≡ true
one_from b y h = grind (arith, nat_tests)

one_within : (b y c : ℕ) → is_le (ordering_then (nat_cmp b y) Equal) ≡ true → ordering_then (nat_cmp y c) Equal ≡ Less → (b ≤ y) × (y < c)
one_within b y c e l = (grind (arith, nat_tests), grind (arith, nat_tests))

pair_above : (a x b y : ℕ) → is_lt (ordering_then (nat_cmp a x) (nat_cmp b y)) ≡ is_le (ordering_then (nat_cmp a x) (nat_cmp (b + 1) y))
pair_above a x b y = grind (arith, nat_tests)

pair_step : (a x b y : ℕ) → (x ≡ a → b ≤ y → ⊥) → is_le (ordering_then (nat_cmp a x) (nat_cmp b y)) ≡ is_le (ordering_then (nat_cmp (a + 1) x) (nat_cmp 0 y))
pair_step a x b y h = grind (arith, nat_tests)

pair_none : (a x b y : ℕ) → (a ≤ x → ⊥) → is_le (ordering_then (nat_cmp a x) (nat_cmp b y)) ≡ false
pair_none a x b y h = grind (arith, nat_tests)

pair_zero : (x y : ℕ) → is_le (ordering_then (nat_cmp 0 x) (nat_cmp 0 y)) ≡ true
pair_zero x y = grind (arith, nat_tests)

pair_from : (a b y : ℕ) → b ≤ y → is_le (ordering_then (nat_cmp a a) (nat_cmp b y)) ≡ true
pair_from a b y h = grind (arith, nat_tests)

pair_within : (a x b y c : ℕ) → is_le (ordering_then (nat_cmp a x) (nat_cmp b y)) ≡ true → ordering_then (nat_cmp x a) (nat_cmp y c) ≡ Less → (x ≡ a) × (b ≤ y) × (y < c)
pair_within a x b y c e l = (grind (arith, nat_tests), grind (arith, nat_tests), grind (arith, nat_tests))

-- ---- the keys of a column

-- no row stands in the column from the number on
abbrev pub IsSlot : State → KeyColumn → ℕ → Type 0
IsSlot S c from = (n : ℕ) → from ≤ n → row S (key_in c n) ≡ None

-- a row that stands is not where none stands
apart : (S : State) (k q : RowKey) → is_some (row S k) ≡ true → k ≡ q → row S q ≡ None → ⊥
apart S k q stands same none =
    let no : true ≡ false = sym stands ∙ ap (λ x. is_some (row S x)) same ∙ ap is_some none in cc

from_in : (c : KeyColumn) (from n : ℕ) → from ≤ n → is_from (key_in c from) (key_in c n) ≡ true
from_in column.Objects from n h = one_from from n h
from_in (column.Entries p) from n h = pair_from p from n h
from_in (column.Messages p) from n h = pair_from p from n h
from_in (column.Packets p) from n h = pair_from p from n h
from_in column.Waits from n h = one_from from n h

-- what stands between two keys of a column is one of its keys
within : (c : KeyColumn) (from n : ℕ) (q : RowKey) → is_from (key_in c from) q ≡ true → rowkey_cmp q (key_in c n) ≡ Less → (m : ℕ) × (q ≡ key_in c m) × (from ≤ m) × (m < n)
within column.Objects from n (key.Object y) e l = let w = one_within from y n e l in (y, refl, w.0, w.1)
within (column.Entries p) from n (key.Entry x y) e l = let w = pair_within p x from y n e l in (y, ap (λ z. key.Entry z y) w.0, w.1, w.2)
within (column.Messages p) from n (key.Msg x y) e l = let w = pair_within p x from y n e l in (y, ap (λ z. key.Msg z y) w.0, w.1, w.2)
within (column.Packets p) from n (key.Packet x y) e l = let w = pair_within p x from y n e l in (y, ap (λ z. key.Packet z y) w.0, w.1, w.2)
within column.Waits from n (key.Wait y) e l = let w = one_within from y n e l in (y, refl, w.0, w.1)
within _ from n _ e l = cc

-- the first row of a column from a number on is the first of all from there on
pub first-found : (S : State) (c : KeyColumn) (from n : ℕ) → from ≤ n → is_some (row S (key_in c n)) ≡ true → ((m : ℕ) → from ≤ m → m < n → row S (key_in c m) ≡ None) → Some (key_in c n) ≡ find (is_from (key_in c from)) (keys S)
first-found S c from n h stands none =
    find-least S (is_from (key_in c from)) (key_in c n) (from_in c from n h) stands (λ q e l.
    let w = within c from n q e l in
    ap (row S) w.1 ∙ none w.0 w.2 w.3)

-- ---- above a key

above-from : (c : KeyColumn) (n : ℕ) (k : RowKey) → is_above (Some (key_in c n)) k ≡ is_from (key_in c (n + 1)) k
above-from column.Objects n (key.Object y) = one_above n y
above-from (column.Entries p) n (key.Entry x y) = pair_above p x n y
above-from (column.Messages p) n (key.Msg x y) = pair_above p x n y
above-from (column.Packets p) n (key.Packet x y) = pair_above p x n y
above-from column.Waits n (key.Wait y) = one_above n y
above-from _ n _ = refl

pub find-above : (S : State) (c : KeyColumn) (n : ℕ) → find (is_from (key_in c (n + 1))) (keys S) ≡ find (is_above (Some (key_in c n))) (keys S)
find-above S c n = find-alike S _ _ (λ k stands. sym (above-from c n k))

untied : (o : Ordering) → (o ≡ Equal → ⊥) → is_le o ≡ is_lt o
untied Less h = refl
untied Equal h = absurd (h refl)
untied Greater h = refl

pub find-above_none : (S : State) (c : KeyColumn) (n : ℕ) → row S (key_in c n) ≡ None → find (is_from (key_in c n)) (keys S) ≡ find (is_above (Some (key_in c n))) (keys S)
find-above_none S c n none =
    find-alike S _ _ (λ k stands. untied (rowkey_cmp (key_in c n) k) (λ e. apart S k (key_in c n) stands (sym (rowkey_cmp-equal (key_in c n) k e)) none))

-- ---- from a column to the next

-- no owner has rows from this koid on
pub record OwnersEnd (S : State) (owners : ℕ) : Type 0 where
  pub entries : (x h : ℕ) → owners ≤ x → row S (key.Entry x h) ≡ None
  pub messages : (x n : ℕ) → owners ≤ x → row S (key.Msg x n) ≡ None
  pub packets : (x n : ℕ) → owners ≤ x → row S (key.Packet x n) ≡ None

objects-next : (S : State) (from : ℕ) → IsSlot S column.Objects from → (k : RowKey) → is_some (row S k) ≡ true → is_from (key.Object from) k ≡ is_from (key.Entry 0 0) k
objects-next S from bare (key.Object y) stands = one_none from y (λ h. apart S (key.Object y) (key.Object y) stands refl (bare y h))
objects-next S from bare (key.Entry x y) stands = sym (pair_zero x y)
objects-next S from bare _ stands = refl

entries-next : (S : State) (p from : ℕ) → IsSlot S (column.Entries p) from → (k : RowKey) → is_some (row S k) ≡ true → is_from (key.Entry p from) k ≡ is_from (key.Entry (p + 1) 0) k
entries-next S p from bare (key.Entry x y) stands =
    pair_step p x from y (λ e h. apart S (key.Entry x y) (key.Entry p y) stands (ap (λ z. key.Entry z y) e) (bare y h))
entries-next S p from bare _ stands = refl

entries-last : (S : State) (p from : ℕ) → ((x h : ℕ) → p ≤ x → row S (key.Entry x h) ≡ None) → (k : RowKey) → is_some (row S k) ≡ true → is_from (key.Entry p from) k ≡ is_from (key.Msg 0 0) k
entries-last S p from bare (key.Entry x y) stands = pair_none p x from y (λ h. apart S (key.Entry x y) (key.Entry x y) stands refl (bare x y h))
entries-last S p from bare (key.Msg x y) stands = sym (pair_zero x y)
entries-last S p from bare _ stands = refl

messages-next : (S : State) (p from : ℕ) → IsSlot S (column.Messages p) from → (k : RowKey) → is_some (row S k) ≡ true → is_from (key.Msg p from) k ≡ is_from (key.Msg (p + 1) 0) k
messages-next S p from bare (key.Msg x y) stands =
    pair_step p x from y (λ e h. apart S (key.Msg x y) (key.Msg p y) stands (ap (λ z. key.Msg z y) e) (bare y h))
messages-next S p from bare _ stands = refl

messages-last : (S : State) (p from : ℕ) → ((x n : ℕ) → p ≤ x → row S (key.Msg x n) ≡ None) → (k : RowKey) → is_some (row S k) ≡ true → is_from (key.Msg p from) k ≡ is_from (key.Packet 0 0) k
messages-last S p from bare (key.Msg x y) stands = pair_none p x from y (λ h. apart S (key.Msg x y) (key.Msg x y) stands refl (bare x y h))
messages-last S p from bare (key.Packet x y) stands = sym (pair_zero x y)
messages-last S p from bare _ stands = refl

packets-next : (S : State) (p from : ℕ) → IsSlot S (column.Packets p) from → (k : RowKey) → is_some (row S k) ≡ true → is_from (key.Packet p from) k ≡ is_from (key.Packet (p + 1) 0) k
packets-next S p from bare (key.Packet x y) stands =
    pair_step p x from y (λ e h. apart S (key.Packet x y) (key.Packet p y) stands (ap (λ z. key.Packet z y) e) (bare y h))
packets-next S p from bare _ stands = refl

packets-last : (S : State) (p from : ℕ) → ((x n : ℕ) → p ≤ x → row S (key.Packet x n) ≡ None) → (k : RowKey) → is_some (row S k) ≡ true → is_from (key.Packet p from) k ≡ is_from (key.Wait 0) k
packets-last S p from bare (key.Packet x y) stands = pair_none p x from y (λ h. apart S (key.Packet x y) (key.Packet x y) stands refl (bare x y h))
packets-last S p from bare (key.Wait y) stands = sym (one_from 0 y (omega arith))
packets-last S p from bare _ stands = refl

waits-last : (S : State) (from : ℕ) → IsSlot S column.Waits from → (k : RowKey) → is_some (row S k) ≡ true → is_from (key.Wait from) k ≡ false
waits-last S from bare (key.Wait y) stands = one_none from y (λ h. apart S (key.Wait y) (key.Wait y) stands refl (bare y h))
waits-last S from bare _ stands = refl

-- one of two columns, by whether the owner is below the end
chosen : (p owners : ℕ) (P : KeyColumn → Type 0) (a b : KeyColumn) → P a → (owners ≤ p → P b) → P (if nat_lt p owners then a else b)
chosen p owners P a b at_a at_b =
    elim (nat_lt p owners) as (λ t. nat_lt p owners ≡ t → P (if t then a else b)) [ true ↦ λ t. at_a | false ↦ λ t. at_b (ltb-false p owners t) ] refl

abbrev GoesOn : State → KeyColumn → ℕ → KeyColumn → Type 0
GoesOn S c from d = (k : RowKey) → is_some (row S k) ≡ true → is_from (key_in c from) k ≡ is_from (key_in d 0) k

goes_on : (S : State) (owners : ℕ) (c d : KeyColumn) (from : ℕ) → OwnersEnd S owners → IsSlot S c from → next_column owners c ≡ Some d → GoesOn S c from d
goes_on S owners column.Objects d from ends bare is =
    let same : column.Entries 0 ≡ d = cc in subst (GoesOn S column.Objects from) same (objects-next S from bare)
goes_on S owners (column.Entries p) d from ends bare is =
    let same : (if nat_lt p owners then column.Entries (p + 1) else column.Messages 0) ≡ d = cc in
    subst (GoesOn S (column.Entries p) from) same
    (chosen p owners (GoesOn S (column.Entries p) from) (column.Entries (p + 1)) (column.Messages 0) (entries-next S p from bare)
    (λ past. entries-last S p from (λ x h above. ends.entries x h (omega arith))))
goes_on S owners (column.Messages p) d from ends bare is =
    let same : (if nat_lt p owners then column.Messages (p + 1) else column.Packets 0) ≡ d = cc in
    subst (GoesOn S (column.Messages p) from) same
    (chosen p owners (GoesOn S (column.Messages p) from) (column.Messages (p + 1)) (column.Packets 0) (messages-next S p from bare)
    (λ past. messages-last S p from (λ x n above. ends.messages x n (omega arith))))
goes_on S owners (column.Packets p) d from ends bare is =
    let same : (if nat_lt p owners then column.Packets (p + 1) else column.Waits) ≡ d = cc in
    subst (GoesOn S (column.Packets p) from) same
    (chosen p owners (GoesOn S (column.Packets p) from) (column.Packets (p + 1)) column.Waits (packets-next S p from bare)
    (λ past. packets-last S p from (λ x n above. ends.packets x n (omega arith))))
goes_on S owners column.Waits d from ends bare is = cc

pub next-found : (S : State) (owners : ℕ) (c d : KeyColumn) (from : ℕ) → OwnersEnd S owners → IsSlot S c from → next_column owners c ≡ Some d → find (is_from (key_in c from)) (keys S) ≡ find (is_from (key_in d 0)) (keys S)
next-found S owners c d from ends bare is = find-alike S _ _ (goes_on S owners c d from ends bare is)

pub last-found : (S : State) (owners : ℕ) (c : KeyColumn) (from : ℕ) → IsSlot S c from → next_column owners c ≡ None → find (is_from (key_in c from)) (keys S) ≡ None
last-found S owners column.Waits from bare is = find-none S _ (waits-last S from bare)
last-found S owners column.Objects from bare is = cc
last-found S owners (column.Entries p) from bare is = cc
last-found S owners (column.Messages p) from bare is = cc
last-found S owners (column.Packets p) from bare is = cc

-- ---- how many columns are left at most

abbrev pub columns_left : ℕ → KeyColumn → ℕ
columns_left owners column.Objects = 3 * owners + 4
columns_left owners (column.Entries p) = 2 * owners + 3 + (owners - p)
columns_left owners (column.Messages p) = owners + 2 + (owners - p)
columns_left owners (column.Packets p) = 1 + (owners - p)
columns_left owners column.Waits = 0

pub columns_left-falls : (owners : ℕ) (c d : KeyColumn) → next_column owners c ≡ Some d → columns_left owners d < columns_left owners c
columns_left-falls owners column.Objects d is =
    let same : column.Entries 0 ≡ d = cc in subst (λ e. columns_left owners e < columns_left owners column.Objects) same (omega arith)
columns_left-falls owners (column.Entries p) d is =
    let same : (if nat_lt p owners then column.Entries (p + 1) else column.Messages 0) ≡ d = cc in
    subst (λ e. columns_left owners e < columns_left owners (column.Entries p)) same
    (elim (nat_lt p owners) as (λ t. nat_lt p owners ≡ t → columns_left owners (if t then column.Entries (p + 1) else column.Messages 0) < columns_left owners (column.Entries p)) [
      | true ↦ λ t. let low : p < owners = ltb-true p owners t in omega arith
      | false ↦ λ t. omega arith
    ] refl)
columns_left-falls owners (column.Messages p) d is =
    let same : (if nat_lt p owners then column.Messages (p + 1) else column.Packets 0) ≡ d = cc in
    subst (λ e. columns_left owners e < columns_left owners (column.Messages p)) same
    (elim (nat_lt p owners) as (λ t. nat_lt p owners ≡ t → columns_left owners (if t then column.Messages (p + 1) else column.Packets 0) < columns_left owners (column.Messages p)) [
      | true ↦ λ t. let low : p < owners = ltb-true p owners t in omega arith
      | false ↦ λ t. omega arith
    ] refl)
columns_left-falls owners (column.Packets p) d is =
    let same : (if nat_lt p owners then column.Packets (p + 1) else column.Waits) ≡ d = cc in
    subst (λ e. columns_left owners e < columns_left owners (column.Packets p)) same
    (elim (nat_lt p owners) as (λ t. nat_lt p owners ≡ t → columns_left owners (if t then column.Packets (p + 1) else column.Waits) < columns_left owners (column.Packets p)) [
      | true ↦ λ t. let low : p < owners = ltb-true p owners t in omega arith
      | false ↦ λ t. omega arith
    ] refl)
columns_left-falls owners column.Waits d is = cc

-- ---- the first key of all, and the first behind the counters

not_below_counters : (q : RowKey) → rowkey_cmp q key.Counters ≡ Less → ⊥
not_below_counters key.Counters e = cc
not_below_counters (key.Object _) e = cc
not_below_counters (key.Entry _ _) e = cc
not_below_counters (key.Msg _ _) e = cc
not_below_counters (key.Packet _ _) e = cc
not_below_counters (key.Wait _) e = cc

counters_stand : (r : Option Row) → SuitsKey key.Counters r → is_some r ≡ true
counters_stand (Some r) suits = refl
counters_stand None suits = suits

pub counters-first : (S : State) → SuitsKey key.Counters (row S key.Counters) → Some key.Counters ≡ next_key S None
counters-first S suits =
    find-least S (is_above None) key.Counters refl (counters_stand (row S key.Counters) suits) (λ q _ e. absurd (not_below_counters q e))

behind_counters : (k : RowKey) → is_from (key.Object 0) k ≡ is_above (Some key.Counters) k
behind_counters key.Counters = refl
behind_counters (key.Object x) = one_from 0 x (omega arith)
behind_counters (key.Entry _ _) = refl
behind_counters (key.Msg _ _) = refl
behind_counters (key.Packet _ _) = refl
behind_counters (key.Wait _) = refl

pub counters-next : (S : State) → find (is_from (key.Object 0)) (keys S) ≡ next_key S (Some key.Counters)
counters-next S = find-alike S _ _ (λ k stands. behind_counters k)
