-- Messages and packets of an object number by number, and the waits for a port or on what names an object.
use Rattle.std.proofs.Common.{◌≡◌, ℕ, ◌+◌, ◌≤◌, ◌<◌, Bool, true, false, cond, ◌||◌, List, [], ◌++◌, Option, Some, None, ◌⊎◌, inl, inr, refl, sym, ◌∙◌, ap, subst, arith}
use Rattle.std.specs.Prelude.{◌==◌, nat_lt}
use Rattle.std.specs.Option.{option_map_or}
use Rattle.std.specs.declared.cmp.Ordering.{Ordering}
use Rattle.std.specs.declared.cmp.Ordering.TheVariants.{Less, Equal, Greater}
use Rattle.std.specs.Ordering.{is_lt, nat_cmp, ordering_then}
use Rattle.std.specs.Cmp.{tied_itself}
use Rattle.std.proofs.lemmas.Cmp.{nat_cmp_total}
use Rattle.std.proofs.lemmas.Bool.{cases_lt, true≢false, eqb-true, eq-eqb, lt-ltb, ltb-true}
use Rattle.zt_rows.specs.declared.keys.RowKey.{RowKey}
use Rattle.zt_rows.specs.declared.keys.RowKey.TheVariants as key
use Rattle.zt_rows.specs.declared.rows.Row.{Row}
use Rattle.zt_rows.specs.declared.rows.Row.TheVariants as rows
use Rattle.zt_rows.specs.declared.rows.Wait.{Wait}
use Rattle.zt_rows.specs.Consistent.{IsConsistent}
use Rattle.zt_rows.specs.Keys.{rowkey_cmp}
use Rattle.zt_rows.specs.Reads.{as_message, as_packet, as_wait, wait}
use Rattle.zt_rows.specs.Room.{suits}
use Rattle.zt_rows.specs.State.{State, row}
use Rattle.zt_rows.specs.Tests.{next_at}
use Rattle.zt_rows.proofs.ReadLaws.{wait-row}
use Rattle.zt_index.specs.Chains.{IsBehind, IsShortOf}
use Rattle.zt_index.specs.Criteria.{is_at, is_for, waits_where}
use Rattle.zt_look.specs.declared.object_rows.Owned.{Owned}
use Rattle.zt_look.specs.declared.object_rows.Owned.TheVariants as part
use Rattle.zt_look.specs.ObjectLook.{rows_where, is_wait_about}
use Rattle.zt_look.specs.ProofsOnly.RowWalk.{key_of, is_owned, IsFirstOwned, under, is_before, rows_before, lesser, wait_key, AreNextWaits}
use Rattle.zt_look.proofs.RowWalkLaws.{IsGap, walk-more, walk-first, walk-all}

-- ---- the order of numbered keys

less_number : (m n : ℕ) → m < n → nat_cmp m n ≡ Less
less_number m n h = ap (λ b. cond b Less (cond (m == n) Equal Greater)) (lt-ltb m n h)

number_less : (m n : ℕ) → is_lt (nat_cmp m n) ≡ true → m < n
number_less m n h = by (nat_lt m n) refl h
  where
    by : (b : Bool) → nat_lt m n ≡ b → is_lt (cond b Less (cond (m == n) Equal Greater)) ≡ true → m < n
    by true e h = ltb-true m n e
    by false e h = never (m == n) h
      where
        never : (b : Bool) → is_lt (cond b Equal Greater) ≡ true → m < n
        never true h = cc
        never false h = cc

numbered : (o : Owned) (x m n : ℕ) → rowkey_cmp (key_of o x m) (key_of o x n) ≡ nat_cmp m n
numbered part.Messages x m n = ap (λ r. ordering_then r (nat_cmp m n)) (tied_itself nat_cmp_total x)
numbered part.Packets x m n = ap (λ r. ordering_then r (nat_cmp m n)) (tied_itself nat_cmp_total x)

then_tied : (r : Ordering) → ordering_then r Equal ≡ r
then_tied Less = refl
then_tied Equal = refl
then_tied Greater = refl

numbered_waits : (m n : ℕ) → rowkey_cmp (key.Wait m) (key.Wait n) ≡ nat_cmp m n
numbered_waits m n = then_tied (nat_cmp m n)

-- ---- what an object owns

-- such a row stands under such a key
owned_key : (o : Owned) (x : ℕ) (q : RowKey) (r : Row) → is_owned o x (q, r) ≡ true → (m : ℕ) × (q ≡ key_of o x m)
owned_key part.Messages x (key.Msg y n) r e = (n, ap (λ z. key.Msg z n) (eqb-true y x e))
owned_key part.Messages x _ r e = cc
owned_key part.Packets x (key.Packet y n) r e = (n, ap (λ z. key.Packet z n) (eqb-true y x e))
owned_key part.Packets x _ r e = cc

pub owned-passes : (o : Owned) (x n : ℕ) (r : Row) → is_owned o x (key_of o x n, r) ≡ true
owned-passes part.Messages x n r = eq-eqb x x refl
owned-passes part.Packets x n r = eq-eqb x x refl

-- it does not pass, since the one that passes has a number out of this range
out_of : (o : Owned) (x : ℕ) (q : RowKey) (r : Row) → ((m : ℕ) → q ≡ key_of o x m → ⊥) → is_owned o x (q, r) ≡ false
out_of o x q r never = by (is_owned o x (q, r)) refl
  where
    by : (b : Bool) → is_owned o x (q, r) ≡ b → is_owned o x (q, r) ≡ false
    by true e = let at = owned_key o x q r e in absurd (never at.0 at.1)
    by false e = e

pub owned-gap : (S : State) (o : Owned) (x n : ℕ) → IsGap S (is_owned o x) (key_of o x n) (Some (key_of o x (n + 1)))
owned-gap S o x n = record {
  above = λ k e. above k e;
  empty = λ q r at low high. out_of o x q r (λ m is. within m (lower q m is low) (higher q m is high));
}
  where
    some_key : (k l : RowKey) → Some k ≡ Some l → k ≡ l
    some_key k l e = cc

    above : (k : RowKey) → Some (key_of o x (n + 1)) ≡ Some k → rowkey_cmp (key_of o x n) k ≡ Less
    above k e = subst (λ l. rowkey_cmp (key_of o x n) l ≡ Less) (some_key (key_of o x (n + 1)) k e) (numbered o x n (n + 1) ∙ less_number n (n + 1) (omega arith))

    lower : (q : RowKey) (m : ℕ) → q ≡ key_of o x m → rowkey_cmp (key_of o x n) q ≡ Less → n < m
    lower q m is low = number_less n m (ap is_lt (sym (numbered o x n m) ∙ ap (rowkey_cmp (key_of o x n)) (sym is) ∙ low))

    higher : (q : RowKey) (m : ℕ) → q ≡ key_of o x m → is_lt (rowkey_cmp q (key_of o x (n + 1))) ≡ true → m < n + 1
    higher q m is high =
        number_less m (n + 1) (ap is_lt (sym (numbered o x m (n + 1)) ∙ ap (λ k. rowkey_cmp k (key_of o x (n + 1))) (sym is)) ∙ high)

    within : (m : ℕ) → n < m → m < n + 1 → ⊥
    within m l h = omega (arith, l, h)

some_same : {A : Type 0} (x y : A) → Some x ≡ Some y → x ≡ y
some_same x y e = cc

or_first : (a b : Bool) → a ≡ true → (a || b) ≡ true
or_first true b h = refl
or_first false b h = cc

or_second : (a b : Bool) → b ≡ true → (a || b) ≡ true
or_second true b h = refl
or_second false b h = h

some_none : {A : Type 0} (o : Option A) (x : A) → o ≡ Some x → o ≡ None → ⊥
some_none o x e n = cc

-- before the first there is none
pub owned-first : (S : State) (o : Owned) (x n : ℕ) (list : List (RowKey × Row)) → IsFirstOwned S o x (Some n) → list ≡ []
    → list ≡ rows_before (is_owned o x) (Some (key_of o x n)) S.rows
owned-first S o x n list found none =
    none ∙ walk-first S (is_owned o x) (Some (key_of o x n)) (λ q r there low. out_of o x q r (λ m same. never q r m there same low))
  where
    never : (q : RowKey) (r : Row) (m : ℕ) → row S q ≡ Some r → q ≡ key_of o x m → is_lt (rowkey_cmp q (key_of o x n)) ≡ true → ⊥
    never q r m there same low =
        let less : m < n = number_less m n (ap is_lt (sym (numbered o x m n) ∙ ap (λ k. rowkey_cmp k (key_of o x n)) (sym same)) ∙ low) in
        some_none (row S q) r there (ap (row S) same ∙ found.1 m less)

-- where there is none, there is no row
pub owned-none : (S : State) (o : Owned) (x : ℕ) (first : Option ℕ) (list : List (RowKey × Row)) → IsFirstOwned S o x first → first ≡ None → list ≡ []
    → list ≡ rows_where S (is_owned o x)
owned-none S o x first list is at none =
    let empty : IsFirstOwned S o x None = subst (IsFirstOwned S o x) at is in
    walk-all S (is_owned o x) None list (none ∙ walk-first S (is_owned o x) None (λ q r there short. out_of o x q r (λ m same. some_none (row S q) r there (ap (row S) same ∙ empty m)))) (λ q r there passes. refl)

-- every number that is there was given out
given_out : (S : State) (o : Owned) (x m : ℕ) (r : Row) → IsConsistent S → row S (key_of o x m) ≡ Some r → m < next_at S x
given_out S part.Messages x m r sound at = by r at (sound.sound.typed (key.Msg x m) r at)
  where
    by : (r : Row) → row S (key.Msg x m) ≡ Some r → suits (key.Msg x m) r ≡ true → m < next_at S x
    by (rows.Msg c) at s = (sound.sound.of_messages x m c (ap as_message at)).number
    by _ at s = cc
given_out S part.Packets x m r sound at = by r at (sound.sound.typed (key.Packet x m) r at)
  where
    by : (r : Row) → row S (key.Packet x m) ≡ Some r → suits (key.Packet x m) r ≡ true → m < next_at S x
    by (rows.Packet c) at s = (sound.sound.of_packets x m c (ap as_packet at)).number
    by _ at s = cc

-- behind the last there is none
pub owned-last : (S : State) (o : Owned) (x n : ℕ) (list : List (RowKey × Row)) → IsConsistent S → next_at S x ≤ n
    → list ≡ rows_before (is_owned o x) (Some (key_of o x n)) S.rows → list ≡ rows_where S (is_owned o x)
owned-last S o x n list sound high so_far =
    walk-all S (is_owned o x) (Some (key_of o x n)) list so_far (λ q r there passes. short q r there (owned_key o x q r passes))
  where
    short : (q : RowKey) (r : Row) → row S q ≡ Some r → (m : ℕ) × (q ≡ key_of o x m) → is_lt (rowkey_cmp q (key_of o x n)) ≡ true
    short q r there at =
        let low : at.0 < next_at S x = given_out S o x at.0 r sound (ap (row S) (sym at.1) ∙ there) in
        let less : at.0 < n = omega (arith, low, high) in
        ap is_lt (ap (λ k. rowkey_cmp k (key_of o x n)) at.1 ∙ numbered o x at.0 n ∙ less_number at.0 n less)

-- ---- waits

is_short_of : (found : Option ℕ) (m n : ℕ) → found ≡ Some n → m < n → IsShortOf (λ a b. a < b) found m
is_short_of None m n e h = cc
is_short_of (Some k) m n e h = let same : k ≡ n = cc in omega (arith, h, same)

or_false : (a b : Bool) → a ≡ false → b ≡ false → (a || b) ≡ false
or_false a b p q = ap (λ c. c || b) p ∙ q

module _ (S : State) (x : ℕ) where
  abbrev about : RowKey × Row → Bool
  about = is_wait_about S x

  abbrev by_port : ℕ → Bool
  by_port = waits_where S (is_for x)

  abbrev by_handle : ℕ → Bool
  by_handle = waits_where S (is_at S x)

  -- before the lesser of two is before each
  short_both : (m : ℕ) (a b : Option ℕ) → IsShortOf (λ a b. a < b) (lesser a b) m → IsShortOf (λ a b. a < b) a m × IsShortOf (λ a b. a < b) b m
  short_both m (Some p) (Some q) h = (omega (arith, h), omega (arith, h))
  short_both m (Some p) None h = (h, tt)
  short_both m None b h = (tt, h)

  -- no wait that is asked for stands behind the low one and before the lesser of both
  none_about : (low a b : Option ℕ) → AreNextWaits S x low a b → (m : ℕ) (w : Wait) → row S (key.Wait m) ≡ Some (rows.Wait w) → IsBehind (λ a b. a < b) low m
      → IsShortOf (λ a b. a < b) (lesser a b) m → about (key.Wait m, rows.Wait w) ≡ false
  none_about low a b next m w at behind short =
      let there : wait S m ≡ Some w = ap as_wait at in
      let both = short_both m a b short in
      or_false (is_for x w) (is_at S x w)
      (sym (ap (λ o. option_map_or (is_for x) o false) there) ∙ next.port.1 m behind both.0)
      (sym (ap (λ o. option_map_or (is_at S x) o false) there) ∙ next.handle.1 m behind both.1)

  -- rows that are no waits are not asked for
  only_waits : (q : RowKey) (r : Row) → ((m : ℕ) (w : Wait) → q ≡ key.Wait m → r ≡ rows.Wait w → about (key.Wait m, rows.Wait w) ≡ false) → about (q, r) ≡ false
  only_waits (key.Wait m) (rows.Wait w) f = f m w refl refl
  only_waits (key.Wait m) _ f = refl
  only_waits key.Counters r f = refl
  only_waits (key.Object y) r f = refl
  only_waits (key.Entry y n) r f = refl
  only_waits (key.Msg y n) r f = refl
  only_waits (key.Packet y n) r f = refl

  short_number : (found : Option ℕ) (m : ℕ) → is_before (wait_key found) (key.Wait m) ≡ true → IsShortOf (λ a b. a < b) found m
  short_number None m h = tt
  short_number (Some n) m h = number_less m n (ap is_lt (sym (numbered_waits m n)) ∙ h)

  pub waits-first : (low a b : Option ℕ) (list : List (RowKey × Row)) → AreNextWaits S x low a b → low ≡ None → list ≡ [] → list ≡ rows_before about (wait_key (lesser a b)) S.rows
  waits-first low a b list next first none =
      let from : AreNextWaits S x None a b = subst (λ l. AreNextWaits S x l a b) first next in
      none ∙ walk-first S about (wait_key (lesser a b)) (λ q r at short. only_waits q r (λ m w is holds.
      none_about None a b from m w (ap (row S) (sym is) ∙ at ∙ ap Some holds) tt (short_number (lesser a b) m (ap (is_before (wait_key (lesser a b))) (sym is) ∙ short))))

  -- the lesser of both is a wait that is asked for
  found_about : (low a b : Option ℕ) (n : ℕ) → AreNextWaits S x low a b → lesser a b ≡ Some n → (IsBehind (λ a b. a < b) low n) × ((by_port n || by_handle n) ≡ true)
  found_about low (Some p) (Some q) n next least = by (cases_lt q p)
    where
      by : (q < p) ⊎ (p ≤ q) → (IsBehind (λ a b. a < b) low n) × ((by_port n || by_handle n) ≡ true)
      by (inl h) =
          let same : q ≡ n = some_same q n (ap Some (omega (arith, h)) ∙ least) in
          subst (λ k. (IsBehind (λ a b. a < b) low k) × ((by_port k || by_handle k) ≡ true)) same (next.handle.0.0, or_second (by_port q) (by_handle q) next.handle.0.1)
      by (inr h) =
          let same : p ≡ n = some_same p n (ap Some (omega (arith, h)) ∙ least) in
          subst (λ k. (IsBehind (λ a b. a < b) low k) × ((by_port k || by_handle k) ≡ true)) same (next.port.0.0, or_first (by_port p) (by_handle p) next.port.0.1)
  found_about low (Some p) None n next least =
      subst (λ k. (IsBehind (λ a b. a < b) low k) × ((by_port k || by_handle k) ≡ true)) (some_same p n least) (next.port.0.0, or_first (by_port p) (by_handle p) next.port.0.1)
  found_about low None (Some q) n next least =
      subst (λ k. (IsBehind (λ a b. a < b) low k) × ((by_port k || by_handle k) ≡ true)) (some_same q n least) (next.handle.0.0, or_second (by_port q) (by_handle q) next.handle.0.1)
  found_about low None None n next least = cc

  -- a number that either finds is that of a wait
  there_about : (n : ℕ) → (by_port n || by_handle n) ≡ true → (w : Wait) × (row S (key.Wait n) ≡ Some (rows.Wait w)) × (about (key.Wait n, rows.Wait w) ≡ true)
  there_about n h = by (wait S n) refl
    where
      by : (o : Option Wait) → wait S n ≡ o → (w : Wait) × (row S (key.Wait n) ≡ Some (rows.Wait w)) × (about (key.Wait n, rows.Wait w) ≡ true)
      by (Some w) e = (w, wait-row S n w e, sym (ap (λ o. option_map_or (is_for x) o false || option_map_or (is_at S x) o false) e) ∙ h)
      by None e = absurd (true≢false (sym h ∙ ap (λ o. option_map_or (is_for x) o false || option_map_or (is_at S x) o false) e))

  pub waits-there : (low a b : Option ℕ) (n : ℕ) → AreNextWaits S x low a b → lesser a b ≡ Some n → (r : Row) × (row S (key.Wait n) ≡ Some r)
  waits-there low a b n next least = let at = there_about n (found_about low a b n next least).1 in (rows.Wait at.0, at.1)

  -- behind a wait, the next of both kinds
  waits_gap : (n : ℕ) (c d : Option ℕ) → AreNextWaits S x (Some n) c d → IsGap S about (key.Wait n) (wait_key (lesser c d))
  waits_gap n c d next = record {
    above = λ k e. above (lesser c d) refl k e;
    empty = λ q r at behind short. only_waits q r (λ m w is holds.
        none_about (Some n) c d next m w (ap (row S) (sym is) ∙ at ∙ ap Some holds)
        (number_less n m (ap is_lt (sym (numbered_waits n m) ∙ ap (rowkey_cmp (key.Wait n)) (sym is) ∙ behind)))
        (short_number (lesser c d) m (ap (is_before (wait_key (lesser c d))) (sym is) ∙ short)));
  }
    where
      above : (o : Option ℕ) → lesser c d ≡ o → (k : RowKey) → wait_key o ≡ Some k → rowkey_cmp (key.Wait n) k ≡ Less
      above None h k e = cc
      above (Some m) h k e =
          let less : n < m = (found_about (Some n) c d m next h).0 in
          let same : key.Wait m ≡ k = cc in
          subst (λ l. rowkey_cmp (key.Wait n) l ≡ Less) same (numbered_waits n m ∙ less_number n m less)

  pub waits-more : (low a b c d : Option ℕ) (n : ℕ) (list new : List (RowKey × Row)) → AreNextWaits S x low a b → lesser a b ≡ Some n
      → list ≡ rows_before about (wait_key (lesser a b)) S.rows → new ≡ list ++ under (key.Wait n) (row S (key.Wait n)) → AreNextWaits S x (Some n) c d
      → new ≡ rows_before about (wait_key (lesser c d)) S.rows
  waits-more low a b c d n list new next least so_far more then =
      let at = there_about n (found_about low a b n next least).1 in
      walk-more S about (key.Wait n) (wait_key (lesser c d)) list new (so_far ∙ ap (λ o. rows_before about (wait_key o) S.rows) least) more
      (λ r e. ap (λ o. about_of n o) (sym e ∙ at.1) ∙ at.2) (waits_gap n c d then)
    where
      about_of : ℕ → Option Row → Bool
      about_of n (Some r) = about (key.Wait n, r)
      about_of n None = false
