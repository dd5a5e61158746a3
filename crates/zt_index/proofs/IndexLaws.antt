-- The waits by what they are on, and the live jobs and processes by their parents: what a put makes of their buckets,
-- and the search for the next one.
use Rattle.std.proofs.Common.{◌≡◌, ◌<◌, ◌≤◌, ◌+◌, ◌-◌, ◌&&◌, ◌||◌, arith, ℕ, suc, Bool, true, false, not, cond, List, length, length-set, set, Option, Some, None, refl, sym, ap, ◌∙◌, subst, ◌⊎◌, inl, inr, get_or-set_same, get_or-set_other}
use Rattle.std.specs.Prelude.{◌==◌, if◌then◌else◌, nat_lt}
use Rattle.std.specs.Option.{option_and_then, option_map, option_map_or}
use Rattle.std.proofs.lemmas.Bool.{cases_lt, eqb-true, eq-eqb, ltb-true}
use Rattle.std.proofs.lemmas.Bool.Decides.{nat_tests}
use Rattle.std.proofs.lemmas.List.{get_or_past}
use Rattle.zt_rows.specs.declared.keys.RowKey.{RowKey}
use Rattle.zt_rows.specs.declared.keys.RowKey.TheVariants as key
use Rattle.zt_rows.specs.declared.rows.Held.{Held}
use Rattle.zt_rows.specs.declared.rows.ObjectRow.{ObjectRow}
use Rattle.zt_rows.specs.declared.rows.Row.{Row}
use Rattle.zt_rows.specs.declared.rows.Wait.{Wait}
use Rattle.zt_rows.specs.Reads.{as_entry, as_object, as_wait, entry, is_live_job, is_live_process, object, wait}
use Rattle.zt_rows.specs.Opening.{hollow}
use Rattle.zt_rows.specs.State.{State, row, put, nothing}
use Rattle.zt_rows.proofs.RowLaws.{and_left, and_right}
use Rattle.zt_rows.proofs.StateLaws.{row-put, row-nothing}
use Rattle.zt_cells.specs.CellsView.{CellsView}
use Rattle.zt_cells.specs.TableSizes.{has_place, no_sizes, objects_after, waits_after}
use Rattle.zt_index.specs.declared.index.RowChains.{RowChains}
use Rattle.zt_index.specs.Chains.{IsBehind, IsNext, bucket_at}
use Rattle.zt_index.specs.ProofsOnly.Chains.{is_bucket, is_in}
use Rattle.zt_index.specs.Criteria.{is_at, is_below, is_by, is_for, is_on, names, objects_where, waits_where}
use Rattle.zt_index.specs.IndexInvariant.{HasBuckets, IsIndexed, IsRoomy, bucket_below, bucket_by, bucket_for, bucket_of, bucket_on, handle_bucket, held_bucket, koid_bucket}
use Rattle.zt_index.specs.ProofsOnly.IndexInvariant.{index_below, index_with}

-- ---- puts

pub wait-other : (S : State) (k : RowKey) (r : Option Row) → ((n : ℕ) → k ≡ key.Wait n → ⊥) → (m : ℕ) → wait (put S k r) m ≡ wait S m
wait-other S key.Counters r h m = ap as_wait (row-put S key.Counters r (key.Wait m))
wait-other S (key.Object x) r h m = ap as_wait (row-put S (key.Object x) r (key.Wait m))
wait-other S (key.Entry x y) r h m = ap as_wait (row-put S (key.Entry x y) r (key.Wait m))
wait-other S (key.Msg x y) r h m = ap as_wait (row-put S (key.Msg x y) r (key.Wait m))
wait-other S (key.Packet x y) r h m = ap as_wait (row-put S (key.Packet x y) r (key.Wait m))
wait-other S (key.Wait n) r h m = absurd (h n refl)

pub entry-other : (S : State) (k : RowKey) (r : Option Row) → ((p h : ℕ) → k ≡ key.Entry p h → ⊥) → (p h : ℕ) → entry (put S k r) p h ≡ entry S p h
entry-other S key.Counters r out p h = ap as_entry (row-put S key.Counters r (key.Entry p h))
entry-other S (key.Object x) r out p h = ap as_entry (row-put S (key.Object x) r (key.Entry p h))
entry-other S (key.Entry x y) r out p h = absurd (out x y refl)
entry-other S (key.Msg x y) r out p h = ap as_entry (row-put S (key.Msg x y) r (key.Entry p h))
entry-other S (key.Packet x y) r out p h = ap as_entry (row-put S (key.Packet x y) r (key.Entry p h))
entry-other S (key.Wait n) r out p h = ap as_entry (row-put S (key.Wait n) r (key.Entry p h))

pub object-other : (S : State) (k : RowKey) (r : Option Row) → ((x : ℕ) → k ≡ key.Object x → ⊥) → (y : ℕ) → object (put S k r) y ≡ object S y
object-other S key.Counters r out y = ap as_object (row-put S key.Counters r (key.Object y))
object-other S (key.Object x) r out y = absurd (out x refl)
object-other S (key.Entry p h) r out y = ap as_object (row-put S (key.Entry p h) r (key.Object y))
object-other S (key.Msg e n) r out y = ap as_object (row-put S (key.Msg e n) r (key.Object y))
object-other S (key.Packet p n) r out y = ap as_object (row-put S (key.Packet p n) r (key.Object y))
object-other S (key.Wait n) r out y = ap as_object (row-put S (key.Wait n) r (key.Object y))

-- a wait is in the bucket of the same object where the entries are the same
same-bucket : (S T : State) → ((p h : ℕ) → entry T p h ≡ entry S p h) → (o : Option Wait) → option_and_then (bucket_of S) o ≡ option_and_then (bucket_of T) o
same-bucket S T same None = refl
same-bucket S T same (Some w) = ap (option_map held_bucket) (sym (same w.process w.handle))

abbrev pub shelved_put : CellsView → RowKey → Option Row → CellsView
shelved_put s k r = record { state = put s.state k r; sizes = s.sizes }

pub followed-other : (s : CellsView) (k : RowKey) (r : Option Row) (index : RowChains) → ((n : ℕ) → k ≡ key.Wait n → ⊥) → ((p h : ℕ) → k ≡ key.Entry p h → ⊥) → ((x : ℕ) → k ≡ key.Object x → ⊥) → IsIndexed s index → IsIndexed (shelved_put s k r) index
followed-other s k r index no_wait no_entry no_object h = record {
  on = λ m. h.on m ∙ ap (option_map bucket_on) (sym (wait-other s.state k r no_wait m));
  to = λ m. h.to m ∙ ap (option_map bucket_for) (sym (wait-other s.state k r no_wait m));
  at = λ m.
      h.at m ∙ ap (option_and_then (bucket_of s.state)) (sym (wait-other s.state k r no_wait m))
      ∙ same-bucket s.state (put s.state k r) (entry-other s.state k r no_entry) (wait (put s.state k r) m);
  by = λ m. h.by m ∙ ap (option_map bucket_by) (sym (wait-other s.state k r no_wait m));
  below = λ x. h.below x ∙ ap (option_and_then bucket_below) (sym (object-other s.state k r no_object x));
  roomy = h.roomy;
  tasks = h.tasks;
}

-- an item's bucket follows its row, where a put under its key is all that changes the rows of such keys
bucket-put : (S T : State) (key_of : ℕ → RowKey) (n : ℕ) (r : Option Row) (g : Option Row → Option ℕ) (all : List (Option ℕ)) → ((m : ℕ) → row T (key_of m) ≡ cond (m == n) r (row S (key_of m)))
    → n < length all → ((m : ℕ) → bucket_at all m ≡ g (row S (key_of m))) → (m : ℕ) → bucket_at (set all n (g r)) m ≡ g (row T (key_of m))
bucket-put S T key_of n r g all there lt h m = at (m == n) refl
  where
    at : (t : Bool) → (m == n) ≡ t → bucket_at (set all n (g r)) m ≡ g (row T (key_of m))
    at true e =
        ap (bucket_at (set all n (g r))) (eqb-true m n e) ∙ get_or-set_same all n (g r) None lt
        ∙ sym (ap g (there m ∙ ap (λ t. cond t r (row S (key_of m))) e))
    at false e =
        get_or-set_other all n m (g r) None (λ same. let t : true ≡ false = sym (eq-eqb m n same) ∙ e in cc) ∙ h m
        ∙ sym (ap g (there m ∙ ap (λ t. cond t r (row S (key_of m))) e))

wait-put : (S : State) (n : ℕ) (r : Option Row) (g : Option Wait → Option ℕ) (all : List (Option ℕ)) → n < length all → ((m : ℕ) → bucket_at all m ≡ g (wait S m))
    → (m : ℕ) → bucket_at (set all n (g (as_wait r))) m ≡ g (wait (put S (key.Wait n) r) m)
wait-put S n r g all lt h = bucket-put S (put S (key.Wait n) r) (λ m. key.Wait m) n r (λ o. g (as_wait o)) all (λ m. row-put S (key.Wait n) r (key.Wait m)) lt h

length-put : {A : Type 0} (all : List A) (n : ℕ) (a : A) (waits : ℕ) → waits ≤ length all → waits ≤ length (set all n a)
length-put all n a waits h = subst (λ m. waits ≤ m) (sym (length-set all n a)) h

pub followed-wait : (s : CellsView) (n : ℕ) (r : Option Row) (index : RowChains) → IsRoomy (n + 1) index → IsIndexed s index → IsIndexed (shelved_put s (key.Wait n) r) (index_with s.state index n (as_wait r))
followed-wait s n r index room h = record {
  on = wait-put s.state n r (option_map bucket_on) index.handles (omega (arith, room.on)) h.on;
  to = wait-put s.state n r (option_map bucket_for) index.ports (omega (arith, room.to)) h.to;
  at = λ m.
      wait-put s.state n r (option_and_then (bucket_of s.state)) index.objects (omega (arith, room.at)) h.at m
      ∙ same-bucket s.state (put s.state (key.Wait n) r) (entry-other s.state (key.Wait n) r (λ p g e. cc)) (wait (put s.state (key.Wait n) r) m);
  by = wait-put s.state n r (option_map bucket_by) index.processes (omega (arith, room.by)) h.by;
  below = λ x. h.below x ∙ ap (option_and_then bucket_below) (sym (object-other s.state (key.Wait n) r (λ y e. cc) x));
  roomy = record {
    on = length-put index.handles n (option_map bucket_on (as_wait r)) s.sizes.waits h.roomy.on;
    to = length-put index.ports n (option_map bucket_for (as_wait r)) s.sizes.waits h.roomy.to;
    at = length-put index.objects n (option_and_then (bucket_of s.state) (as_wait r)) s.sizes.waits h.roomy.at;
    by = length-put index.processes n (option_map bucket_by (as_wait r)) s.sizes.waits h.roomy.by;
  };
  tasks = h.tasks;
}

pub followed-object : (s : CellsView) (x : ℕ) (r : Option Row) (index : RowChains) → x < length index.parents → IsIndexed s index → IsIndexed (shelved_put s (key.Object x) r) (index_below index x (as_object r))
followed-object s x r index lt h = record {
  on = λ m. h.on m ∙ ap (option_map bucket_on) (sym (same m));
  to = λ m. h.to m ∙ ap (option_map bucket_for) (sym (same m));
  at = λ m.
      h.at m ∙ ap (option_and_then (bucket_of s.state)) (sym (same m))
      ∙ same-bucket s.state (put s.state (key.Object x) r) (entry-other s.state (key.Object x) r (λ p g e. cc)) (wait (put s.state (key.Object x) r) m);
  by = λ m. h.by m ∙ ap (option_map bucket_by) (sym (same m));
  below = bucket-put s.state (put s.state (key.Object x) r) (λ y. key.Object y) x r (λ o. option_and_then bucket_below (as_object o)) index.parents (λ y. row-put s.state (key.Object x) r (key.Object y)) lt h.below;
  roomy = record { on = h.roomy.on; to = h.roomy.to; at = h.roomy.at; by = h.roomy.by };
  tasks = length-put index.parents x (option_and_then bucket_below (as_object r)) s.sizes.objects h.tasks;
}
  where
    same : (m : ℕ) → wait (put s.state (key.Object x) r) m ≡ wait s.state m
    same = wait-other s.state (key.Object x) r (λ n e. cc)

-- ---- an entry that changes

entry-moved : (S : State) (p h : ℕ) (r : Option Row) (w : Wait) (old : Option ℕ) → old ≡ bucket_of S w → (if is_on p h w then option_map held_bucket (as_entry r) else old) ≡ bucket_of (put S (key.Entry p h) r) w
entry-moved S p h r w old e = pick (is_on p h w) ∙ sym there
  where
    there : bucket_of (put S (key.Entry p h) r) w ≡ option_map held_bucket (as_entry (cond (is_on p h w) r (row S (key.Entry w.process w.handle))))
    there = ap (λ o. option_map held_bucket (as_entry o)) (row-put S (key.Entry p h) r (key.Entry w.process w.handle))

    pick : (t : Bool) → cond t (option_map held_bucket (as_entry r)) old ≡ option_map held_bucket (as_entry (cond t r (row S (key.Entry w.process w.handle))))
    pick true = refl
    pick false = e

wait-moved : (S : State) (p h : ℕ) (r : Option Row) (o : Option Wait) (old new : Option ℕ) → new ≡ (if option_map_or (is_on p h) o false then option_map held_bucket (as_entry r) else old) → old ≡ option_and_then (bucket_of S) o
    → new ≡ option_and_then (bucket_of (put S (key.Entry p h) r)) o
wait-moved S p h r None old new is e = is ∙ e
wait-moved S p h r (Some w) old new is e = is ∙ entry-moved S p h r w old e

pub followed-entry : (s : CellsView) (p h : ℕ) (r : Option Row) (old new : RowChains) → IsIndexed s old → new.handles ≡ old.handles → new.ports ≡ old.ports → new.processes ≡ old.processes → new.parents ≡ old.parents → length new.objects ≡ length old.objects
    → ((n : ℕ) → bucket_at new.objects n ≡ (if waits_where s.state (is_on p h) n then option_map held_bucket (as_entry r) else bucket_at old.objects n)) → IsIndexed (shelved_put s (key.Entry p h) r) new
followed-entry s p h r old new is handles ports processes parents len moved = record {
  on = λ m. ap (λ all. bucket_at all m) handles ∙ is.on m ∙ ap (option_map bucket_on) (sym (same m));
  to = λ m. ap (λ all. bucket_at all m) ports ∙ is.to m ∙ ap (option_map bucket_for) (sym (same m));
  at = λ m. wait-moved s.state p h r (wait s.state m) (bucket_at old.objects m) (bucket_at new.objects m) (moved m) (is.at m) ∙ ap (option_and_then (bucket_of (put s.state (key.Entry p h) r))) (sym (same m));
  by = λ m. ap (λ all. bucket_at all m) processes ∙ is.by m ∙ ap (option_map bucket_by) (sym (same m));
  below = λ x. ap (λ all. bucket_at all x) parents ∙ is.below x ∙ ap (option_and_then bucket_below) (sym (object-other s.state (key.Entry p h) r (λ y e. cc) x));
  roomy = record {
    on = subst (λ all. s.sizes.waits ≤ length all) (sym handles) is.roomy.on;
    to = subst (λ all. s.sizes.waits ≤ length all) (sym ports) is.roomy.to;
    at = subst (λ n. s.sizes.waits ≤ n) (sym len) is.roomy.at;
    by = subst (λ all. s.sizes.waits ≤ length all) (sym processes) is.roomy.by;
  };
  tasks = subst (λ all. s.sizes.objects ≤ length all) (sym parents) is.tasks;
}
  where
    same : (m : ℕ) → wait (put s.state (key.Entry p h) r) m ≡ wait s.state m
    same = wait-other s.state (key.Entry p h) r (λ n e. cc)

-- ---- the next one

-- what was passed is not looked for
pub record IsPassed (q : ℕ → Bool) (low at : Option ℕ) : Type 0 where
  pub passed : (m : ℕ) → IsBehind (λ a b. a < b) low m → (IsBehind (λ a b. a < b) at m → ⊥) → q m ≡ false
  pub within : (m : ℕ) → IsBehind (λ a b. a < b) at m → IsBehind (λ a b. a < b) low m

pub passed-none : (q : ℕ → Bool) (low : Option ℕ) → IsPassed q low low
passed-none q low = record { passed = λ m h not. absurd (not h); within = λ m h. h }

outside : (q r : ℕ → Bool) → ((n : ℕ) → q n ≡ true → r n ≡ true) → (m : ℕ) → r m ≡ false → q m ≡ false
outside q r h m e = by (q m) refl
  where
    by : (t : Bool) → q m ≡ t → q m ≡ false
    by true t = let a : true ≡ false = sym (h m t) ∙ e in cc
    by false t = t

-- where nothing is in the bucket, nothing is found
pub none-bare : (q r : ℕ → Bool) (low : Option ℕ) → ((n : ℕ) → q n ≡ true → r n ≡ true) → ((n : ℕ) → r n ≡ false) → IsNext q low None
none-bare q r low in_r bare = (tt, λ m behind short. outside q r in_r m (bare m))

behind-or : (low : Option ℕ) (m : ℕ) → (IsBehind (λ a b. a < b) low m) ⊎ (IsBehind (λ a b. a < b) low m → ⊥)
behind-or None m = inl tt
behind-or (Some a) m = elim (cases_lt a m) [ inl h ↦ inl h | inr h ↦ inr (λ g. omega arith) ]

short-false : (q r : ℕ → Bool) (low at : Option ℕ) (n : ℕ) → ((n : ℕ) → q n ≡ true → r n ≡ true) → IsPassed q low at → IsNext r at (Some n) → (m : ℕ) → IsBehind (λ a b. a < b) low m → m < n → q m ≡ false
short-false q r low at n in_r p h m behind less = elim (behind-or at m) [ inl after ↦ outside q r in_r m (h.1 m after less) | inr not ↦ p.passed m behind not ]

pub passed-found : (q r : ℕ → Bool) (low at : Option ℕ) (n : ℕ) → ((n : ℕ) → q n ≡ true → r n ≡ true) → IsPassed q low at → IsNext r at (Some n) → q n ≡ true → IsNext q low (Some n)
passed-found q r low at n in_r p h here = ((p.within n h.0.0, here), λ m behind less. short-false q r low at n in_r p h m behind less)

pub passed-end : (q r : ℕ → Bool) (low at : Option ℕ) → ((n : ℕ) → q n ≡ true → r n ≡ true) → IsPassed q low at → IsNext r at None → IsNext q low None
passed-end q r low at in_r p h = (tt, λ m behind short. elim (behind-or at m) [ inl after ↦ outside q r in_r m (h.1 m after tt) | inr not ↦ p.passed m behind not ])

at-behind : (at : Option ℕ) (n m : ℕ) → IsBehind (λ a b. a < b) at n → n < m → IsBehind (λ a b. a < b) at m
at-behind None n m h less = tt
at-behind (Some a) n m h less = omega arith

pub passed-more : (q r : ℕ → Bool) (low at : Option ℕ) (n : ℕ) → ((n : ℕ) → q n ≡ true → r n ≡ true) → IsPassed q low at → IsNext r at (Some n) → q n ≡ false → IsPassed q low (Some n)
passed-more q r low at n in_r p h not_here = record {
  passed = λ m behind not. elim (cases_lt m n) [ inl less ↦ short-false q r low at n in_r p h m behind less | inr more ↦ by m not more ];
  within = λ m less. p.within m (at-behind at n m h.0.0 less);
}
  where
    by : (m : ℕ) → (n < m → ⊥) → n ≤ m → q m ≡ false
    by m not more = elim (cases_lt n m) [ inl less ↦ absurd (not less) | inr le ↦ let e : m ≡ n = omega arith in ap q e ∙ not_here ]

abbrev pub left_above : ℕ → Option ℕ → ℕ
left_above end None = suc (suc end)
left_above end (Some n) = suc (end - n)

pub left-shorter : (end : ℕ) (at : Option ℕ) (n : ℕ) → IsBehind (λ a b. a < b) at n → n < end → left_above end (Some n) < left_above end at
left-shorter end None n h lt = omega arith
left-shorter end (Some a) n h lt = omega arith

-- ---- those that are passed on a walk

abbrev pub is_passed : Option ℕ → ℕ → Bool
is_passed None n = false
is_passed (Some low) n = not (nat_lt low n)

not-passed : (low : Option ℕ) (n : ℕ) → is_passed low n ≡ false → IsBehind (λ a b. a < b) low n
not-passed None n e = tt
not-passed (Some low) n e = grind (arith, nat_tests)

passed-below : (m n : ℕ) → n ≤ m → is_passed (Some m) n ≡ true
passed-below m n h = grind (arith, nat_tests)

passed-above : (m n : ℕ) → m < n → is_passed (Some m) n ≡ false
passed-above m n h = grind (arith, nat_tests)

passed-later : (low : Option ℕ) (m n : ℕ) → IsBehind (λ a b. a < b) low m → is_passed low n ≡ true → is_passed (Some m) n ≡ true
passed-later None m n less e = cc
passed-later (Some low) m n less e = grind (arith, nat_tests)

same-passed : (q : ℕ → Bool) (low : Option ℕ) (m n : ℕ) → IsNext q low (Some m) → (n ≡ m → ⊥) → (q n && is_passed low n) ≡ (q n && is_passed (Some m) n)
same-passed q low m n next other = by (q n) refl
  where
    by_passed : (u : Bool) → is_passed low n ≡ u → q n ≡ true → u ≡ is_passed (Some m) n
    by_passed true e there = sym (passed-later low m n next.0.0 e)
    by_passed false e there = elim (cases_lt m n) [
      | inl above ↦ sym (passed-above m n above)
      | inr le ↦
          let below : n < m = elim (cases_lt n m) [ inl less ↦ less | inr ge ↦ let is : n ≡ m = omega arith in absurd (other is) ] in
          let out : q n ≡ false = next.1 n (not-passed low n e) below in
          let t : true ≡ false = sym there ∙ out in
          cc
    ]

    by : (t : Bool) → q n ≡ t → (t && is_passed low n) ≡ (t && is_passed (Some m) n)
    by true e = by_passed (is_passed low n) refl e
    by false e = refl

pub moved-start : (q : ℕ → Bool) (b : Option ℕ) (all : List (Option ℕ)) (n : ℕ) → bucket_at all n ≡ (if q n && is_passed None n then b else bucket_at all n)
moved-start q b all n = by (q n)
  where
    by : (t : Bool) → bucket_at all n ≡ (if t && false then b else bucket_at all n)
    by true = refl
    by false = refl

pub moved-next : (q : ℕ → Bool) (b : Option ℕ) (first all : List (Option ℕ)) (low : Option ℕ) (m : ℕ) → m < length all → IsNext q low (Some m) → ((n : ℕ) → bucket_at all n ≡ (if q n && is_passed low n then b else bucket_at first n))
    → (n : ℕ) → bucket_at (set all m b) n ≡ (if q n && is_passed (Some m) n then b else bucket_at first n)
moved-next q b first all low m lt next moved n = by (n == m) refl
  where
    at_m : (q m && is_passed (Some m) m) ≡ true
    at_m = ap (λ t. t && is_passed (Some m) m) next.0.1 ∙ passed-below m m (omega arith)

    by : (t : Bool) → (n == m) ≡ t → bucket_at (set all m b) n ≡ (if q n && is_passed (Some m) n then b else bucket_at first n)
    by true e =
        let is : n ≡ m = eqb-true n m e in
        subst (λ z. bucket_at (set all m b) z ≡ (if q z && is_passed (Some m) z then b else bucket_at first z)) (sym is)
        (get_or-set_same all m b None lt ∙ sym (ap (λ t. cond t b (bucket_at first m)) at_m))
    by false e =
        let other : n ≡ m → ⊥ = λ same. let t : true ≡ false = sym (eq-eqb n m same) ∙ e in cc in
        get_or-set_other all m n b None other ∙ moved n ∙ ap (λ t. cond t b (bucket_at first n)) (same-passed q low m n next other)

pub moved-set : (q : ℕ → Bool) (b : Option ℕ) (first all later : List (Option ℕ)) (low : Option ℕ) (m : ℕ) → later ≡ set all m b → m < length all → IsNext q low (Some m) → ((n : ℕ) → bucket_at all n ≡ (if q n && is_passed low n then b else bucket_at first n))
    → (n : ℕ) → bucket_at later n ≡ (if q n && is_passed (Some m) n then b else bucket_at first n)
moved-set q b first all later low m is lt next moved n = ap (λ xs. bucket_at xs n) is ∙ moved-next q b first all low m lt next moved n

pub none-next : (q : ℕ → Bool) (low found : Option ℕ) → ((n : ℕ) → found ≡ Some n → ⊥) → IsNext q low found → IsNext q low None
none-next q low None out h = h
none-next q low (Some n) out h = absurd (out n refl)

pub moved-end : (q : ℕ → Bool) (b : Option ℕ) (first all : List (Option ℕ)) (low : Option ℕ) → IsNext q low None → ((n : ℕ) → bucket_at all n ≡ (if q n && is_passed low n then b else bucket_at first n))
    → (n : ℕ) → bucket_at all n ≡ (if q n then b else bucket_at first n)
moved-end q b first all low last moved n = moved n ∙ ap (λ t. cond t b (bucket_at first n)) (by (q n) refl)
  where
    by_passed : (u : Bool) → is_passed low n ≡ u → q n ≡ true → u ≡ true
    by_passed true e there = refl
    by_passed false e there = let t : true ≡ false = sym there ∙ last.1 n (not-passed low n e) tt in cc

    by : (t : Bool) → q n ≡ t → (t && is_passed low n) ≡ t
    by true e = by_passed (is_passed low n) refl e
    by false e = refl

-- ---- buckets

pub in-map : {A : Type 0} (g : Option A → Option ℕ) (o : Option A) (w : A) (all : List (Option ℕ)) (n b : ℕ) → o ≡ Some w → bucket_at all n ≡ g o → g (Some w) ≡ Some b → is_in all b n ≡ true
in-map g o w all n b e h is = ap (is_bucket b) (h ∙ ap g e ∙ is) ∙ eq-eqb b b refl

-- ---- what is looked for is in its bucket

pub on-bucket : (s : CellsView) (index : RowChains) → IsIndexed s index → (p h n : ℕ) → waits_where s.state (is_on p h) n ≡ true → is_in index.handles (handle_bucket p h) n ≡ true
on-bucket s index is p v n e = by (wait s.state n) refl e
  where
    same : (w : Wait) → is_on p v w ≡ true → bucket_on w ≡ handle_bucket p v
    same w t =
        let a : w.process ≡ p = eqb-true w.process p (and_left (w.process == p) (w.handle == v) t) in
        let b : w.handle ≡ v = eqb-true w.handle v (and_right (w.process == p) (w.handle == v) t) in
        λ i. handle_bucket (a i) (b i)

    by : (o : Option Wait) → wait s.state n ≡ o → option_map_or (is_on p v) o false ≡ true → is_in index.handles (handle_bucket p v) n ≡ true
    by (Some w) there t = in-map (option_map bucket_on) (wait s.state n) w index.handles n (handle_bucket p v) there (is.on n) (ap Some (same w t))
    by None there t = cc

pub for-bucket : (s : CellsView) (index : RowChains) → IsIndexed s index → (x n : ℕ) → waits_where s.state (is_for x) n ≡ true → is_in index.ports (koid_bucket x) n ≡ true
for-bucket s index is x n e = by (wait s.state n) refl e
  where
    by : (o : Option Wait) → wait s.state n ≡ o → option_map_or (is_for x) o false ≡ true → is_in index.ports (koid_bucket x) n ≡ true
    by (Some w) there t = in-map (option_map bucket_for) (wait s.state n) w index.ports n (koid_bucket x) there (is.to n) (ap (λ y. Some (koid_bucket y)) (eqb-true w.port x t))
    by None there t = cc

pub at-bucket : (s : CellsView) (index : RowChains) → IsIndexed s index → (x n : ℕ) → waits_where s.state (is_at s.state x) n ≡ true → is_in index.objects (koid_bucket x) n ≡ true
at-bucket s index is x n e = by (wait s.state n) refl e
  where
    same : (o : Option Held) → names x o ≡ true → option_map held_bucket o ≡ Some (koid_bucket x)
    same (Some held) t = ap (λ y. Some (koid_bucket y)) (eqb-true held.koid x t)
    same None t = cc

    by : (o : Option Wait) → wait s.state n ≡ o → option_map_or (is_at s.state x) o false ≡ true → is_in index.objects (koid_bucket x) n ≡ true
    by (Some w) there t = in-map (option_and_then (bucket_of s.state)) (wait s.state n) w index.objects n (koid_bucket x) there (is.at n) (same (entry s.state w.process w.handle) t)
    by None there t = cc

pub by-bucket : (s : CellsView) (index : RowChains) → IsIndexed s index → (p n : ℕ) → waits_where s.state (is_by p) n ≡ true → is_in index.processes (koid_bucket p) n ≡ true
by-bucket s index is p n e = by (wait s.state n) refl e
  where
    by : (o : Option Wait) → wait s.state n ≡ o → option_map_or (is_by p) o false ≡ true → is_in index.processes (koid_bucket p) n ≡ true
    by (Some w) there t = in-map (option_map bucket_by) (wait s.state n) w index.processes n (koid_bucket p) there (is.by n) (ap (λ y. Some (koid_bucket y)) (eqb-true w.process p t))
    by None there t = cc

pub below-bucket : (s : CellsView) (index : RowChains) → IsIndexed s index → (p x : ℕ) → objects_where s.state (is_below p) x ≡ true → is_in index.parents (koid_bucket p) x ≡ true
below-bucket s index is p x e = by (object s.state x) refl e
  where
    same : (o : ObjectRow) → is_below p o ≡ true → bucket_below o ≡ Some (koid_bucket p)
    same o t =
        let task : (is_live_job o || is_live_process o) ≡ true = and_left (is_live_job o || is_live_process o) (o.link == p) t in
        let link : o.link ≡ p = eqb-true o.link p (and_right (is_live_job o || is_live_process o) (o.link == p) t) in
        ap (λ b. cond b (Some (koid_bucket o.link)) None) task ∙ ap (λ y. Some (koid_bucket y)) link

    by : (o : Option ObjectRow) → object s.state x ≡ o → option_map_or (is_below p) o false ≡ true → is_in index.parents (koid_bucket p) x ≡ true
    by (Some o) there t = in-map (option_and_then bucket_below) (object s.state x) o index.parents x (koid_bucket p) there (is.below x) (same o t)
    by None there t = cc

-- each wait has its place among the objects'
pub on-below : (s : CellsView) (index : RowChains) → IsIndexed s index → (end : ℕ) → end ≡ s.sizes.waits → ((n : ℕ) → end ≤ n → row s.state (key.Wait n) ≡ None) → (p h n : ℕ) → waits_where s.state (is_on p h) n ≡ true → n < length index.objects
on-below s index is end places none p h n e = elim (cases_lt n end) [
  | inl less ↦ omega (arith, is.roomy.at)
  | inr past ↦ let f : false ≡ true = sym (ap (λ r. option_map_or (is_on p h) (as_wait r) false) (none n past)) ∙ e in cc
]

-- ---- places

pub indexed-hollow : (index : RowChains) → length index.handles ≡ 0 → length index.ports ≡ 0 → length index.objects ≡ 0 → length index.processes ≡ 0 → length index.parents ≡ 0 → IsIndexed (record { state = hollow; sizes = no_sizes }) index
unfolding hollow
indexed-hollow index a b d f g = record {
  on = λ n. get_or_past index.handles n None (omega arith) ∙ sym (ap (option_map bucket_on) (none n));
  to = λ n. get_or_past index.ports n None (omega arith) ∙ sym (ap (option_map bucket_for) (none n));
  at = λ n. get_or_past index.objects n None (omega arith) ∙ sym (ap (option_and_then (bucket_of hollow)) (none n));
  by = λ n. get_or_past index.processes n None (omega arith) ∙ sym (ap (option_map bucket_by) (none n));
  below = λ x. get_or_past index.parents x None (omega arith) ∙ sym (ap (option_and_then bucket_below) (no_object x));
  roomy = record { on = omega arith; to = omega arith; at = omega arith; by = omega arith };
  tasks = omega arith;
}
  where
    none : (n : ℕ) → wait hollow n ≡ None
    none n = ap as_wait (row-put nothing key.Counters _ (key.Wait n) ∙ row-nothing (key.Wait n))

    no_object : (x : ℕ) → object hollow x ≡ None
    no_object x = ap as_object (row-put nothing key.Counters _ (key.Object x) ∙ row-nothing (key.Object x))

pub room-for : (s : CellsView) (n : ℕ) (index : RowChains) → has_place s.sizes (key.Wait n) ≡ true → IsIndexed s index → IsRoomy (n + 1) index
unfolding has_place
room-for s n index h is =
    let lt : n < s.sizes.waits = ltb-true n s.sizes.waits h in
    record { on = omega (arith, is.roomy.on); to = omega (arith, is.roomy.to); at = omega (arith, is.roomy.at); by = omega (arith, is.roomy.by) }

pub room-below : (s : CellsView) (x : ℕ) (index : RowChains) → has_place s.sizes (key.Object x) ≡ true → IsIndexed s index → x < length index.parents
unfolding has_place
room-below s x index h is =
    let lt : x < s.sizes.objects = ltb-true x s.sizes.objects h in
    omega (arith, is.tasks)

roomy-after : (k : RowKey) (waits later : ℕ) (index : RowChains) → IsRoomy waits index → HasBuckets k index → later ≤ waits_after k waits → IsRoomy later index
roomy-after (key.Wait n) waits later index room has le = record { on = omega (arith, room.on, has.on); to = omega (arith, room.to, has.to); at = omega (arith, room.at, has.at); by = omega (arith, room.by, has.by) }
roomy-after key.Counters waits later index room has le = record { on = omega (arith, room.on); to = omega (arith, room.to); at = omega (arith, room.at); by = omega (arith, room.by) }
roomy-after (key.Object x) waits later index room has le = record { on = omega (arith, room.on); to = omega (arith, room.to); at = omega (arith, room.at); by = omega (arith, room.by) }
roomy-after (key.Entry x y) waits later index room has le = record { on = omega (arith, room.on); to = omega (arith, room.to); at = omega (arith, room.at); by = omega (arith, room.by) }
roomy-after (key.Msg x y) waits later index room has le = record { on = omega (arith, room.on); to = omega (arith, room.to); at = omega (arith, room.at); by = omega (arith, room.by) }
roomy-after (key.Packet x y) waits later index room has le = record { on = omega (arith, room.on); to = omega (arith, room.to); at = omega (arith, room.at); by = omega (arith, room.by) }

tasks-after : (k : RowKey) (objects later : ℕ) (index : RowChains) → objects ≤ length index.parents → HasBuckets k index → later ≤ objects_after k objects → later ≤ length index.parents
tasks-after key.Counters objects later index room has le = omega arith
tasks-after (key.Object x) objects later index room has le = omega arith
tasks-after (key.Entry x y) objects later index room has le = omega arith
tasks-after (key.Msg x y) objects later index room has le = omega arith
tasks-after (key.Packet x y) objects later index room has le = omega arith
tasks-after (key.Wait n) objects later index room has le = omega arith

-- more places for waits and for objects, as many as there is room for
pub indexed-made : (k : RowKey) (s t : CellsView) (index : RowChains) → IsIndexed s index → HasBuckets k index → t.state ≡ s.state → t.sizes.waits ≤ waits_after k s.sizes.waits → t.sizes.objects ≤ objects_after k s.sizes.objects → IsIndexed t index
indexed-made k s t index is has same le few = record {
  on = λ n. is.on n ∙ ap (λ (S : State). option_map bucket_on (wait S n)) (sym same);
  to = λ n. is.to n ∙ ap (λ (S : State). option_map bucket_for (wait S n)) (sym same);
  at = λ n. is.at n ∙ ap (λ (S : State). option_and_then (bucket_of S) (wait S n)) (sym same);
  by = λ n. is.by n ∙ ap (λ (S : State). option_map bucket_by (wait S n)) (sym same);
  below = λ x. is.below x ∙ ap (λ (S : State). option_and_then bucket_below (object S x)) (sym same);
  roomy = roomy-after k s.sizes.waits t.sizes.waits index is.roomy has le;
  tasks = tasks-after k s.sizes.objects t.sizes.objects index is.tasks has few;
}
