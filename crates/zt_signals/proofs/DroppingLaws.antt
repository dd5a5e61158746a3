-- The next wait that may be picked, and the waits as a column that is walked along.
use Rattle.std.proofs.Common.{◌≡◌, ◌<◌, ◌&&◌, ℕ, Bool, true, false, Option, Some, None, refl, ap}
use Rattle.std.specs.Prelude.{◌^◌, ◌==◌}
use Rattle.std.specs.Option.{option_map_or}
use Rattle.zt_rows.specs.declared.keys.RowKey.{RowKey}
use Rattle.zt_rows.specs.declared.keys.RowKey.TheVariants as key
use Rattle.zt_rows.specs.declared.rows.Row.{Row}
use Rattle.zt_rows.specs.declared.rows.Row.TheVariants as rows
use Rattle.zt_rows.specs.declared.rows.Wait.{Wait}
use Rattle.zt_rows.specs.Reads.{as_wait, wait}
use Rattle.zt_rows.specs.State.{State, row}
use Rattle.zt_rows.proofs.ReadLaws.{some_one}
use Rattle.zt_index.specs.Chains.{IsBehind, IsNext}
use Rattle.zt_index.specs.Criteria.{waits_where}
use Rattle.zt_signals.specs.ProofsOnly.KeyWalk.{IsAfter}
use Rattle.zt_signals.specs.ProofsOnly.WaitGroups.{IsNextPicked}
use Rattle.zt_signals.specs.DroppedWaits.{is_wait_where, made_on, made_under}
use Rattle.zt_signals.proofs.ColumnLaws.{IsColumn, numbers_after, numbers-fewer}

-- ---- the next wait

behind-after : (low : Option ℕ) (n : ℕ) → IsBehind (λ a b. a < b) low n → IsAfter low n
behind-after None n h = tt
behind-after (Some l) n h = h

after-behind : (low : Option ℕ) (n : ℕ) → IsAfter low n → IsBehind (λ a b. a < b) low n
after-behind None n h = tt
after-behind (Some l) n h = h

passes-narrow : (narrow wide : Wait → Bool) → ((w : Wait) → wide w ≡ false → narrow w ≡ false) → (n : ℕ) (r : Option Row) → option_map_or wide (as_wait r) false ≡ false → option_map_or (is_wait_where narrow (key.Wait n)) r false ≡ false
passes-narrow narrow wide less n (Some (rows.Wait w)) h = less w h
passes-narrow narrow wide less n (Some (rows.Counters _)) h = refl
passes-narrow narrow wide less n (Some (rows.Object _)) h = refl
passes-narrow narrow wide less n (Some (rows.Entry _)) h = refl
passes-narrow narrow wide less n (Some (rows.Msg _)) h = refl
passes-narrow narrow wide less n (Some (rows.Packet _)) h = refl
passes-narrow narrow wide less n None h = refl

-- the next wait of a wider kind is one before which none of the narrower kind stands
pub next-narrow : (narrow wide : Wait → Bool) → ((w : Wait) → wide w ≡ false → narrow w ≡ false) → (S : State) (low found : Option ℕ) → IsNext (waits_where S wide) low found → IsNextPicked narrow S low found
next-narrow narrow wide less S low None h = λ n past. passes-narrow narrow wide less n (row S (key.Wait n)) (h.1 n (after-behind low n past) tt)
next-narrow narrow wide less S low (Some n) h =
    (behind-after low n h.0.0, λ m past below. passes-narrow narrow wide less m (row S (key.Wait m)) (h.1 m (after-behind low m past) below))

-- there is none where there is no wait
pub next-none : (test : Wait → Bool) (S : State) (low : Option ℕ) → ((n : ℕ) → wait S n ≡ None) → IsNextPicked test S low None
next-none test S low none = λ n past. passes-narrow test (λ w. true) (λ w e. cc) n (row S (key.Wait n)) (ap (λ o. option_map_or (λ (w : Wait). true) o false) (none n))

pub same-kind : (test : Wait → Bool) (w : Wait) → test w ≡ false → test w ≡ false
same-kind test w h = h

and_none : (a b c d : Bool) → (b && c) ≡ false → (a && b && c && d) ≡ false
and_none true true true d h = cc
and_none true true false d h = refl
and_none true false c d h = refl
and_none false b c d h = refl

pub under-on : (x p h k : ℕ) (w : Wait) → made_on p h w ≡ false → made_under x p h k w ≡ false
under-on x p h k w e = and_none (w.port == x) (w.process == p) (w.handle == h) (w.key == k) e

-- ---- the column of waits

abbrev pub wait_key : ℕ → RowKey
wait_key n = key.Wait n

abbrev pub wait_index : RowKey → Option ℕ
wait_index (key.Wait n) = Some n
wait_index _ = None

key-of : (q : RowKey) (n : ℕ) → wait_index q ≡ Some n → q ≡ key.Wait n
key-of (key.Wait m) n e = ap key.Wait (some_one m n e)
key-of _ n e = cc

only_waits : (test : Wait → Bool) (q : RowKey) (r : Row) → wait_index q ≡ None → is_wait_where test q r ≡ false
only_waits test (key.Wait n) r e = cc
only_waits test key.Counters r e = refl
only_waits test (key.Object x) r e = refl
only_waits test (key.Entry p h) r e = refl
only_waits test (key.Msg x n) r e = refl
only_waits test (key.Packet x n) r e = refl

pub wait-column : (test : Wait → Bool) → IsColumn wait_key wait_index (is_wait_where test)
wait-column test = record { here = λ n. refl; is = key-of; within = only_waits test }

pub waits-fewer : (test : Wait → Bool) (S : State) (low : Option ℕ) (n : ℕ) → n < 2 ^ 64 → IsNextPicked test S low (Some n) → numbers_after (Some n) < numbers_after low
waits-fewer test S low n few next = numbers-fewer low n few next.0
