-- The next packet of a port, and the packets of a port as a column that is walked along.
use Rattle.std.proofs.Common.{◌≡◌, ◌<◌, ℕ, Bool, true, false, Option, Some, None, is_some, refl, ap}
use Rattle.std.specs.Prelude.{◌==◌, ◌&&◌, ◌^◌, IsSome, if◌then◌else◌}
use Rattle.std.proofs.lemmas.Bool.{eqb-true, eq-eqb}
use Rattle.zt_rows.specs.declared.keys.RowKey.{RowKey}
use Rattle.zt_rows.specs.declared.keys.RowKey.TheVariants as key
use Rattle.zt_rows.specs.declared.rows.Row.{Row}
use Rattle.zt_rows.specs.declared.rows.Row.TheVariants as rows
use Rattle.zt_rows.specs.State.{State, row}
use Rattle.zt_rows.proofs.ReadLaws.{some_one}
use Rattle.zt_index.specs.Chains.{IsBehind, IsNext}
use Rattle.zt_index.specs.Criteria.{has_packet}
use Rattle.zt_signals.specs.ProofsOnly.KeyWalk.{IsAfter, IsNextUnder}
use Rattle.zt_signals.proofs.ColumnLaws.{IsColumn, numbers_after, numbers-fewer}
use Rattle.zt_ports.specs.ProofsOnly.PacketWalk.{packet_key, packet_index}
use Rattle.zt_ports.specs.ProofsOnly.CancelledWaits.{is_cancelled_packet}

-- ---- keys of one port

is-some : (r : Option Row) → is_some r ≡ true → IsSome r
is-some (Some r) e = refl
is-some None e = cc

none-there : (r : Option Row) → is_some r ≡ false → r ≡ None
none-there (Some r) e = cc
none-there None e = refl

behind : (low : Option ℕ) (n : ℕ) → IsAfter low n → IsBehind (λ a b. a < b) low n
behind None n h = tt
behind (Some l) n h = h

after : (low : Option ℕ) (n : ℕ) → IsBehind (λ a b. a < b) low n → IsAfter low n
after None n h = tt
after (Some l) n h = h

number_of : (x y n m : ℕ) → (if y == x then Some n else None) ≡ Some m → (y ≡ x) × (n ≡ m)
number_of x y n m e = elim (y == x) as (λ b. (y == x) ≡ b → (if b then Some n else None) ≡ Some m → (y ≡ x) × (n ≡ m)) [
  | true ↦ λ t s. (eqb-true y x t, some_one n m s)
  | false ↦ λ t s. cc
] refl e

key-of : (x : ℕ) (q : RowKey) (n : ℕ) → packet_index x q ≡ Some n → q ≡ key.Packet x n
key-of x (key.Packet y m) n e = let w = number_of x y m n e in λ i. key.Packet (w.0 i) (w.1 i)
key-of x _ n e = cc

index-here : (x n : ℕ) → packet_index x (key.Packet x n) ≡ Some n
index-here x n = ap (λ b. if b then Some n else None) (eq-eqb x x refl)

-- ---- the next packet

pub next-under : (S : State) (x : ℕ) (low found : Option ℕ) → IsNext (has_packet S x) low found → IsNextUnder S (packet_key x) low found
next-under S x low None h = λ n past. none-there (row S (key.Packet x n)) (h.1 n (behind low n past) tt)
next-under S x low (Some n) h = (
  after low n h.0.0,
  is-some (row S (key.Packet x n)) h.0.1,
  λ m past less. none-there (row S (key.Packet x m)) (h.1 m (behind low m past) less),
)

-- ---- the column of a port's packets

-- a key of the port, or none of it
at_port : (x y n : ℕ) → (y == x) ≡ true → packet_index x (key.Packet y n) ≡ None → ⊥
at_port x y n t out = let there : packet_index x (key.Packet y n) ≡ Some n = ap (λ b. if b then Some n else None) t in cc

other_port : (x y n : ℕ) → packet_index x (key.Packet y n) ≡ None → (y == x) ≡ false
other_port x y n out = elim (y == x) as (λ b. (y == x) ≡ b → b ≡ false) [
  | true ↦ λ t. absurd (at_port x y n t out)
  | false ↦ λ t. refl
] refl

no_left : (a b : Bool) → a ≡ false → (a && b) ≡ false
no_left true b e = cc
no_left false b e = refl

only_packets : (x p h packet_key : ℕ) (q : RowKey) (r : Row) → packet_index x q ≡ None → is_cancelled_packet x p h packet_key q r ≡ false
only_packets x p h l (key.Packet y n) (rows.Packet k) e = no_left (y == x) _ (other_port x y n e)
only_packets x p h l (key.Packet y n) _ e = refl
only_packets x p h l key.Counters r e = refl
only_packets x p h l (key.Object y) r e = refl
only_packets x p h l (key.Entry q g) r e = refl
only_packets x p h l (key.Msg y n) r e = refl
only_packets x p h l (key.Wait n) r e = refl

pub cancelled-column : (x p h packet_key : ℕ) → IsColumn (λ n. key.Packet x n) (packet_index x) (is_cancelled_packet x p h packet_key)
cancelled-column x p h l = record { here = index-here x; is = key-of x; within = only_packets x p h l }

pub packets-fewer : (S : State) (x : ℕ) (low : Option ℕ) (n : ℕ) → n < 2 ^ 64 → IsNextUnder S (packet_key x) low (Some n) → numbers_after (Some n) < numbers_after low
packets-fewer S x low n few next = numbers-fewer low n few next.0
