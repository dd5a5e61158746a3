-- Where a state has room, a call and the removal of what nothing supports leave each port's next number low, and few waits:
-- there is room for the packets of the waits that are met.
use Rattle.std.proofs.Common.{◌≡◌, ℕ, ◌+◌, ◌^◌, ◌<◌, ◌≤◌, zero, suc, Bool, true, length, refl, sym, ap, ◌∙◌, subst, arith}
use Rattle.std.specs.Prelude.{Option, None, Some}
use Rattle.zt_bits.specs.declared.kinds.Kind.{Kind}
use Rattle.zt_bits.specs.declared.kinds.Kind.TheVariants as kind
use Rattle.zt_rows.specs.declared.calls.Call.{Call}
use Rattle.zt_rows.specs.declared.rows.Counters.{Counters}
use Rattle.zt_rows.specs.declared.rows.ObjectRow.{ObjectRow}
use Rattle.zt_rows.specs.State.{State}
use Rattle.zt_rows.specs.Reads.{counters, object, objects, has_live_process}
use Rattle.zt_rows.specs.Tests.{next_at, object_next}
use Rattle.zt_rows.specs.Room.{HasRoom, NextFits}
use Rattle.zt_rows.specs.Collect.{without, goes, rounds, collect}
use Rattle.zt_rows.specs.Settle.{settle}
use Rattle.zt_rows.specs.Step.{IsCall, direct}
use Rattle.zt_rows.specs.Consistent.{SoundWait, IsSound, IsConsistent}
use Rattle.zt_rows.proofs.ReadLaws.{counters-without, kind_at-some, stayed}
use Rattle.zt_rows.proofs.CollectLaws.{sound-collect}
use Rattle.zt_rows.proofs.GivenLaws.{growth, OfKind, Called}
use Rattle.zt_rows.proofs.CallLaws.{sound-direct}
use Rattle.zt_rows.proofs.SpentLaws.{called-direct}
use Rattle.zt_cascade.specs.PacketRoom.{HasRoomToFire}
use Rattle.zt_cascade.proofs.FiringLaws.{settled-within, wait-refreshed}

-- the next number of a row, if it is a port's, leaves room for more packets than memory has place for
abbrev pub PortFits : ObjectRow → Type 0
PortFits o = o.kind ≡ kind.Port → o.next < 2 ^ 63

abbrev pub PortsFit : State → Type 0
PortsFit S = (x : ℕ) (o : ObjectRow) → object S x ≡ Some o → PortFits o

-- ---- the call

port_has_room : (on : Kind) (n : ℕ) → NextFits on n → on ≡ kind.Port → n ≤ 2 ^ 62
port_has_room on n h e = let fits : NextFits kind.Port n = subst (λ (k : Kind). NextFits k n) e h in fits

-- a call gives a port one number at most
pub ports-called : (S T : State) → HasRoom S → Called S T → PortsFit T
ports-called S T room called x o e port =
    let w = called.owners x o e in
    let n : object_next (object S x) ≤ 2 ^ 62 = before (object S x) refl w.0 in
    let one : growth 64 1 o.kind ≡ 1 = ap (growth 64 1) port in
    let m : o.next ≤ object_next (object S x) + growth 64 1 o.kind = w.1 in
    omega arith
  where
    before : (r : Option ObjectRow) → object S x ≡ r → OfKind r o.kind → object_next r ≤ 2 ^ 62
    before (Some q) there same = port_has_room q.kind q.next (room.owners x q there) (same ∙ port)
    before None there same = omega arith

-- ---- removal

pub ports-without : (going : ℕ → Bool) (S : State) → PortsFit S → PortsFit (without S going)
ports-without going S fit x o e =
    let w = stayed going S x o e in subst PortFits (sym w.2) (λ port. fit x w.0 w.1 port)

pub ports-rounds : (n : ℕ) (S : State) → PortsFit S → PortsFit (rounds n S)
unfolding rounds
ports-rounds zero S fit = fit
ports-rounds (suc n) S fit = ports-rounds n (without S (goes S)) (ports-without (goes S) S fit)

pub ports-collect : (S : State) → PortsFit S → PortsFit (collect S)
unfolding collect
ports-collect S fit = ports-rounds (length (objects S)) S fit

counters-rounds : (n : ℕ) (S : State) → counters (rounds n S) ≡ counters S
unfolding rounds
counters-rounds zero S = refl
counters-rounds (suc n) S = counters-rounds n (without S (goes S)) ∙ counters-without (goes S) S

counters-collect : (S : State) → counters (collect S) ≡ counters S
unfolding collect
counters-collect S = counters-rounds (length (objects S)) S

-- ---- the waits that are met

-- in a sound state a wait is for a port, and there are no more waits than numbers were given out
room_to_fire : (B S : State) → IsSound S → (counters S).next_wait ≤ 2 ^ 63 → PortsFit S → HasRoomToFire B S
room_to_fire B S sound few fit n w e met =
    let s : SoundWait S n w = sound.of_waits n w (wait-refreshed S n w e) in
    let there = kind_at-some S w.port kind.Port s.port in
    let is : next_at S w.port ≡ there.0.next = ap object_next there.1 in
    let low : there.0.next < 2 ^ 63 = fit w.port there.0 there.1 there.2 in
    let last : next_at (settle B S) w.port ≤ next_at S w.port + 2 ^ 63 =
    settled-within B S (2 ^ 63) w.port (λ m v h. let t : SoundWait S m v = sound.of_waits m v h in let number : m < (counters S).next_wait = t.number in omega arith) in
    omega arith

-- after a call of a live process and the removal of what nothing supports there is room for packets
pub room_after : (S : State) (p : ℕ) (c : Call) → IsConsistent S → HasRoom S → has_live_process S p ≡ true → IsCall c → HasRoomToFire S (collect (direct S p c).0)
room_after S p c consistent room live is =
    let T : State = (direct S p c).0 in
    let called : Called S T = called-direct S p c consistent.sound live in
    let first : (counters S).next_wait ≤ 2 ^ 62 = room.waits in
    let one : (counters T).next_wait ≤ (counters S).next_wait + 1 = called.waits in
    let same : (counters (collect T)).next_wait ≡ (counters T).next_wait = ap (λ (k : Counters). k.next_wait) (counters-collect T) in
    room_to_fire S (collect T) (sound-collect T (sound-direct S p c consistent.sound live is)) (omega arith) (ports-collect T (ports-called S T room called))
