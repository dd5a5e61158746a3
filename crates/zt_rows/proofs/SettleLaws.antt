-- Settling: it frames a sound state, afterwards derived signals agree and no wait is met, and where that holds
-- already it changes nothing.
use Rattle.std.proofs.Common.{◌≡◌, ◌≤◌, ℕ, ◌+◌, ◌-◌, Bool, true, false, cond, not, ◌&&◌, List, [], ◌∷◌, inl, inr, refl, sym, ap, ◌∙◌, subst, arith, w32, min, ◌^◌, ◌<◌}
use Rattle.std.specs.Prelude.{Option, None, Some, option_and_then, if◌then◌else◌, ◌==◌, bit_and, bit_or, fold}
use Rattle.std.specs.Option.{option_map}
use Rattle.std.specs.Int.Bits.{and_comm, and_self, and_zero_l}
use Rattle.std.proofs.lemmas.Nat.{and_assoc, and_le_l, and_or_apart, pow_pos}
use Rattle.std.proofs.lemmas.Nat.Bits.{bit_at_and, bit_at_not, bit_at-zero, same_from_bits_below}
use Rattle.std.specs.Int.{bit_at}
use Rattle.std.proofs.lemmas.Bool.{cases_lt, eqb-true, eq-eqb}
use Rattle.zt_bits.specs.declared.kinds.Kind.{Kind}
use Rattle.zt_bits.specs.declared.kinds.Kind.TheVariants as kind
use Rattle.zt_rows.specs.declared.keys.RowKey.{RowKey}
use Rattle.zt_rows.specs.declared.keys.RowKey.TheVariants as key
use Rattle.zt_rows.specs.declared.rows.Held.{Held}
use Rattle.zt_rows.specs.declared.rows.ObjectRow.{ObjectRow}
use Rattle.zt_rows.specs.declared.rows.Packet.{Packet}
use Rattle.zt_rows.specs.declared.rows.Wait.{Wait}
use Rattle.zt_rows.specs.declared.rows.Row.{Row}
use Rattle.zt_rows.specs.declared.rows.Row.TheVariants as rows
use Rattle.zt_rows.specs.State.{State, row, put}
use Rattle.zt_rows.specs.Reads.{as_counters, as_object, as_entry, as_message, as_packet, as_wait, counters, object, entry, message, packet, wait, waits, wait_at, is_live}
use Rattle.zt_rows.specs.Tests.{exists, kind_at, next_at, signals_at, object_next, object_signals, without_bits, raised, any_row}
use Rattle.zt_rows.specs.Room.{suits}
use Rattle.zt_rows.specs.Support.{is_supported}
use Rattle.zt_rows.specs.PortCalls.{is_user_packet_of, pending, most_pending}
use Rattle.zt_rows.specs.Settle.{is_message_of, is_child_job_of, is_child_process_of, derived_mask, bit_if, derived_by, derived, renewed, refreshed, refresh, push_packet, signals_by, observed, risen, is_met, news, fire_into, fire, settle}
use Rattle.zt_rows.specs.Collect.{collect}
use Rattle.zt_rows.specs.Consistent.{possible_signals, SoundObject, SoundPacket, IsSound, IsConsistent}
use Rattle.zt_rows.proofs.StateLaws.{row-put, row-change, same_state}
use Rattle.zt_rows.proofs.RowLaws.{In, row-in, in-row, filter_map-in, in-filter_map, and_left, and_right, not_true, count_row-change, count_row-put-out, count_row-take}
use Rattle.zt_rows.proofs.ReadLaws.{some_one, kind_at-some, wait-row, object-put, over-same, typed-put, chosen, only_if}
use Rattle.zt_rows.proofs.SoundLaws.{changed-suits, and_no_right}
use Rattle.zt_rows.proofs.CollectLaws.{and_then_all, collect-none, supported-stays}
use Rattle.zt_rows.proofs.FramedLaws.{shaped, Framed, SameShapes, exists-shaped, kind_at-shaped, shaped-there, turned, supported-framed, derived-framed, packet-framed, sound-framed, framed-framed, framed_itself}

-- ---- derived bits

-- the bits outside a mask
abbrev outside : ℕ → ℕ
outside mask = 4294967295 - mask

bit_if-out : (b : Bool) (bit out : ℕ) → bit_and bit out ≡ 0 → bit_and (bit_if b bit) out ≡ 0
bit_if-out true bit out e = e
bit_if-out false bit out e = and_zero_l out

or-out : (a b out : ℕ) → bit_and a out ≡ 0 → bit_and b out ≡ 0 → bit_and (bit_or a b) out ≡ 0
or-out a b out p q = and_or_apart out a b q ∙ p

three-out : (a b c : Bool) (k m n out : ℕ) → bit_and k out ≡ 0 → bit_and m out ≡ 0 → bit_and n out ≡ 0 → bit_and (bit_or (bit_if a k) (bit_or (bit_if b m) (bit_if c n))) out ≡ 0
three-out a b c k m n out p q r =
    or-out (bit_if a k) (bit_or (bit_if b m) (bit_if c n)) out (bit_if-out a k out p) (or-out (bit_if b m) (bit_if c n) out (bit_if-out b m out q) (bit_if-out c n out r))

-- the derived signals of a kind are none outside these
within-out : (S : State) (x : ℕ) (o : ObjectRow) (made : Kind) (out : ℕ) → bit_and (derived_mask made) out ≡ 0 → ((bit : ℕ) → bit_and bit (derived_mask made) ≡ bit → bit_and bit out ≡ 0) → bit_and (derived_by made S x o) out ≡ 0
within-out S x o kind.Job out z h =
    three-out (not (is_live o.life)) (not (any_row (is_child_job_of x) S)) (not (any_row (is_child_process_of x) S)) 0x8 0x10 0x20 out (h 0x8 refl) (h 0x10 refl) (h 0x20 refl)
within-out S x o kind.Process out z h = bit_if-out (not (is_live o.life)) 0x8 out (h 0x8 refl)
within-out S x o kind.Channel out z h =
    three-out (any_row (is_message_of x) S) (not (o.link == 0)) (o.link == 0) 0x1 0x2 0x4 out (h 0x1 refl) (h 0x2 refl) (h 0x4 refl)
within-out S x o kind.Event out z h = z
within-out S x o kind.EventPair out z h = bit_if-out (o.link == 0) 0x4 out (h 0x4 refl)
within-out S x o kind.Port out z h = z

mask-out : (made : Kind) → bit_and (derived_mask made) (outside (derived_mask made)) ≡ 0
mask-out kind.Job = refl
mask-out kind.Process = refl
mask-out kind.Channel = refl
mask-out kind.Event = refl
mask-out kind.EventPair = refl
mask-out kind.Port = refl

mask-possible : (made : Kind) → bit_and (derived_mask made) (outside (possible_signals made)) ≡ 0
mask-possible kind.Job = refl
mask-possible kind.Process = refl
mask-possible kind.Channel = refl
mask-possible kind.Event = refl
mask-possible kind.EventPair = refl
mask-possible kind.Port = refl

bit-apart : (bit mask out : ℕ) → bit_and mask out ≡ 0 → bit_and bit mask ≡ bit → bit_and bit out ≡ 0
bit-apart bit mask out z e = ap (λ b. bit_and b out) (sym e) ∙ and_assoc out bit mask ∙ ap (bit_and bit) z ∙ and_comm bit 0 ∙ and_zero_l bit

pub derived-out : (S : State) (x : ℕ) (o : ObjectRow) → bit_and (derived S x o) (outside (derived_mask o.kind)) ≡ 0
derived-out S x o = within-out S x o o.kind (outside (derived_mask o.kind)) (mask-out o.kind) (λ bit e. bit-apart bit (derived_mask o.kind) (outside (derived_mask o.kind)) (mask-out o.kind) e)

pub derived-possible : (S : State) (x : ℕ) (o : ObjectRow) → bit_and (derived S x o) (outside (possible_signals o.kind)) ≡ 0
derived-possible S x o = within-out S x o o.kind (outside (possible_signals o.kind)) (mask-possible o.kind) (λ bit e. bit-apart bit (derived_mask o.kind) (outside (possible_signals o.kind)) (mask-possible o.kind) e)

-- derived signals within a mask written twice are written once
renew-twice : (s mask d : ℕ) → bit_and d (outside mask) ≡ 0 → bit_or (without_bits (bit_or (without_bits s mask) d) mask) d ≡ bit_or (without_bits s mask) d
renew-twice s mask d e =
    ap (λ b. bit_or b d) (and_or_apart (outside mask) (bit_and s (outside mask)) d e ∙ and_assoc (outside mask) s (outside mask) ∙ ap (bit_and s) (and_self (outside mask)))

-- with the derived signals of its kind an object has no others than before
renew-possible : (s mask d out : ℕ) → bit_and s out ≡ 0 → bit_and d out ≡ 0 → bit_and (bit_or (without_bits s mask) d) out ≡ 0
renew-possible s mask d out p q =
    and_or_apart out (bit_and s (outside mask)) d q ∙ and_assoc out s (outside mask) ∙ ap (bit_and s) (and_comm (outside mask) out) ∙ sym (and_assoc (outside mask) s out) ∙ ap (λ b. bit_and b (outside mask)) p ∙ and_zero_l (outside mask)

-- ---- refreshing

-- the object with its derived signals anew
abbrev pub renew : State → ℕ → ObjectRow → ObjectRow
renew S x o = record o { signals = record { 0 = renewed S x o } }

object-renewed : (S : State) (x : ℕ) (r : Option Row) → as_object (option_and_then (refreshed S (key.Object x)) r) ≡ option_map (renew S x) (as_object r)
object-renewed S x (Some (rows.Object o)) = refl
object-renewed S x None = refl
object-renewed S x _ = refl

same-renewed : (S : State) (k : RowKey) → ((x : ℕ) → k ≡ key.Object x → ⊥) → (r : Option Row) → option_and_then (refreshed S k) r ≡ r
same-renewed S (key.Object x) h r = absurd (h x refl)
same-renewed S k h None = refl
same-renewed S k h (Some r) = refl

pub row-refresh : (S : State) (k : RowKey) → row (refresh S) k ≡ option_and_then (refreshed S k) (row S k)
unfolding refresh
row-refresh S k = row-change (refreshed S) S k

pub object-refresh : (S : State) (x : ℕ) → object (refresh S) x ≡ option_map (renew S x) (object S x)
object-refresh S x = ap as_object (row-refresh S (key.Object x)) ∙ object-renewed S x (row S (key.Object x))

pub other-refresh : (S : State) (k : RowKey) → ((x : ℕ) → k ≡ key.Object x → ⊥) → row (refresh S) k ≡ row S k
other-refresh S k h = row-refresh S k ∙ same-renewed S k h (row S k)

refreshed-suits : (S : State) (k : RowKey) (r s : Row) → refreshed S k r ≡ Some s → suits k r ≡ true → suits k s ≡ true
refreshed-suits S (key.Object x) (rows.Object o) s e h = subst (λ z. suits (key.Object x) z ≡ true) (some_one _ s e) refl
refreshed-suits S k r s e h = subst (λ z. suits k z ≡ true) (some_one r s e) h

refreshed-user : (S : State) (x : ℕ) (k : RowKey) (r s : Row) → refreshed S k r ≡ Some s → is_user_packet_of x k s ≡ true → is_user_packet_of x k r ≡ true
refreshed-user S x (key.Packet p n) r s e h = subst (λ z. is_user_packet_of x (key.Packet p n) z ≡ true) (sym (some_one r s e)) h
refreshed-user S x _ r s e h = cc

pub map-renew : (S : State) (x : ℕ) (r : Option ObjectRow) (o : ObjectRow) → option_map (renew S x) r ≡ Some o → (q : ObjectRow) × (r ≡ Some q) × (o ≡ renew S x q)
map-renew S x (Some q) o e = (q, refl, cc)
map-renew S x None o e = cc

shape-renew : (S : State) (x : ℕ) (r : Option ObjectRow) → option_map shaped (option_map (renew S x) r) ≡ option_map shaped r
shape-renew S x (Some o) = refl
shape-renew S x None = refl

next-renew : (S : State) (x : ℕ) (r : Option ObjectRow) → object_next (option_map (renew S x) r) ≡ object_next r
next-renew S x (Some o) = refl
next-renew S x None = refl

pub framed-refresh : (S : State) → IsSound S → Framed S (refresh S)
unfolding refresh
framed-refresh S sound =
    let T : State = refresh S in
    let shapes : SameShapes S T = λ x. ap (option_map shaped) (object-refresh S x) ∙ shape-renew S x (object S x) in
    let nexts : (x : ℕ) → next_at T x ≡ next_at S x = λ x. ap object_next (object-refresh S x) ∙ next-renew S x (object S x) in
    let rises : (x : ℕ) → next_at S x ≤ next_at T x = λ x. let e : next_at T x ≡ next_at S x = nexts x in omega arith in
    record {
      of_rows = λ k r e. changed-suits (refreshed S) k (refreshed-suits S k) (row S k) (sound.typed k) r (sym (row-refresh S k) ∙ e);
      of_shapes = shapes;
      of_nexts = rises;
      of_signals = λ x o h.
          let w = map-renew S x (object S x) o (sym (object-refresh S x) ∙ h) in
          let s : SoundObject S x w.0 = sound.of_objects x w.0 w.1 in
          subst (λ (z : ObjectRow). without_bits z.signals.0 (possible_signals z.kind) ≡ 0) (sym w.2)
          (renew-possible w.0.signals.0 (derived_mask w.0.kind) (derived S x w.0) (outside (possible_signals w.0.kind)) s.signals (derived-possible S x w.0));
      of_entries = λ p h. ap as_entry (other-refresh S (key.Entry p h) (λ x e. cc));
      of_messages = λ e n. ap as_message (other-refresh S (key.Msg e n) (λ x g. cc));
      of_counters = ap as_counters (other-refresh S key.Counters (λ x e. cc));
      of_waits = λ n w h. sym (ap as_wait (other-refresh S (key.Wait n) (λ x e. cc))) ∙ h;
      of_packets = λ p n k h. packet-framed S T shapes rises p n (sound.of_packets p n k (sym (ap as_packet (other-refresh S (key.Packet p n) (λ x e. cc))) ∙ h));
      of_pending = λ x. let a : pending T x ≤ pending S x = count_row-change (is_user_packet_of x) (refreshed S) (refreshed-user S x) S in let b : pending S x ≤ most_pending = sound.ports x in omega arith;
    }

-- ---- firing one wait

module _ (S : State) (n : ℕ) (w : Wait) (o : ObjectRow) where
  -- the state after the wait fired into the port with this row
  abbrev pub fired : State
  fired = push_packet w.port o (news S w) (put S (key.Wait n) None)

  abbrev pub without_wait : State
  without_wait = put S (key.Wait n) None

  abbrev pub with_packet : State
  with_packet = put without_wait (key.Packet w.port o.next) (Some (rows.Packet (news S w)))

  pub object-fired : (x : ℕ) → object fired x ≡ cond (x == w.port) (Some (raised o)) (object S x)
  object-fired x =
      object-put with_packet w.port (Some (rows.Object (raised o))) x
      ∙ ap (cond (x == w.port) (Some (raised o))) (ap as_object (row-put without_wait (key.Packet w.port o.next) (Some (rows.Packet (news S w))) (key.Object x) ∙ row-put S (key.Wait n) None (key.Object x)))

  entry-fired : (p h : ℕ) → entry fired p h ≡ entry S p h
  entry-fired p h =
      ap as_entry (row-put with_packet (key.Object w.port) (Some (rows.Object (raised o))) (key.Entry p h)
      ∙ row-put without_wait (key.Packet w.port o.next) (Some (rows.Packet (news S w))) (key.Entry p h) ∙ row-put S (key.Wait n) None (key.Entry p h))

  message-fired : (e m : ℕ) → message fired e m ≡ message S e m
  message-fired e m =
      ap as_message (row-put with_packet (key.Object w.port) (Some (rows.Object (raised o))) (key.Msg e m)
      ∙ row-put without_wait (key.Packet w.port o.next) (Some (rows.Packet (news S w))) (key.Msg e m) ∙ row-put S (key.Wait n) None (key.Msg e m))

  pub counters-fired : counters fired ≡ counters S
  counters-fired =
      ap as_counters (row-put with_packet (key.Object w.port) (Some (rows.Object (raised o))) key.Counters
      ∙ row-put without_wait (key.Packet w.port o.next) (Some (rows.Packet (news S w))) key.Counters ∙ row-put S (key.Wait n) None key.Counters)

  wait-fired : (m : ℕ) → wait fired m ≡ cond (m == n) None (wait S m)
  wait-fired m =
      ap as_wait (row-put with_packet (key.Object w.port) (Some (rows.Object (raised o))) (key.Wait m)
      ∙ row-put without_wait (key.Packet w.port o.next) (Some (rows.Packet (news S w))) (key.Wait m) ∙ row-put S (key.Wait n) None (key.Wait m))
      ∙ chosen as_wait (m == n) None (row S (key.Wait m))

  packet-fired : (p m : ℕ) → packet fired p m ≡ cond ((p == w.port) && (m == o.next)) (Some (news S w)) (packet S p m)
  packet-fired p m =
      ap as_packet (row-put with_packet (key.Object w.port) (Some (rows.Object (raised o))) (key.Packet p m)
      ∙ row-put without_wait (key.Packet w.port o.next) (Some (rows.Packet (news S w))) (key.Packet p m))
      ∙ chosen as_packet ((p == w.port) && (m == o.next)) (Some (rows.Packet (news S w))) (row without_wait (key.Packet p m))
      ∙ ap (cond ((p == w.port) && (m == o.next)) (Some (news S w))) (ap as_packet (row-put S (key.Wait n) None (key.Packet p m)))

  module _ (here : object S w.port ≡ Some o) where
    at_port : (x : ℕ) → x ≡ w.port → object S x ≡ Some o
    at_port x e = ap (object S) e ∙ here

    shapes-fired : SameShapes S fired
    shapes-fired x = ap (option_map shaped) (object-fired x) ∙ over-same (option_map shaped) x w.port (raised o) o (object S x) (at_port x) refl

    signals-fired : (x : ℕ) → signals_at fired x ≡ signals_at S x
    signals-fired x = ap object_signals (object-fired x) ∙ over-same object_signals x w.port (raised o) o (object S x) (at_port x) refl

    nexts-fired : (x : ℕ) → next_at S x ≤ next_at fired x
    nexts-fired x =
        elim (x == w.port) as (λ b. (x == w.port) ≡ b → object fired x ≡ cond b (Some (raised o)) (object S x) → next_at S x ≤ next_at fired x) [
          | true ↦ λ t e.
              let a : next_at fired x ≡ o.next + 1 = ap object_next e in
              let b : next_at S x ≡ o.next = ap object_next (at_port x (eqb-true x w.port t)) in
              omega arith
          | false ↦ λ t e. let a : next_at fired x ≡ next_at S x = ap object_next e in omega arith
        ] refl (object-fired x)

    kinds-fired : (sound : IsSound S) (x : ℕ) (q : ObjectRow) → object fired x ≡ Some q → without_bits q.signals.0 (possible_signals q.kind) ≡ 0
    kinds-fired sound x q h =
        elim (x == w.port) as (λ b. (x == w.port) ≡ b → cond b (Some (raised o)) (object S x) ≡ Some q → without_bits q.signals.0 (possible_signals q.kind) ≡ 0) [
          | true ↦ λ t e. subst (λ (z : ObjectRow). without_bits z.signals.0 (possible_signals z.kind) ≡ 0) (some_one (raised o) q e) (sound.of_objects w.port o here).signals
          | false ↦ λ t e. (sound.of_objects x q e).signals
        ] refl (sym (object-fired x) ∙ h)

    packets-fired : IsSound S → kind_at S w.port ≡ Some kind.Port → (p m : ℕ) (k : Packet) → packet fired p m ≡ Some k → SoundPacket fired p m
    packets-fired sound port p m k h =
        elim ((p == w.port) && (m == o.next)) as (λ b. ((p == w.port) && (m == o.next)) ≡ b → cond b (Some (news S w)) (packet S p m) ≡ Some k → SoundPacket fired p m) [
          | true ↦ λ t e.
              let same : p ≡ w.port = eqb-true p w.port (and_left (p == w.port) _ t) in
              let number : m ≡ o.next = eqb-true m o.next (and_right (p == w.port) _ t) in
              let next : next_at fired p ≡ o.next + 1 = ap object_next (object-fired p ∙ ap (λ b. cond b (Some (raised o)) (object S p)) (and_left (p == w.port) _ t)) in
              record { owner = kind_at-shaped S fired shapes-fired p ∙ ap (kind_at S) same ∙ port; number = omega arith }
          | false ↦ λ t e. packet-framed S fired shapes-fired nexts-fired p m (sound.of_packets p m k e)
        ] refl (sym (packet-fired p m) ∙ h)

    pending-fired : IsSound S → (x : ℕ) → pending fired x ≤ most_pending
    pending-fired sound x =
        let a : pending fired x ≤ pending with_packet x = count_row-put-out (is_user_packet_of x) with_packet (key.Object w.port) (rows.Object (raised o)) refl in
        let b : pending with_packet x ≤ pending without_wait x = count_row-put-out (is_user_packet_of x) without_wait (key.Packet w.port o.next) (rows.Packet (news S w)) (and_no_right (w.port == x) false refl) in
        let c : pending without_wait x ≤ pending S x = count_row-take (is_user_packet_of x) S (key.Wait n) in
        let d : pending S x ≤ most_pending = sound.ports x in
        omega arith

    framed-fired : IsSound S → kind_at S w.port ≡ Some kind.Port → Framed S fired
    framed-fired sound port = record {
      of_rows = typed-put with_packet (typed-put without_wait (typed-put S sound.typed (key.Wait n) None (λ r e. cc)) (key.Packet w.port o.next) (Some (rows.Packet (news S w))) (λ r e. subst (λ z. suits (key.Packet w.port o.next) z ≡ true) (some_one _ r e) refl)) (key.Object w.port) (Some (rows.Object (raised o))) (λ r e. subst (λ z. suits (key.Object w.port) z ≡ true) (some_one _ r e) refl);
      of_shapes = shapes-fired;
      of_nexts = nexts-fired;
      of_signals = kinds-fired sound;
      of_entries = entry-fired;
      of_messages = message-fired;
      of_counters = counters-fired;
      of_waits = λ m v h. (only_if (m == n) (wait S m) v (sym (wait-fired m) ∙ h)).1;
      of_packets = packets-fired sound port;
      of_pending = pending-fired sound;
    }

-- ---- firing

-- each of these waits is for a port
abbrev pub ForPorts : State → List (ℕ × Wait) → Type 0
ForPorts S ws = (n : ℕ) (w : Wait) → In (n, w) ws → kind_at S w.port ≡ Some kind.Port

signals_by-same : (S T : State) → ((x : ℕ) → signals_at T x ≡ signals_at S x) → (r s : Option Held) → r ≡ s → signals_by T r ≡ signals_by S s
signals_by-same S T same r s e = ap (signals_by T) e ∙ one s
  where
    one : (s : Option Held) → signals_by T s ≡ signals_by S s
    one (Some held) = same held.koid
    one None = refl

module _ (B : State) where
  met-fire : (S : State) (n : ℕ) (w : Wait) (o : ObjectRow) → is_met B S w ≡ true → object S w.port ≡ Some o → fire B S (n, w) ≡ fired S n w o
  met-fire S n w o met here = ap (λ b. if b then fire_into (object S w.port) S (n, w) else S) met ∙ ap (λ r. fire_into r S (n, w)) here

  unmet-fire : (S : State) (n : ℕ) (w : Wait) → is_met B S w ≡ false → fire B S (n, w) ≡ S
  unmet-fire S n w met = ap (λ b. if b then fire_into (object S w.port) S (n, w) else S) met

  -- a fact of the state after firing, from the two cases
  pub fire-cases : (P : State → Type 0) (S : State) (n : ℕ) (w : Wait) → kind_at S w.port ≡ Some kind.Port → P S → ((o : ObjectRow) → object S w.port ≡ Some o → P (fired S n w o)) → P (fire B S (n, w))
  fire-cases P S n w port unmet met =
      let there = kind_at-some S w.port kind.Port port in
      elim (is_met B S w) as (λ b. is_met B S w ≡ b → P (fire B S (n, w))) [
        | true ↦ λ t. subst P (sym (met-fire S n w there.0 t there.1)) (met there.0 there.1)
        | false ↦ λ t. subst P (sym (unmet-fire S n w t)) unmet
      ] refl

  pub framed-fire : (S : State) (n : ℕ) (w : Wait) → IsSound S → kind_at S w.port ≡ Some kind.Port → Framed S (fire B S (n, w))
  framed-fire S n w sound port = fire-cases (λ T. Framed S T) S n w port (framed_itself S sound) (λ o here. framed-fired S n w o here sound port)

  pub signals-fire : (S : State) (n : ℕ) (w : Wait) → kind_at S w.port ≡ Some kind.Port → (x : ℕ) → signals_at (fire B S (n, w)) x ≡ signals_at S x
  signals-fire S n w port x = fire-cases (λ T. signals_at T x ≡ signals_at S x) S n w port refl (λ o here. signals-fired S n w o here x)

  pub met-same : (S T : State) → ((p h : ℕ) → entry T p h ≡ entry S p h) → ((x : ℕ) → signals_at T x ≡ signals_at S x) → (w : Wait) → is_met B T w ≡ is_met B S w
  met-same S T entries signals w =
      let held : entry T w.process w.handle ≡ entry S w.process w.handle = entries w.process w.handle in
      let seen : observed T w ≡ observed S w = signals_by-same S T signals (entry T w.process w.handle) (entry S w.process w.handle) held in
      λ i. not (bit_and w.signals.0 (if w.edge then without_bits (seen i) (signals_by B (held i)) else seen i) == 0)

  pub ports-fire : (S : State) (n : ℕ) (w : Wait) (ws : List (ℕ × Wait)) → IsSound S → ForPorts S ((n, w) ∷ ws) → ForPorts (fire B S (n, w)) ws
  ports-fire S n w ws sound ports m v l = kind_at-shaped S (fire B S (n, w)) (framed-fire S n w sound (ports n w (inl refl))).of_shapes v.port ∙ ports m v (inr l)

  pub sound-fire : (S : State) (n : ℕ) (w : Wait) → IsSound S → kind_at S w.port ≡ Some kind.Port → IsSound (fire B S (n, w))
  sound-fire S n w sound port = sound-framed S (fire B S (n, w)) sound (framed-fire S n w sound port)

  framed-fold : (ws : List (ℕ × Wait)) (S : State) → IsSound S → ForPorts S ws → Framed S (fold (fire B) S ws)
  framed-fold [] S sound ports = framed_itself S sound
  framed-fold ((n, w) ∷ ws) S sound ports =
      let port : kind_at S w.port ≡ Some kind.Port = ports n w (inl refl) in
      framed-framed S (fire B S (n, w)) (fold (fire B) (fire B S (n, w)) ws) (framed-fire S n w sound port)
      (framed-fold ws (fire B S (n, w)) (sound-fire S n w sound port) (ports-fire S n w ws sound ports))

  signals-fold : (ws : List (ℕ × Wait)) (S : State) → IsSound S → ForPorts S ws → (x : ℕ) → signals_at (fold (fire B) S ws) x ≡ signals_at S x
  signals-fold [] S sound ports x = refl
  signals-fold ((n, w) ∷ ws) S sound ports x =
      let port : kind_at S w.port ≡ Some kind.Port = ports n w (inl refl) in
      signals-fold ws (fire B S (n, w)) (sound-fire S n w sound port) (ports-fire S n w ws sound ports) x ∙ signals-fire S n w port x

  -- a wait that fires is gone
  gone-fired : (S : State) (n : ℕ) (w : Wait) → kind_at S w.port ≡ Some kind.Port → is_met B S w ≡ true → wait (fire B S (n, w)) n ≡ None
  gone-fired S n w port met =
      let there = kind_at-some S w.port kind.Port port in
      ap (λ T. wait T n) (met-fire S n w there.0 met there.1) ∙ wait-fired S n w there.0 n ∙ ap (λ b. cond b None (wait S n)) (eq-eqb n n refl)

  -- no wait that was met is left
  quiet : (ws : List (ℕ × Wait)) (S : State) → IsSound S → ForPorts S ws → (m : ℕ) (v : Wait) → wait (fold (fire B) S ws) m ≡ Some v → In (m, v) ws → is_met B S v ≡ true → ⊥
  quiet [] S sound ports m v h l met = l
  quiet ((n, w) ∷ ws) S sound ports m v h (inl e) met =
      let port : kind_at S w.port ≡ Some kind.Port = ports n w (inl refl) in
      let number : m ≡ n = ap (λ (z : ℕ × Wait). z.0) e in
      let same : v ≡ w = ap (λ (z : ℕ × Wait). z.1) e in
      let left : wait (fire B S (n, w)) m ≡ Some v = (framed-fold ws (fire B S (n, w)) (sound-fire S n w sound port) (ports-fire S n w ws sound ports)).of_waits m v h in
      let none : wait (fire B S (n, w)) m ≡ None = ap (wait (fire B S (n, w))) number ∙ gone-fired S n w port (ap (is_met B S) (sym same) ∙ met) in
      not_both _ none left
    where
      not_both : {v : Wait} (r : Option Wait) → r ≡ None → r ≡ Some v → ⊥
      not_both r p q = cc
  quiet ((n, w) ∷ ws) S sound ports m v h (inr l) met =
      let port : kind_at S w.port ≡ Some kind.Port = ports n w (inl refl) in
      let same : is_met B (fire B S (n, w)) v ≡ is_met B S v = met-same S (fire B S (n, w)) (framed-fire S n w sound port).of_entries (signals-fire S n w port) v in
      quiet ws (fire B S (n, w)) (sound-fire S n w sound port) (ports-fire S n w ws sound ports) m v h l (same ∙ met)

-- ---- the list of waits

wait_at-is : (S : State) (k : RowKey) (r : Row) (n : ℕ) (w : Wait) → row S k ≡ Some r → wait_at (k, r) ≡ Some (n, w) → wait S n ≡ Some w
wait_at-is S (key.Wait m) (rows.Wait v) n w h e =
    let number : m ≡ n = ap (λ (z : ℕ × Wait). z.0) (some_one (m, v) (n, w) e) in
    let same : v ≡ w = ap (λ (z : ℕ × Wait). z.1) (some_one (m, v) (n, w) e) in
    ap (wait S) (sym number) ∙ ap as_wait h ∙ ap Some same
wait_at-is S _ _ n w h e = cc

pub in-waits : (S : State) (n : ℕ) (w : Wait) → In (n, w) (waits S) → wait S n ≡ Some w
unfolding waits
in-waits S n w l = let z = in-filter_map wait_at (n, w) S.rows l in wait_at-is S z.0.0 z.0.1 n w (in-row S z.0.0 z.0.1 z.1) z.2

pub waits-in : (S : State) (n : ℕ) (w : Wait) → wait S n ≡ Some w → In (n, w) (waits S)
unfolding waits
waits-in S n w h = filter_map-in wait_at (n, w) (key.Wait n, rows.Wait w) S.rows (row-in S (key.Wait n) (rows.Wait w) (wait-row S n w h)) refl

-- ---- settling

pub ports-sound : (S : State) → IsSound S → ForPorts S (waits S)
ports-sound S sound n w l = (sound.of_waits n w (in-waits S n w l)).port

module _ (B : State) where
  pub framed-settle : (S : State) → IsSound S → Framed S (settle B S)
  unfolding settle
  framed-settle S sound =
      let R : State = refresh S in
      let f : Framed S R = framed-refresh S sound in
      let s : IsSound R = sound-framed S R sound f in
      framed-framed S R (fold (fire B) R (waits R)) f (framed-fold B (waits R) R s (ports-sound R s))

  pub sound-settle : (S : State) → IsSound S → IsSound (settle B S)
  sound-settle S sound = sound-framed S (settle B S) sound (framed-settle S sound)

  pub signals-settle : (S : State) → IsSound S → (x : ℕ) → signals_at (settle B S) x ≡ signals_at (refresh S) x
  unfolding settle
  signals-settle S sound x =
      let R : State = refresh S in
      let s : IsSound R = sound-framed S R sound (framed-refresh S sound) in
      signals-fold B (waits R) R s (ports-sound R s) x

  -- no wait is met afterwards
  pub quiet-settle : (S : State) → IsSound S → (n : ℕ) (w : Wait) → wait (settle B S) n ≡ Some w → is_met B (settle B S) w ≡ false
  unfolding settle
  quiet-settle S sound n w h =
      let R : State = refresh S in
      let U : State = fold (fire B) R (waits R) in
      let s : IsSound R = sound-framed S R sound (framed-refresh S sound) in
      let f : Framed R U = framed-fold B (waits R) R s (ports-sound R s) in
      let same : is_met B U w ≡ is_met B R w = met-same B R U f.of_entries (signals-fold B (waits R) R s (ports-sound R s)) w in
      not_true (is_met B U w) (λ t. quiet B (waits R) R s (ports-sound R s) n w h (waits-in R n w (f.of_waits n w h)) (sym same ∙ t))

  -- derived signals agree afterwards
  pub agrees-settle : (S : State) → IsSound S → (x : ℕ) (o : ObjectRow) → object (settle B S) x ≡ Some o → renewed (settle B S) x o ≡ o.signals.0
  agrees-settle S sound x o h =
      let U : State = settle B S in
      let f : Framed S U = framed-settle S sound in
      let w = shaped-there U S (turned S U f.of_shapes) x o h in
      let q : ObjectRow = w.0 in
      let e : shaped o ≡ shaped q = sym w.2 in
      let mask : ℕ = derived_mask q.kind in
      let signals : o.signals.0 ≡ renewed S x q = ap object_signals (sym h) ∙ signals-settle S sound x ∙ ap object_signals (object-refresh S x ∙ ap (option_map (renew S x)) w.1) in
      let kinds : derived_mask o.kind ≡ mask = ap (λ (z : ObjectRow). derived_mask z.kind) e in
      let same : derived U x o ≡ derived S x q = derived-framed S U f x o q e in
      (λ i. bit_or (without_bits (signals i) (kinds i)) (same i)) ∙ renew-twice q.signals.0 mask (derived S x q) (derived-out S x q) ∙ sym signals

  -- a wait without edge is met where one of its signals stands
  met-plain : (S : State) (w : Wait) → w.edge ≡ false → is_met B S w ≡ not (bit_and w.signals.0 (observed S w) == 0)
  met-plain S w plain = ap (λ b. not (bit_and w.signals.0 (if b then risen B S w else observed S w) == 0)) plain

  from_not : {b : Bool} → not b ≡ false → b ≡ true
  from_not {b = true} e = refl
  from_not {b = false} e = cc

  -- a sound state in which everything is supported is consistent once it is settled
  pub consistent_settled : (S : State) → IsSound S → ((x : ℕ) → exists S x ≡ true → is_supported S x ≡ true) → IsConsistent (settle B S)
  consistent_settled S sound supported =
      let U : State = settle B S in
      let f : Framed S U = framed-settle S sound in
      record {
        sound = sound-settle S sound;
        supported = λ x e. supported-framed S U f x ∙ supported x (sym (exists-shaped S U f.of_shapes x) ∙ e);
        agrees = agrees-settle S sound;
        waiting = λ n w there plain. eqb-true (bit_and w.signals.0 (observed U w)) 0 (from_not (sym (met-plain U w plain) ∙ quiet-settle S sound n w there));
      }

-- ---- where nothing is to be done

refreshed-same : (S : State) → ((x : ℕ) (o : ObjectRow) → object S x ≡ Some o → renewed S x o ≡ o.signals.0) → (k : RowKey) (r : Row) → row S k ≡ Some r → refreshed S k r ≡ Some r
refreshed-same S agrees (key.Object x) (rows.Object o) h =
    let e : renewed S x o ≡ o.signals.0 = agrees x o (ap as_object h) in
    λ i. Some (rows.Object (record o { signals = record { 0 = e i } }))
refreshed-same S agrees k r h = refl

-- refreshing changes nothing where derived signals agree
pub refresh-same : (S : State) → ((x : ℕ) (o : ObjectRow) → object S x ≡ Some o → renewed S x o ≡ o.signals.0) → refresh S ≡ S
refresh-same S agrees = same_state (refresh S) S (λ k. row-refresh S k ∙ and_then_all (refreshed S k) (row S k) (λ r e. refreshed-same S agrees k r e))

-- no signal has risen between a state and itself
none-risen : (x : ℕ) → without_bits x x ≡ 0
none-risen x = elim (cases_lt x (2 ^ 32)) [
  | inl fits ↦ same_from_bits_below 32 (without_bits x x) 0 (omega (arith, and_le_l x (4294967295 - x))) (pow_pos 32) (λ i within. one (bit_at x i) (bit_at (4294967295 - x) i) (bit_at_and x (4294967295 - x) i) (bit_at_not w32 x i fits within) ∙ sym (bit_at-zero i))
  | inr more ↦ ap (bit_and x) (spent x more) ∙ and_comm x 0 ∙ and_zero_l x
]
  where
    spent : (x : ℕ) → 2 ^ 32 ≤ x → 4294967295 - x ≡ 0
    spent x more = omega arith

    one : {m : ℕ} (a b : ℕ) → m ≡ min a b → b ≡ 1 - a → m ≡ 0
    one a b e f = omega (arith, e, f)

-- a wait is not met where what it names has the signals that it had, and it is on an edge or none of its signals stands
pub unmet-alike : (S T : State) (w : Wait) → signals_by S (entry T w.process w.handle) ≡ observed T w → (w.edge ≡ false → bit_and w.signals.0 (observed T w) ≡ 0) → is_met S T w ≡ false
unmet-alike S T w same plain = ap (λ s. not (s == 0)) (by w.edge refl)
  where
    by : (b : Bool) → w.edge ≡ b → bit_and w.signals.0 (if b then risen S T w else observed T w) ≡ 0
    by true e = ap (bit_and w.signals.0) (ap (without_bits (observed T w)) same ∙ none-risen (observed T w)) ∙ and_comm w.signals.0 0 ∙ and_zero_l w.signals.0
    by false e = plain e

fold-same : (B : State) (ws : List (ℕ × Wait)) (S : State) → ((n : ℕ) (w : Wait) → In (n, w) ws → is_met B S w ≡ false) → fold (fire B) S ws ≡ S
fold-same B [] S h = refl
fold-same B ((n, w) ∷ ws) S h = ap (λ T. fold (fire B) T ws) (unmet-fire B S n w (h n w (inl refl))) ∙ fold-same B ws S (λ m v l. h m v (inr l))

-- a consistent state is at rest
pub settle_at_rest : (S : State) → IsConsistent S → settle S S ≡ S
unfolding settle
settle_at_rest S c =
    ap (λ T. fold (fire S) T (waits T)) (refresh-same S c.agrees) ∙ fold-same S (waits S) S (λ n w l. unmet-alike S S w refl (c.waiting n w (in-waits S n w l)))

pub collect_at_rest : (S : State) → IsConsistent S → collect S ≡ S
collect_at_rest S c = collect-none S (λ x. supported-stays S x (c.supported x))

pub ruleset rest_laws = (collect_at_rest, settle_at_rest)
