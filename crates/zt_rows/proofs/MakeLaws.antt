-- A new object at the next koid, and new signals of one object, leave a sound state sound.
use Rattle.std.proofs.Common.{◌≡◌, ◌≤◌, ◌<◌, ℕ, ◌+◌, ◌-◌, true, false, cond, not, ◌&&◌, ◌||◌, ◌⊎◌, inl, inr, refl, sym, ap, ◌∙◌, subst, arith}
use Rattle.std.specs.Prelude.{Some, ◌==◌, bit_and, bit_or}
use Rattle.std.specs.Option.{option_map}
use Rattle.std.specs.Int.Bits.{and_comm, and_zero_l}
use Rattle.std.proofs.lemmas.Nat.{and_assoc, and_or_apart}
use Rattle.std.proofs.lemmas.Bool.{eqb-true}
use Rattle.zt_bits.specs.declared.kinds.Kind.{Kind}
use Rattle.zt_bits.specs.declared.kinds.Kind.TheVariants as kind
use Rattle.zt_bits.specs.Tables.{settable_signals}
use Rattle.zt_rows.specs.declared.keys.RowKey.TheVariants as key
use Rattle.zt_rows.specs.declared.rows.Counters.{Counters}
use Rattle.zt_rows.specs.declared.rows.Life.TheVariants as life
use Rattle.zt_rows.specs.declared.rows.ObjectRow.{ObjectRow}
use Rattle.zt_rows.specs.declared.rows.Row.TheVariants as rows
use Rattle.zt_rows.specs.State.{State, put}
use Rattle.zt_rows.specs.Reads.{as_counters, as_object, as_entry, as_message, as_packet, as_wait, counters, object, entry, message, packet, wait, is_job, is_process, is_live_process, is_live_job}
use Rattle.zt_rows.specs.Tests.{exists, next_at, object_next, is_task as is_task_kind, has_all, without_bits}
use Rattle.zt_rows.specs.Room.{suits}
use Rattle.zt_rows.specs.Support.{root_job}
use Rattle.zt_rows.specs.PortCalls.{is_user_packet_of, pending, most_pending}
use Rattle.zt_rows.specs.JobCalls.{most_depth}
use Rattle.zt_rows.specs.End.{depth}
use Rattle.zt_rows.specs.Handles.{fresh, next_koid, make}
use Rattle.zt_rows.specs.ObjectCalls.{set_signals}
use Rattle.zt_rows.specs.Consistent.{has_parent, may_be, possible_signals, SoundObject, IsSound}
use Rattle.zt_rows.proofs.StateLaws.{row-put}
use Rattle.zt_rows.proofs.RowLaws.{true≢false, count_row-put-out}
use Rattle.zt_rows.proofs.ReadLaws.{some_one, exists-some, kind_at-some, object-put, over-same, typed-put}
use Rattle.zt_rows.proofs.FramedLaws.{shaped, Framed, SameShapes, packet-framed, sound-framed}
use Rattle.zt_rows.proofs.GrownLaws.{KeepsObjects, CriticalAsIn, Grown, HasObject, keeps-with, new-with, has-object, sound-grown}

-- ---- a new object

-- the next koid is no object's yet
pub fresh-koid : (S : State) → IsSound S → (o : ObjectRow) → object S (next_koid S) ≡ Some o → ⊥
fresh-koid S sound o h =
    let s : SoundObject S (next_koid S) o = sound.of_objects (next_koid S) o h in
    let a : next_koid S < next_koid S = s.high in
    omega arith

-- the next koid is above the root job's
pub koid-low : (S : State) → IsSound S → root_job ≤ next_koid S
koid-low S sound =
    let w = kind_at-some S root_job kind.Job sound.root in
    let s : SoundObject S root_job w.0 = sound.of_objects root_job w.0 w.1 in
    let a : root_job < next_koid S = s.high in
    omega arith

module _ (S : State) (sound : IsSound S) (o : ObjectRow) where
  abbrev made : State
  made = make (counters S) o S

  abbrev with_object : State
  with_object = put S (key.Object (next_koid S)) (Some (rows.Object o))

  abbrev raised_counters : Counters
  raised_counters = record (counters S) { next_koid = next_koid S + 1 }

  has-made : HasObject S made (next_koid S) o
  has-made x = ap as_object (row-put with_object key.Counters (Some (rows.Counters raised_counters)) (key.Object x)) ∙ object-put S (next_koid S) (Some (rows.Object o)) x

  keeps-made : KeepsObjects S made
  keeps-made = keeps-with S made (next_koid S) o has-made (λ q h. absurd (fresh-koid S sound q h))

  counters-made : counters made ≡ raised_counters
  counters-made = ap as_counters (row-put with_object key.Counters (Some (rows.Counters raised_counters)) key.Counters)

  pub entry-made : (p h : ℕ) → entry made p h ≡ entry S p h
  entry-made p h = ap as_entry (row-put with_object key.Counters (Some (rows.Counters raised_counters)) (key.Entry p h) ∙ row-put S (key.Object (next_koid S)) (Some (rows.Object o)) (key.Entry p h))

  message-made : (e n : ℕ) → message made e n ≡ message S e n
  message-made e n = ap as_message (row-put with_object key.Counters (Some (rows.Counters raised_counters)) (key.Msg e n) ∙ row-put S (key.Object (next_koid S)) (Some (rows.Object o)) (key.Msg e n))

  packet-made : (p n : ℕ) → packet made p n ≡ packet S p n
  packet-made p n = ap as_packet (row-put with_object key.Counters (Some (rows.Counters raised_counters)) (key.Packet p n) ∙ row-put S (key.Object (next_koid S)) (Some (rows.Object o)) (key.Packet p n))

  wait-made : (n : ℕ) → wait made n ≡ wait S n
  wait-made n = ap as_wait (row-put with_object key.Counters (Some (rows.Counters raised_counters)) (key.Wait n) ∙ row-put S (key.Object (next_koid S)) (Some (rows.Object o)) (key.Wait n))

  pub koids-made : next_koid made ≡ next_koid S + 1
  koids-made = ap (λ (c : Counters). c.next_koid) counters-made

  -- the object that was made is there
  pub object-made : object (make (counters S) o S) (next_koid S) ≡ Some o
  object-made = has-object S made (next_koid S) o has-made

  -- the objects that were there are as they were
  pub others-made : (x : ℕ) (q : ObjectRow) → object S x ≡ Some q → object (make (counters S) o S) x ≡ Some q
  others-made x q h =
      elim (x == next_koid S) as (λ b. (x == next_koid S) ≡ b → object made x ≡ cond b (Some o) (object S x) → object made x ≡ Some q) [
        | true ↦ λ t _. absurd (fresh-koid S sound q (ap (object S) (sym (eqb-true x (next_koid S) t)) ∙ h))
        | false ↦ λ t e. e ∙ h
      ] refl (has-made x)

  grown-make : SoundObject made (next_koid S) o → (is_live_job o ≡ true → depth made (next_koid S) ≤ most_depth) → o.critical ≡ 0 → Grown S made
  grown-make new deep free = record {
    of_rows = typed-put with_object (typed-put S sound.typed (key.Object (next_koid S)) (Some (rows.Object o)) (λ r e. subst (λ z. suits (key.Object (next_koid S)) z ≡ true) (some_one _ r e) refl)) key.Counters (Some (rows.Counters raised_counters)) (λ r e. subst (λ z. suits key.Counters z ≡ true) (some_one _ r e) refl);
    of_koids = let e : next_koid made ≡ next_koid S + 1 = koids-made in omega arith;
    of_numbers = let e : (counters made).next_wait ≡ (counters S).next_wait = ap (λ (c : Counters). c.next_wait) counters-made in omega arith;
    of_objects = keeps-made;
    new_objects = new-with S made (next_koid S) o has-made new;
    new_entries = λ p h held e. inl (sym (entry-made p h) ∙ e);
    new_messages = λ e n m h. inl (sym (message-made e n) ∙ h);
    new_packets = λ p n k h. inl (sym (packet-made p n) ∙ h);
    new_waits = λ n w h. inl (sym (wait-made n) ∙ h, λ held e. entry-made w.process w.handle ∙ e);
    of_pending = λ x.
        let a : pending made x ≤ pending with_object x = count_row-put-out (is_user_packet_of x) with_object key.Counters (rows.Counters raised_counters) refl in
        let b : pending with_object x ≤ pending S x = count_row-put-out (is_user_packet_of x) S (key.Object (next_koid S)) (rows.Object o) refl in
        let c : pending S x ≤ most_pending = sound.ports x in
        omega arith;
    new_depths = λ x q h job. elim (x == next_koid S) as (λ b. (x == next_koid S) ≡ b → cond b (Some o) (object S x) ≡ Some q → (exists S x ≡ true) ⊎ (depth made x ≤ most_depth)) [
      | true ↦ λ t e. inr (subst (λ z. depth made z ≤ most_depth) (sym (eqb-true x (next_koid S) t)) (deep (ap is_live_job (some_one o q e) ∙ job)))
      | false ↦ λ t e. inl (exists-some S x q e)
    ] refl (sym (has-made x) ∙ h);
    new_criticals = λ x q h. elim (x == next_koid S) as (λ b. cond b (Some o) (object S x) ≡ Some q → CriticalAsIn S made x q) [
      | true ↦ λ e. inr (inl (ap (λ (z : ObjectRow). z.critical) (sym (some_one o q e)) ∙ free))
      | false ↦ λ e. inl (q, e, refl)
    ] (sym (has-made x) ∙ h);
  }

  -- an object that is sound at its place and critical to nothing can be made; a live job has to lie not too deep
  pub sound-make : SoundObject (make (counters S) o S) (next_koid S) o → (is_live_job o ≡ true → depth (make (counters S) o S) (next_koid S) ≤ most_depth) → o.critical ≡ 0 → IsSound (make (counters S) o S)
  sound-make new deep free = sound-grown S made sound (grown-make new deep free)

no_task : (k : Kind) → is_task_kind k ≡ false → (is_process k ≡ false) × (is_job k ≡ false)
no_task kind.Job e = cc
no_task kind.Process e = cc
no_task _ e = (refl, refl)

pub may_be-live : (k : Kind) → may_be k life.Live ≡ true
may_be-live kind.Job = refl
may_be-live kind.Process = refl
may_be-live kind.Channel = refl
may_be-live kind.Event = refl
may_be-live kind.EventPair = refl
may_be-live kind.Port = refl

not_process : (k : Kind) → is_process k ≡ false → is_live_process (fresh k 0) ≡ false
not_process k e = ap (λ b. b && true) e

not_job : (k : Kind) → is_job k ≡ false → is_live_job (fresh k 0) ≡ false
not_job k e = ap (λ b. b && true) e

no_parent : (x : ℕ) (k : Kind) → is_task_kind k ≡ false → has_parent x (fresh k 0) ≡ false
no_parent x k e =
    let w = no_task k e in
    (λ i. not_process k w.0 i || (not_job k w.1 i && not (x == root_job)))

-- an object of no job or process, with no link, can be made
pub sound-create : (S : State) → IsSound S → (k : Kind) → is_task_kind k ≡ false → IsSound (make (counters S) (fresh k 0) S)
sound-create S sound k plain =
    let T : State = make (counters S) (fresh k 0) S in
    let koids : next_koid T ≡ next_koid S + 1 = koids-made S sound (fresh k 0) in
    let new : SoundObject T (next_koid S) (fresh k 0) = record {
      low = koid-low S sound;
      high = omega arith;
      peers = λ e. inl refl;
      parents = λ e. absurd (true≢false (has_parent (next_koid S) (fresh k 0)) e (no_parent (next_koid S) k plain));
      alone = λ e f. refl;
      lives = may_be-live k;
      signals = and_zero_l (4294967295 - possible_signals k);
    } in
    sound-make S sound (fresh k 0) new (λ e. absurd (true≢false (is_live_job (fresh k 0)) e (not_job k (no_task k plain).1))) refl

-- ---- new signals

set-possible_of : (s clear set most out : ℕ) → bit_and s out ≡ 0 → bit_and most out ≡ 0 → bit_and most set ≡ set → bit_and (bit_or (without_bits s clear) set) out ≡ 0
set-possible_of s clear set most out p q e =
    let within : bit_and set out ≡ 0 = ap (λ b. bit_and b out) (sym e) ∙ and_assoc out most set ∙ ap (bit_and most) (and_comm set out) ∙ sym (and_assoc set most out) ∙ ap (λ b. bit_and b set) q ∙ and_zero_l set in
    and_or_apart out (without_bits s clear) set within ∙ and_assoc out s (4294967295 - clear) ∙ ap (bit_and s) (and_comm (4294967295 - clear) out) ∙ sym (and_assoc (4294967295 - clear) s out) ∙ ap (λ b. bit_and b (4294967295 - clear)) p ∙ and_zero_l (4294967295 - clear)

settable-possible : (k : Kind) → bit_and (settable_signals k) (4294967295 - possible_signals k) ≡ 0
settable-possible kind.Job = refl
settable-possible kind.Process = refl
settable-possible kind.Channel = refl
settable-possible kind.Event = refl
settable-possible kind.EventPair = refl
settable-possible kind.Port = refl

module _ (S : State) (sound : IsSound S) (x : ℕ) (o : ObjectRow) (here : object S x ≡ Some o) (clear set : ℕ) (settable : has_all (settable_signals o.kind) set ≡ true) where
  abbrev signaled : State
  signaled = set_signals x o clear set S

  abbrev new_row : ObjectRow
  new_row = record o { signals = record { 0 = bit_or (without_bits o.signals.0 clear) set } }

  has-signaled : HasObject S signaled x new_row
  has-signaled y = object-put S x (Some (rows.Object new_row)) y

  at_place : (y : ℕ) → y ≡ x → object S y ≡ Some o
  at_place y e = ap (object S) e ∙ here

  shapes-signaled : SameShapes S signaled
  shapes-signaled y = ap (option_map shaped) (has-signaled y) ∙ over-same (option_map shaped) y x new_row o (object S y) (at_place y) refl

  nexts-signaled : (y : ℕ) → next_at S y ≤ next_at signaled y
  nexts-signaled y = let e : next_at signaled y ≡ next_at S y = ap object_next (has-signaled y) ∙ over-same object_next y x new_row o (object S y) (at_place y) refl in omega arith

  possible-signaled : (y : ℕ) (q : ObjectRow) → object signaled y ≡ Some q → without_bits q.signals.0 (possible_signals q.kind) ≡ 0
  possible-signaled y q h =
      elim (y == x) as (λ b. (y == x) ≡ b → cond b (Some new_row) (object S y) ≡ Some q → without_bits q.signals.0 (possible_signals q.kind) ≡ 0) [
        | true ↦ λ t e. subst (λ (z : ObjectRow). without_bits z.signals.0 (possible_signals z.kind) ≡ 0) (some_one new_row q e)
            (set-possible_of o.signals.0 clear set (settable_signals o.kind) (4294967295 - possible_signals o.kind) (sound.of_objects x o here).signals (settable-possible o.kind) (eqb-true (bit_and (settable_signals o.kind) set) set settable))
        | false ↦ λ t e. (sound.of_objects y q e).signals
      ] refl (sym (has-signaled y) ∙ h)

  pub framed-signals : Framed S (set_signals x o clear set S)
  framed-signals = record {
    of_rows = typed-put S sound.typed (key.Object x) (Some (rows.Object new_row)) (λ r e. subst (λ z. suits (key.Object x) z ≡ true) (some_one _ r e) refl);
    of_shapes = shapes-signaled;
    of_nexts = nexts-signaled;
    of_signals = possible-signaled;
    of_entries = λ p h. ap as_entry (row-put S (key.Object x) (Some (rows.Object new_row)) (key.Entry p h));
    of_messages = λ e n. ap as_message (row-put S (key.Object x) (Some (rows.Object new_row)) (key.Msg e n));
    of_counters = ap as_counters (row-put S (key.Object x) (Some (rows.Object new_row)) key.Counters);
    of_waits = λ n w h. sym (ap as_wait (row-put S (key.Object x) (Some (rows.Object new_row)) (key.Wait n))) ∙ h;
    of_packets = λ p n k h. packet-framed S signaled shapes-signaled nexts-signaled p n (sound.of_packets p n k (sym (ap as_packet (row-put S (key.Object x) (Some (rows.Object new_row)) (key.Packet p n))) ∙ h));
    of_pending = λ y.
        let a : pending signaled y ≤ pending S y = count_row-put-out (is_user_packet_of y) S (key.Object x) (rows.Object new_row) refl in
        let c : pending S y ≤ most_pending = sound.ports y in
        omega arith;
  }

  -- signals that may be set on the kind can be set and cleared
  pub sound-signals : IsSound (set_signals x o clear set S)
  sound-signals = sound-framed S signaled sound framed-signals
