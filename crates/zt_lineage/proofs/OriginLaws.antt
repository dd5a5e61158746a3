-- After a call each handle has the origin that is told of it: kept by every change that calls are made of, and shown of
-- each call.
use Rattle.std.proofs.Common.{◌≡◌, ◌≤◌, ◌<◌, ℕ, zero, suc, ◌+◌, ◌*◌, Bool, true, false, cond, not, ◌&&◌, List, [], ◌∷◌, refl, sym, ap, ◌∙◌, subst, arith}
use Rattle.std.specs.Prelude.{ℤ, Option, None, Some, Result, Ok, is_some, slice_get, ok_or, if◌then◌else◌, ◌==◌, nat_lt, bit_and, bit_or}
use Rattle.std.specs.Option.{option_map, option_and_then}
use Rattle.std.specs.Int.Bits.{and_self}
use Rattle.std.proofs.lemmas.Bool.{eqb-true, eq-eqb, ne_eqb}
use Rattle.zt_rows.proofs.RowLaws.{and_left, and_right}
use Rattle.zt_bits.specs.declared.kinds.Kind.{Kind}
use Rattle.zt_bits.specs.declared.kinds.Kind.TheVariants as kind
use Rattle.zt_bits.specs.declared.statuses.Status.{Status}
use Rattle.zt_bits.specs.declared.statuses.Status.TheVariants as status
use Rattle.zt_bits.specs.Tables.{asked_rights}
use Rattle.zt_rows.specs.declared.calls.Call.{Call}
use Rattle.zt_rows.specs.declared.calls.Call.TheVariants as call
use Rattle.zt_rows.specs.declared.calls.Reply.{Reply}
use Rattle.zt_rows.specs.declared.keys.RowKey.{RowKey}
use Rattle.zt_rows.specs.declared.keys.RowKey.TheVariants as key
use Rattle.zt_rows.specs.declared.rows.Counters.{Counters}
use Rattle.zt_rows.specs.declared.rows.Held.{Held}
use Rattle.zt_rows.specs.declared.rows.Life.{Life}
use Rattle.zt_rows.specs.declared.rows.Life.TheVariants as life
use Rattle.zt_rows.specs.declared.rows.ObjectRow.{ObjectRow}
use Rattle.zt_rows.specs.declared.rows.Packet.{Packet}
use Rattle.zt_rows.specs.declared.rows.Packet.TheVariants as packet
use Rattle.zt_rows.specs.declared.rows.Row.{Row}
use Rattle.zt_rows.specs.declared.rows.Row.TheVariants as rows
use Rattle.zt_rows.specs.declared.rows.Wait.{Wait}
use Rattle.zt_rows.specs.Contents.{MessageContent}
use Rattle.zt_rows.specs.State.{State, row, put}
use Rattle.zt_rows.specs.Reads.{as_entry, as_message, counters, object, entry, message, queue, packets, is_job, is_process, is_live, has_live_process}
use Rattle.zt_rows.specs.Tests.{any_kind, is_channel, is_port, is_endpoint, is_task, among, first, has_all, raised, next_at, object_next, without_bits, any_row}
use Rattle.zt_rows.specs.Collect.{collect}
use Rattle.zt_rows.specs.Settle.{settle, push_packet}
use Rattle.zt_rows.specs.End.{depth, is_under, ends_with, end, left_by}
use Rattle.zt_rows.specs.Handles.{◌>>=◌, check, handle, answered, done, caller, take_out, take_out_all, value_of, install, install_all, whole, fresh, next_koid, make, make_pair}
use Rattle.zt_rows.specs.ObjectCalls.{create, create_pair, received, handle_close, handle_duplicate, handle_replace, may_set, object_signal, object_signal_peer}
use Rattle.zt_rows.specs.ChannelCalls.{sent, channel_write, has_room_for, take_message, refuse_message, channel_read}
use Rattle.zt_rows.specs.PortCalls.{object_wait_async, pending, most_pending, port_queue, port_wait, is_cancelled, cancel, port_cancel}
use Rattle.zt_rows.specs.JobCalls.{most_depth, job_create, argument, child, hand_over, spawn, job_set_critical, task_kill, others, process_exit}
use Rattle.zt_rows.specs.Step.{IsCall, direct, step}
use Rattle.zt_rows.specs.Consistent.{SoundEntry, IsSound, IsConsistent}
use Rattle.zt_rows.proofs.StateLaws.{row-put, row-change}
use Rattle.zt_rows.proofs.ReadLaws.{some_one, only_if, chosen, entry-without, message-stayed}
use Rattle.zt_rows.proofs.SoundLaws.{has_live_process-some}
use Rattle.zt_rows.proofs.TakeLaws.{entry-taken, message-taken}
use Rattle.zt_rows.proofs.StepLaws.{Found, chained, after_check, after_some, after_result, after_handle_of, after_handle, caller-is}
use Rattle.zt_rows.proofs.SentLaws.{bound, found}
use Rattle.zt_rows.proofs.ReceivedLaws.{first-message}
use Rattle.zt_rows.proofs.CollectLaws.{sound-collect}
use Rattle.zt_rows.proofs.WithoutLaws.{collect-set}
use Rattle.zt_rows.proofs.FramedLaws.{Framed}
use Rattle.zt_rows.proofs.SettleLaws.{framed-settle}
use Rattle.zt_rows.proofs.CallLaws.{sound-direct}
use Rattle.zt_lineage.specs.declared.places.Place.{Place}
use Rattle.zt_lineage.specs.declared.places.Place.TheVariants as place
use Rattle.zt_lineage.specs.Places.{handle_in, held_at}
use Rattle.zt_lineage.specs.declared.origins.Origin.{Origin}
use Rattle.zt_lineage.specs.declared.origins.Origin.TheVariants.{Stayed, Made, From}
use Rattle.zt_lineage.specs.Origins.{from_value, from_first, from_queue, received_as, filled_by, origin, Gives, IsFrom}

-- ---- rights

-- what a request gets of rights is among them
asked-given : (mask old rights : ℕ) → asked_rights mask old ≡ Some rights → has_all old rights ≡ true
asked-given mask old rights e =
    elim (mask == 0x80000000) as (λ b. (if b then Some old else (if bit_and old mask == mask then Some mask else None)) ≡ Some rights → has_all old rights ≡ true) [
      | true ↦ λ f. subst (λ r. has_all old r ≡ true) (some_one old rights f) (eq-eqb (bit_and old old) old (and_self old))
      | false ↦ λ f. elim (bit_and old mask == mask) as (λ b. (bit_and old mask == mask) ≡ b → (if b then Some mask else None) ≡ Some rights → has_all old rights ≡ true) [
        | true ↦ λ t g. subst (λ r. has_all old r ≡ true) (some_one mask rights g) t
        | false ↦ λ t g. cc
      ] refl f
    ] e

gives-itself : (held : Held) → Gives held held
gives-itself held = record { object = refl; rights = eq-eqb (bit_and held.rights.0 held.rights.0) held.rights.0 (and_self held.rights.0) }

-- ---- the origin of what stayed, and of what a place is filled with

stayed : (S : State) (p : ℕ) (c : Call) (at : Place) (held : Held) → held_at S at ≡ Some held → IsFrom S held at (origin S p c at)
stayed S p c at held e = subst (λ b. IsFrom S held at (if b then Stayed else filled_by S p c at)) (sym (ap (λ (r : Option Held). is_some r) e)) e

filled : (S : State) (p : ℕ) (c : Call) (at : Place) (held : Held) → held_at S at ≡ None → IsFrom S held at (filled_by S p c at) → IsFrom S held at (origin S p c at)
filled S p c at held e is = subst (λ b. IsFrom S held at (if b then Stayed else filled_by S p c at)) (sym (ap (λ (r : Option Held). is_some r) e)) is

-- ---- states whose handles have these origins

pub record Sourced (S : State) (o : Place → Origin) (T : State) : Type 0 where
  pub entries : (q h : ℕ) (held : Held) → entry T q h ≡ Some held → IsFrom S held (place.Entry q h) (o (place.Entry q h))
  pub messages : (e n : ℕ) (m : MessageContent) → message T e n ≡ Some m → (i : ℕ) (held : Held) → slice_get m.handles i ≡ Some held → IsFrom S held (place.Message e n i) (o (place.Message e n i))

sourced-itself : (S : State) (p : ℕ) (c : Call) → Sourced S (origin S p c) S
sourced-itself S p c = record {
  entries = λ q h held e. stayed S p c (place.Entry q h) held e;
  messages = λ e n m at i held h. stayed S p c (place.Message e n i) held (ap (λ r. handle_in r i) at ∙ h);
}

module _ (S : State) (o : Place → Origin) (T : State) (is : Sourced S o T) where
  -- no entry and no message more
  less : (U : State) → ((q h : ℕ) (held : Held) → entry U q h ≡ Some held → entry T q h ≡ Some held) → ((e n : ℕ) (m : MessageContent) → message U e n ≡ Some m → message T e n ≡ Some m) → Sourced S o U
  less U entries messages = record {
    entries = λ q h held e. is.entries q h held (entries q h held e);
    messages = λ e n m at. is.messages e n m (messages e n m at);
  }

  sourced-object : (y : ℕ) (new : ObjectRow) → Sourced S o (put T (key.Object y) (Some (rows.Object new)))
  sourced-object y new = less (put T (key.Object y) (Some (rows.Object new)))
      (λ q h held e. sym (ap as_entry (row-put T (key.Object y) (Some (rows.Object new)) (key.Entry q h))) ∙ e)
      (λ e n m at. sym (ap as_message (row-put T (key.Object y) (Some (rows.Object new)) (key.Msg e n))) ∙ at)

  sourced-counters : (c : Counters) → Sourced S o (put T key.Counters (Some (rows.Counters c)))
  sourced-counters c = less (put T key.Counters (Some (rows.Counters c)))
      (λ q h held e. sym (ap as_entry (row-put T key.Counters (Some (rows.Counters c)) (key.Entry q h))) ∙ e)
      (λ e n m at. sym (ap as_message (row-put T key.Counters (Some (rows.Counters c)) (key.Msg e n))) ∙ at)

  sourced-wait : (l : ℕ) (new : Option Row) → Sourced S o (put T (key.Wait l) new)
  sourced-wait l new = less (put T (key.Wait l) new)
      (λ q h held e. sym (ap as_entry (row-put T (key.Wait l) new (key.Entry q h))) ∙ e)
      (λ e n m at. sym (ap as_message (row-put T (key.Wait l) new (key.Msg e n))) ∙ at)

  sourced-packet : (x l : ℕ) (new : Option Row) → Sourced S o (put T (key.Packet x l) new)
  sourced-packet x l new = less (put T (key.Packet x l) new)
      (λ q h held e. sym (ap as_entry (row-put T (key.Packet x l) new (key.Entry q h))) ∙ e)
      (λ e n m at. sym (ap as_message (row-put T (key.Packet x l) new (key.Msg e n))) ∙ at)

  -- an entry is put that has its origin
  sourced-entry : (q h : ℕ) (new : Held) → IsFrom S new (place.Entry q h) (o (place.Entry q h)) → Sourced S o (put T (key.Entry q h) (Some (rows.Entry new)))
  sourced-entry q h new from = record {
    entries = λ r g held e. elim ((r == q) && (g == h)) as (λ b. ((r == q) && (g == h)) ≡ b → cond b (Some new) (entry T r g) ≡ Some held → IsFrom S held (place.Entry r g) (o (place.Entry r g))) [
      | true ↦ λ t f.
          let owner : r ≡ q = eqb-true r q (and_left (r == q) _ t) in
          let value : g ≡ h = eqb-true g h (and_right (r == q) _ t) in
          subst (λ (z : Held). IsFrom S z (place.Entry r g) (o (place.Entry r g))) (some_one new held f)
          (subst (λ y. IsFrom S new (place.Entry y g) (o (place.Entry y g))) (sym owner)
          (subst (λ y. IsFrom S new (place.Entry q y) (o (place.Entry q y))) (sym value) from))
      | false ↦ λ t f. is.entries r g held f
    ] refl (sym (ap as_entry (row-put T (key.Entry q h) (Some (rows.Entry new)) (key.Entry r g)) ∙ chosen as_entry ((r == q) && (g == h)) (Some (rows.Entry new)) (row T (key.Entry r g))) ∙ e);
    messages = λ e n m at. is.messages e n m (sym (ap as_message (row-put T (key.Entry q h) (Some (rows.Entry new)) (key.Msg e n))) ∙ at);
  }

  as-message : (r : Option MessageContent) → as_message (option_map rows.Msg r) ≡ r
  as-message (Some m) = refl
  as-message None = refl

  -- a message is put whose handles have their origins, or one goes
  sourced-message : (e n : ℕ) (new : Option MessageContent) → ((m : MessageContent) → new ≡ Some m → (i : ℕ) (held : Held) → slice_get m.handles i ≡ Some held → IsFrom S held (place.Message e n i) (o (place.Message e n i))) → Sourced S o (put T (key.Msg e n) (option_map rows.Msg new))
  sourced-message e n new from =
      let U : State = put T (key.Msg e n) (option_map rows.Msg new) in
      let at : (f l : ℕ) → message U f l ≡ cond ((f == e) && (l == n)) new (message T f l) = (λ f l.
      ap as_message (row-put T (key.Msg e n) (option_map rows.Msg new) (key.Msg f l))
      ∙ chosen as_message ((f == e) && (l == n)) (option_map rows.Msg new) (row T (key.Msg f l))
      ∙ ap (λ r. cond ((f == e) && (l == n)) r (message T f l)) (as-message new)) in
      record {
        entries = λ q h held g. is.entries q h held (sym (ap as_entry (row-put T (key.Msg e n) (option_map rows.Msg new) (key.Entry q h))) ∙ g);
        messages = λ f l m there i held h. elim ((f == e) && (l == n)) as (λ b. ((f == e) && (l == n)) ≡ b → cond b new (message T f l) ≡ Some m → IsFrom S held (place.Message f l i) (o (place.Message f l i))) [
          | true ↦ λ t g.
              let owner : f ≡ e = eqb-true f e (and_left (f == e) _ t) in
              let number : l ≡ n = eqb-true l n (and_right (f == e) _ t) in
              subst (λ y. IsFrom S held (place.Message y l i) (o (place.Message y l i))) (sym owner)
              (subst (λ y. IsFrom S held (place.Message e y i) (o (place.Message e y i))) (sym number) (from m g i held h))
          | false ↦ λ t g. is.messages f l m g i held h
        ] refl (sym (at f l) ∙ there);
      }

  sourced-gone : (e n : ℕ) → Sourced S o (put T (key.Msg e n) None)
  sourced-gone e n = sourced-message e n None (λ m g. cc)

  sourced-taken : (p : ℕ) (values : ℕ → Bool) → Sourced S o (take_out_all T p values)
  sourced-taken p values = less (take_out_all T p values)
      (λ q h held e. (only_if ((q == p) && values h) (entry T q h) held (sym (entry-taken p values T q h) ∙ e)).1)
      (λ e n m at. sym (message-taken p values T e n) ∙ at)

  -- ---- what ends, and what is cancelled

  entry-ending : (ending : ℕ → Bool) (how : Life) (q h : ℕ) (held : Held) (r : Option Row) → as_entry (option_and_then (left_by ending how (key.Entry q h)) r) ≡ Some held → as_entry r ≡ Some held
  entry-ending ending how q h held (Some (rows.Entry other)) e =
      elim (ending q) as (λ b. as_entry (if b then None else Some (rows.Entry other)) ≡ Some held → Some other ≡ Some held) [
        | true ↦ λ f. cc
        | false ↦ λ f. f
      ] e
  entry-ending ending how q h held None e = cc
  entry-ending ending how q h held _ e = cc

  message-ending : (ending : ℕ → Bool) (how : Life) (e n : ℕ) (r : Option Row) → as_message (option_and_then (left_by ending how (key.Msg e n)) r) ≡ as_message r
  message-ending ending how e n (Some r) = refl
  message-ending ending how e n None = refl

  sourced-end : (ending : ℕ → Bool) (how : Life) → Sourced S o (end T ending how)
  unfolding end
  sourced-end ending how = less (end T ending how)
      (λ q h held e. entry-ending ending how q h held (row T (key.Entry q h)) (sym (ap as_entry (row-change (left_by ending how) T (key.Entry q h))) ∙ e))
      (λ e n m at. sym (ap as_message (row-change (left_by ending how) T (key.Msg e n)) ∙ message-ending ending how e n (row T (key.Msg e n))) ∙ at)

  module _ (x p h l : ℕ) where
    abbrev uncancelled : RowKey → Row → Option Row
    uncancelled k r = if is_cancelled x p h l k r then None else Some r

    entry-uncancelled : (q g : ℕ) (r : Option Row) → as_entry (option_and_then (uncancelled (key.Entry q g)) r) ≡ as_entry r
    entry-uncancelled q g (Some r) = refl
    entry-uncancelled q g None = refl

    message-uncancelled : (e n : ℕ) (r : Option Row) → as_message (option_and_then (uncancelled (key.Msg e n)) r) ≡ as_message r
    message-uncancelled e n (Some r) = refl
    message-uncancelled e n None = refl

    sourced-cancel : Sourced S o (cancel (is_cancelled x p h l) T)
    sourced-cancel = less (cancel (is_cancelled x p h l) T)
        (λ q g held e. sym (ap as_entry (row-change uncancelled T (key.Entry q g)) ∙ entry-uncancelled q g (row T (key.Entry q g))) ∙ e)
        (λ e n m at. sym (ap as_message (row-change uncancelled T (key.Msg e n)) ∙ message-uncancelled e n (row T (key.Msg e n))) ∙ at)

-- ---- several changes in one

module _ (S : State) (o : Place → Origin) where
  sourced-made : (T : State) → Sourced S o T → (c : Counters) (new : ObjectRow) → Sourced S o (make c new T)
  sourced-made T is c new =
      let U : State = put T (key.Object c.next_koid) (Some (rows.Object new)) in
      sourced-counters S o U (sourced-object S o T is c.next_koid new) (record c { next_koid = c.next_koid + 1 })

  sourced-paired : (T : State) → Sourced S o T → (c : Counters) (made : Kind) → Sourced S o (make_pair c made T)
  sourced-paired T is c made =
      let k : ℕ = c.next_koid in
      let U : State = put T (key.Object k) (Some (rows.Object (fresh made (k + 1)))) in
      let V : State = put U (key.Object (k + 1)) (Some (rows.Object (fresh made k))) in
      sourced-counters S o V (sourced-object S o U (sourced-object S o T is k (fresh made (k + 1))) (k + 1) (fresh made k)) (record c { next_koid = k + 2 })

  sourced-install : (T : State) → Sourced S o T → (q : ℕ) (me : ObjectRow) (held : Held) → IsFrom S held (place.Entry q (value_of me.next)) (o (place.Entry q (value_of me.next))) → Sourced S o (install q me held T)
  sourced-install T is q me held from =
      let U : State = put T (key.Entry q (value_of me.next)) (Some (rows.Entry held)) in
      sourced-object S o U (sourced-entry S o T is q (value_of me.next) held from) q (raised me)

  sourced-install_all : (all : List Held) (T : State) → Sourced S o T → (q : ℕ) (me : ObjectRow) → ((i : ℕ) (held : Held) → slice_get all i ≡ Some held → IsFrom S held (place.Entry q (value_of (me.next + i))) (o (place.Entry q (value_of (me.next + i))))) → Sourced S o (install_all q me all T)
  sourced-install_all [] T is q me from = is
  sourced-install_all (held ∷ rest) T is q me from =
      let here : me.next + 0 ≡ me.next = omega arith in
      sourced-install_all rest (install q me held T) (sourced-install T is q me held (subst (λ n. IsFrom S held (place.Entry q (value_of n)) (o (place.Entry q (value_of n)))) here (from 0 held refl))) q (raised me)
      (λ i other at.
      let next : me.next + suc i ≡ me.next + 1 + i = omega arith in
      subst (λ n. IsFrom S other (place.Entry q (value_of n)) (o (place.Entry q (value_of n)))) next (from (suc i) other at))

  sourced-push_packet : (T : State) → Sourced S o T → (x : ℕ) (port : ObjectRow) (k : Packet) → Sourced S o (push_packet x port k T)
  sourced-push_packet T is x port k =
      let U : State = put T (key.Packet x port.next) (Some (rows.Packet k)) in
      sourced-object S o U (sourced-packet S o T is x port.next (Some (rows.Packet k))) x (raised port)

-- ---- what is sent

at-place : (S : State) (p g : ℕ) (later : List ℕ) (one : Held) (rest : List Held) → entry S p g ≡ Some one → ((k : ℕ) (held : Held) → slice_get rest k ≡ Some held → (y : ℕ) × (slice_get later k ≡ Some y) × (entry S p y ≡ Some held)) → (i : ℕ) (held : Held) → slice_get (one ∷ rest) i ≡ Some held → (y : ℕ) × (slice_get (g ∷ later) i ≡ Some y) × (entry S p y ≡ Some held)
at-place S p g later one rest here others zero held at = (g, refl, here ∙ at)
at-place S p g later one rest here others (suc k) held at = others k held at

-- a handle of the message is what the caller held by the value at its place
pub sent-at : (S : State) (p h : ℕ) (earlier values : List ℕ) (all : List Held) → sent S p h earlier values ≡ Ok all → (i : ℕ) (held : Held) → slice_get all i ≡ Some held → (g : ℕ) × (slice_get values i ≡ Some g) × (entry S p g ≡ Some held)
sent-at S p h earlier [] all e i held at =
    let none : [] ≡ all = cc in
    let no : slice_get {X = Held} [] i ≡ Some held = ap (λ l. slice_get l i) none ∙ at in
    cc
sent-at S p h earlier (g ∷ later) all e i held at =
    let one = bound (ok_or (entry S p g) status.BadHandle) _ all e in
    let two = bound (check (not (among earlier g)) status.BadHandle) _ all one.2 in
    let three = bound (check (not (g == h)) status.NotSupported) _ all two.2 in
    let four = bound (check (has_all one.0.rights.0 0x2) status.AccessDenied) _ all three.2 in
    let five = bound (sent S p h (g ∷ earlier) later) (λ others. Ok (one.0 ∷ others)) all four.2 in
    let here : entry S p g ≡ Some one.0 = found (entry S p g) status.BadHandle one.0 one.1 in
    let is : (one.0 ∷ five.0) ≡ all = cc in
    at-place S p g later one.0 five.0 here (sent-at S p h (g ∷ earlier) later five.0 five.1) i held (ap (λ l. slice_get l i) is ∙ at)

-- ---- the calls of one process

module _ (S : State) (sound : IsSound S) (p : ℕ) (live : has_live_process S p ≡ true) where
  same-next : next_at S p ≡ (caller S p).next
  same-next = let w = caller-is S p live in ap object_next w.1 ∙ sym (ap (λ (o : ObjectRow). o.next) w.3)

  -- no entry lies yet at a value that the caller is still to receive
  free-value : (k : ℕ) → (caller S p).next ≤ k → entry S p (value_of k) ≡ None
  free-value k later = elim (entry S p (value_of k)) as (λ r. entry S p (value_of k) ≡ r → r ≡ None) [
    | None ↦ λ e. refl
    | Some held ↦ λ e.
        let s : SoundEntry S p (value_of k) held = sound.of_entries p (value_of k) held e in
        let same : value_of k ≡ 4 * s.value.0 + 3 = s.value.1 in
        let low : s.value.0 < next_at S p = s.value.2 in
        absurd (omega (arith, same-next))
  ] refl

  no-process : (x : ℕ) → next_koid S ≤ x → has_live_process S x ≡ true → ⊥
  no-process x above e =
      let w = has_live_process-some S x e in
      let low : x < next_koid S = (sound.of_objects x w.0 w.1).high in
      omega arith

  -- no entry lies yet in the table of a process that is still to be made
  free-table : (x h : ℕ) → next_koid S ≤ x → entry S x h ≡ None
  free-table x h above = elim (entry S x h) as (λ r. entry S x h ≡ r → r ≡ None) [
    | None ↦ λ e. refl
    | Some held ↦ λ e. absurd (no-process x above (sound.of_entries x h held e).owner)
  ] refl

  -- no message lies yet at the next number of an endpoint
  free-number : (x : ℕ) (o : ObjectRow) → object S x ≡ Some o → message S x o.next ≡ None
  free-number x o there = elim (message S x o.next) as (λ r. message S x o.next ≡ r → r ≡ None) [
    | None ↦ λ e. refl
    | Some m ↦ λ e.
        let less : o.next < next_at S x = (sound.of_messages x o.next m e).number in
        let same : next_at S x ≡ o.next = ap object_next there in
        absurd (omega arith)
  ] refl

  module _ (c : Call) where
    begun : Sourced S (origin S p c) S
    begun = sourced-itself S p c

    -- ---- making objects

    from-made : (k : ℕ) → (caller S p).next ≤ k → filled_by S p c (place.Entry p (value_of k)) ≡ Made → (held : Held) → next_koid S ≤ held.koid → IsFrom S held (place.Entry p (value_of k)) (origin S p c (place.Entry p (value_of k)))
    from-made k later made held above =
        filled S p c (place.Entry p (value_of k)) held (free-value k later) (subst (λ z. IsFrom S held (place.Entry p (value_of k)) z) (sym made) above)

    sourced-create : (made : Kind) → filled_by S p c (place.Entry p (value_of (caller S p).next)) ≡ Made → Sourced S (origin S p c) (create made S p).0
    sourced-create made by =
        let T : State = make (counters S) (fresh made 0) S in
        sourced-install S (origin S p c) T (sourced-made S (origin S p c) S begun (counters S) (fresh made 0)) p (caller S p) (whole (next_koid S) made)
        (from-made (caller S p).next (omega arith) by (whole (next_koid S) made) (omega arith))

    sourced-create_pair : (made : Kind) → ((q g : ℕ) → filled_by S p c (place.Entry q g) ≡ Made) → Sourced S (origin S p c) (create_pair made S p).0
    sourced-create_pair made by =
        let k : ℕ = next_koid S in
        let me : ObjectRow = caller S p in
        let T : State = make_pair (counters S) made S in
        let U : State = install p me (whole k made) T in
        let one : Sourced S (origin S p c) U = sourced-install S (origin S p c) T (sourced-paired S (origin S p c) S begun (counters S) made) p me (whole k made)
        (from-made me.next (omega arith) (by p (value_of me.next)) (whole k made) (omega arith)) in
        sourced-install S (origin S p c) U one p (raised me) (whole (k + 1) made) (from-made (me.next + 1) (omega arith) (by p (value_of (me.next + 1))) (whole (k + 1) made) (omega arith))

  -- ---- handles

  sourced-handle_close : (h : ℕ) → Sourced S (origin S p (call.HandleClose h)) (handle_close S p h).0
  sourced-handle_close h =
      let o : Place → Origin = origin S p (call.HandleClose h) in
      elim (h == 0) as (λ b. Sourced S o (answered S (if b then Ok (S, done) else (ok_or (entry S p h) status.BadHandle >>= (λ _. Ok (take_out S p h, done))))).0) [
        | true ↦ begun (call.HandleClose h)
        | false ↦ after_some (Sourced S o) S (entry S p h) status.BadHandle _ (begun (call.HandleClose h)) (λ held e. sourced-taken S o S (begun (call.HandleClose h)) p (λ g. g == h))
      ]

  -- the caller receives what its handle held, with fewer rights or as many
  sourced-received : (c : Call) (h rights : ℕ) (T : State) → Sourced S (origin S p c) T → (held : Held) → entry S p h ≡ Some held → has_all held.rights.0 rights ≡ true → filled_by S p c (place.Entry p (value_of (caller S p).next)) ≡ From (place.Entry p h) → Sourced S (origin S p c) (received rights S p held T).0
  sourced-received c h rights T is held there within by =
      let given : Held = record held { rights = record { 0 = rights } } in
      let at : Place = place.Entry p (value_of (caller S p).next) in
      sourced-install S (origin S p c) T is p (caller S p) given
      (filled S p c at given (free-value (caller S p).next (omega arith))
      (subst (λ z. IsFrom S given at z) (sym by) (held, there, record { object = refl; rights = within })))

  sourced-handle_duplicate : (h : ℕ) (c : Call) (mask : ℕ) → ((q g : ℕ) → filled_by S p c (place.Entry q g) ≡ From (place.Entry p h)) → Sourced S (origin S p c) (handle_duplicate S p h mask).0
  sourced-handle_duplicate h c mask by =
      let o : Place → Origin = origin S p c in
      after_handle (Sourced S o) S status.WrongType p h any_kind 0x1 _ (begun c) (λ held one found.
      after_some (Sourced S o) S (asked_rights mask held.rights.0) status.InvalidArgs _ (begun c) (λ rights e.
      sourced-received c h rights S (begun c) held found.entry_there (asked-given mask held.rights.0 rights e) (by p (value_of (caller S p).next))))

  sourced-handle_replace : (h : ℕ) (c : Call) (mask : ℕ) → ((q g : ℕ) → filled_by S p c (place.Entry q g) ≡ From (place.Entry p h)) → Sourced S (origin S p c) (handle_replace S p h mask).0
  sourced-handle_replace h c mask by =
      let o : Place → Origin = origin S p c in
      let rest : Sourced S o (take_out S p h) = sourced-taken S o S (begun c) p (λ g. g == h) in
      after_some (Sourced S o) S (entry S p h) status.BadHandle _ (begun c) (λ held there.
      after_some (Sourced S o) (take_out S p h) (asked_rights mask held.rights.0) status.InvalidArgs _ rest (λ rights e.
      sourced-received c h rights (take_out S p h) rest held there (asked-given mask held.rights.0 rights e) (by p (value_of (caller S p).next))))

  -- ---- signals

  sourced-object_signal : (c : Call) (h clear set : ℕ) → Sourced S (origin S p c) (object_signal S p h clear set).0
  sourced-object_signal c h clear set =
      let o : Place → Origin = origin S p c in
      after_handle (Sourced S o) S status.WrongType p h any_kind 0x1000 _ (begun c) (λ held one found.
      after_check (Sourced S o) S (may_set one.kind clear set) status.InvalidArgs _ (begun c) (λ settable.
      sourced-object S o S (begun c) held.koid (record one { signals = record { 0 = bit_or (without_bits one.signals.0 clear) set } })))

  sourced-object_signal_peer : (c : Call) (h clear set : ℕ) → Sourced S (origin S p c) (object_signal_peer S p h clear set).0
  sourced-object_signal_peer c h clear set =
      let o : Place → Origin = origin S p c in
      after_handle (Sourced S o) S status.NotSupported p h is_endpoint 0x2000 _ (begun c) (λ held one found.
      after_check (Sourced S o) S (may_set one.kind clear set) status.InvalidArgs _ (begun c) (λ settable.
      after_some (Sourced S o) S (object S one.link) status.PeerClosed _ (begun c) (λ peer there.
      sourced-object S o S (begun c) one.link (record peer { signals = record { 0 = bit_or (without_bits peer.signals.0 clear) set } }))))

  -- ---- channels

  sourced-channel_write : (h : ℕ) (c : Call) (bytes values : List ℕ) → ((e n i : ℕ) → filled_by S p c (place.Message e n i) ≡ from_value p (slice_get values i)) → Sourced S (origin S p c) (channel_write S p h bytes values).0
  sourced-channel_write h c bytes values by =
      let o : Place → Origin = origin S p c in
      let T : State = take_out_all S p (among values) in
      let base : Sourced S o T = sourced-taken S o S (begun c) p (among values) in
      after_handle_of (Sourced S o) S T status.WrongType p h is_channel 0x8 _ base (λ held one found.
      after_result (Sourced S o) T (sent S p h [] values) _ base (λ all e.
      after_some (Sourced S o) T (object S one.link) status.PeerClosed _ base (λ peer there.
      let m : MessageContent = record { bytes = bytes; handles = all } in
      let at : ℕ → Place = (λ i. place.Message one.link peer.next i) in
      let free : (i : ℕ) → held_at S (at i) ≡ None = (λ i. ap (λ r. handle_in r i) (free-number one.link peer there)) in
      let put_there : Sourced S o (put T (key.Msg one.link peer.next) (Some (rows.Msg m))) = sourced-message S o T base one.link peer.next (Some m) (λ other is i given g.
      let w = sent-at S p h [] values all e i given (ap (λ (z : MessageContent). slice_get z.handles i) (some_one m other is) ∙ g) in
      filled S p c (at i) given (free i) (subst (λ z. IsFrom S given (at i) z) (sym (by one.link peer.next i))
      (subst (λ r. IsFrom S given (at i) (from_value p r)) (sym w.1) (given, w.2, gives-itself given)))) in
      sourced-object S o (put T (key.Msg one.link peer.next) (Some (rows.Msg m))) put_there one.link (raised peer))))

  -- the i-th handle that the caller receives has this value
  pub received-at : (i : ℕ) → received_as S p (value_of ((caller S p).next + i)) ≡ i
  received-at i = let n : ℕ = (caller S p).next in omega arith

  sourced-channel_read : (h : ℕ) (c : Call) (bytes handles : ℕ) (discard : Bool) → ((q g : ℕ) → filled_by S p c (place.Entry q g) ≡ from_queue S (received_as S p g) (entry S p h)) → Sourced S (origin S p c) (channel_read S p h bytes handles discard).0
  sourced-channel_read h c bytes handles discard by =
      let o : Place → Origin = origin S p c in
      after_handle (Sourced S o) S status.WrongType p h is_channel 0x4 _ (begun c) (λ held one found.
      after_some (Sourced S o) S (first (queue S held.koid)) (if one.link == 0 then status.PeerClosed else status.ShouldWait) _ (begun c) (λ w e.
      let there : message S held.koid w.0 ≡ Some w.1 = first-message S held.koid w.0 w.1 e in
      let gone : Sourced S o (put S (key.Msg held.koid w.0) None) = sourced-gone S o S (begun c) held.koid w.0 in
      let value : ℕ → ℕ = (λ i. value_of ((caller S p).next + i)) in
      let from : (i : ℕ) (given : Held) → slice_get w.1.handles i ≡ Some given → IsFrom S given (place.Entry p (value i)) (o (place.Entry p (value i))) = (λ i given at.
      let is : filled_by S p c (place.Entry p (value i)) ≡ From (place.Message held.koid w.0 i) =
      by p (value i) ∙ ap (λ r. from_queue S (received_as S p (value i)) r) found.entry_there
      ∙ ap (λ r. from_first held.koid (received_as S p (value i)) r) e
      ∙ ap (λ j. From (place.Message held.koid w.0 j)) (received-at i) in
      filled S p c (place.Entry p (value i)) given (free-value ((caller S p).next + i) (omega arith))
      (subst (λ z. IsFrom S given (place.Entry p (value i)) z) (sym is) (given, ap (λ r. handle_in r i) there ∙ at, gives-itself given))) in
      elim (has_room_for bytes handles w.1) as (λ b. Sourced S o (answered S (Ok (if b then take_message S p held.koid w.0 w.1 else refuse_message S held.koid w.0 w.1 discard))).0) [
        | true ↦ sourced-install_all S o w.1.handles (put S (key.Msg held.koid w.0) None) gone p (caller S p) from
        | false ↦ elim discard as (λ b. Sourced S o (answered S (Ok (refuse_message S held.koid w.0 w.1 b))).0) [
          | true ↦ gone
          | false ↦ begun c
        ]
      ]))

  -- ---- ports

  sourced-object_wait_async : (c : Call) (h port packet_key signals : ℕ) (edge : Bool) → Sourced S (origin S p c) (object_wait_async S p h port packet_key signals edge).0
  sourced-object_wait_async c h port packet_key signals edge =
      let o : Place → Origin = origin S p c in
      after_handle (Sourced S o) S status.WrongType p h any_kind 0x4000 _ (begun c) (λ source seen named.
      after_handle (Sourced S o) S status.WrongType p port is_port 0x8 _ (begun c) (λ held one found.
      let w : Wait = record { process = p; handle = h; port = held.koid; key = packet_key; signals = record { 0 = signals }; edge = edge } in
      let T : State = put S (key.Wait (counters S).next_wait) (Some (rows.Wait w)) in
      sourced-counters S o T (sourced-wait S o S (begun c) (counters S).next_wait (Some (rows.Wait w))) (record (counters S) { next_wait = (counters S).next_wait + 1 })))

  sourced-port_queue : (c : Call) (port packet_key : ℕ) (bytes : List ℕ) → Sourced S (origin S p c) (port_queue S p port packet_key bytes).0
  sourced-port_queue c port packet_key bytes =
      let o : Place → Origin = origin S p c in
      after_handle (Sourced S o) S status.WrongType p port is_port 0x8 _ (begun c) (λ held one found.
      after_check (Sourced S o) S (nat_lt (pending S held.koid) most_pending) status.ShouldWait _ (begun c) (λ few.
      sourced-push_packet S o S (begun c) held.koid one (packet.User packet_key bytes)))

  sourced-port_wait : (c : Call) (port : ℕ) → Sourced S (origin S p c) (port_wait S p port).0
  sourced-port_wait c port =
      let o : Place → Origin = origin S p c in
      after_handle (Sourced S o) S status.WrongType p port is_port 0x4 _ (begun c) (λ held one found.
      after_some (Sourced S o) S (first (packets S held.koid)) status.TimedOut _ (begun c) (λ parcel e.
      sourced-packet S o S (begun c) held.koid parcel.0 None))

  sourced-port_cancel : (c : Call) (port source packet_key : ℕ) → Sourced S (origin S p c) (port_cancel S p port source packet_key).0
  sourced-port_cancel c port source packet_key =
      let o : Place → Origin = origin S p c in
      after_handle (Sourced S o) S status.WrongType p port is_port 0x8 _ (begun c) (λ held one found.
      after_handle (Sourced S o) S status.WrongType p source any_kind 0x4000 _ (begun c) (λ named seen there.
      after_check (Sourced S o) S (any_row (is_cancelled held.koid p source packet_key) S) status.NotFound _ (begun c) (λ some.
      sourced-cancel S o S (begun c) held.koid p source packet_key)))

  -- ---- jobs and processes

  sourced-job_create : (c : Call) (h : ℕ) → ((q g : ℕ) → filled_by S p c (place.Entry q g) ≡ Made) → Sourced S (origin S p c) (job_create S p h).0
  sourced-job_create c h by =
      let o : Place → Origin = origin S p c in
      after_handle (Sourced S o) S status.WrongType p h is_job 0x10000 _ (begun c) (λ held job found.
      after_check (Sourced S o) S (is_live job.life) status.BadState _ (begun c) (λ lives.
      after_check (Sourced S o) S (nat_lt (depth S held.koid) most_depth) status.OutOfRange _ (begun c) (λ shallow.
      let T : State = make (counters S) (fresh kind.Job held.koid) S in
      sourced-install S o T (sourced-made S o S (begun c) (counters S) (fresh kind.Job held.koid)) p (caller S p) (whole (next_koid S) kind.Job)
      (from-made c (caller S p).next (omega arith) (by p (value_of (caller S p).next)) (whole (next_koid S) kind.Job) (omega arith)))))

  after_argument : (P : State → Type 0) (arg : ℕ) (f : Option Held → Result (State × Reply) Status) → P S → P (answered S (f None)).0 → ((held : Held) (o : ObjectRow) → Found S p arg any_kind 0x2 held o → P (answered S (f (Some held))).0) → P (answered S (argument S p arg >>= f)).0
  after_argument P arg f base none some =
      elim (arg == 0) as (λ b. P (answered S ((if b then Ok None else (handle S p arg any_kind 0x2 >>= (λ w. Ok (Some w.0)))) >>= f)).0) [
        | true ↦ none
        | false ↦ subst (λ r. P (answered S r).0) (sym (chained (handle S p arg any_kind 0x2) (λ w. Ok (Some w.0)) f)) (after_handle P S status.WrongType p arg any_kind 0x2 (λ w. Ok (Some w.0) >>= f) base some)
      ]

  -- what the caller receives is the process that it made
  pub spawned-made : (h arg : ℕ) → filled_by S p (call.Spawn h arg) (place.Entry p (value_of (caller S p).next)) ≡ Made
  spawned-made h arg = ap (λ b. if b then Made else From (place.Entry p arg)) (eq-eqb p p refl)

  -- what the process holds is what the caller gave
  spawned-given : (h arg g : ℕ) → filled_by S p (call.Spawn h arg) (place.Entry (next_koid S) g) ≡ From (place.Entry p arg)
  spawned-given h arg g = ap (λ b. if b then Made else From (place.Entry p arg)) (ne_eqb (next_koid S) p (λ same. no-process (next_koid S) (omega arith) (ap (has_live_process S) same ∙ live)))

  sourced-spawn : (h arg : ℕ) → Sourced S (origin S p (call.Spawn h arg)) (spawn S p h arg).0
  sourced-spawn h arg =
      let c : Call = call.Spawn h arg in
      let o : Place → Origin = origin S p c in
      let x : ℕ = next_koid S in
      let made : IsFrom S (whole x kind.Process) (place.Entry p (value_of (caller S p).next)) (o (place.Entry p (value_of (caller S p).next))) =
      from-made c (caller S p).next (omega arith) (spawned-made h arg) (whole x kind.Process) (omega arith) in
      after_handle (Sourced S o) S status.WrongType p h is_job 0x20000 _ (begun c) (λ held job found.
      after_argument (Sourced S o) arg _ (begun c)
      (after_check (Sourced S o) S (is_live job.life) status.BadState _ (begun c) (λ lives.
      let T : State = make (counters S) (child None held.koid) S in
      sourced-install S o T (sourced-made S o S (begun c) (counters S) (child None held.koid)) p (caller S p) (whole x kind.Process) made))
      (λ given one handed. after_check (Sourced S o) S (is_live job.life) status.BadState _ (begun c) (λ lives.
      let R : State = take_out S p arg in
      let T : State = make (counters S) (child (Some given) held.koid) R in
      let d : Sourced S o T = sourced-made S o R (sourced-taken S o S (begun c) p (λ g. g == arg)) (counters S) (child (Some given) held.koid) in
      let U : State = hand_over (Some given) x T in
      let e : Sourced S o U = sourced-entry S o T d x (value_of 0) given
      (filled S p c (place.Entry x (value_of 0)) given (free-table x (value_of 0) (omega arith))
      (subst (λ z. IsFrom S given (place.Entry x (value_of 0)) z) (sym (spawned-given h arg (value_of 0))) (given, handed.entry_there, gives-itself given))) in
      sourced-install S o U e p (caller S p) (whole x kind.Process) made)))

  sourced-job_set_critical : (c : Call) (job process : ℕ) → Sourced S (origin S p c) (job_set_critical S p job process).0
  sourced-job_set_critical c job process =
      let o : Place → Origin = origin S p c in
      after_handle (Sourced S o) S status.WrongType p job is_job 0x200 _ (begun c) (λ over q named.
      after_handle (Sourced S o) S status.WrongType p process is_process 0x4000 _ (begun c) (λ held one found.
      after_check (Sourced S o) S (one.critical == 0) status.AlreadyBound _ (begun c) (λ free.
      after_check (Sourced S o) S (is_under S over.koid held.koid) status.InvalidArgs _ (begun c) (λ under.
      sourced-object S o S (begun c) held.koid (record one { critical = over.koid })))))

  sourced-task_kill : (c : Call) (h : ℕ) → Sourced S (origin S p c) (task_kill S p h).0
  sourced-task_kill c h =
      let o : Place → Origin = origin S p c in
      after_handle (Sourced S o) S status.WrongType p h is_task 0x200 _ (begun c) (λ held task found.
      elim (is_live task.life) as (λ b. Sourced S o (if b then end S (ends_with S held.koid) life.Killed else S)) [
        | true ↦ sourced-end S o S (begun c) (ends_with S held.koid) life.Killed
        | false ↦ begun c
      ])

  sourced-process_exit : (c : Call) (code : ℤ) → Sourced S (origin S p c) (process_exit S p code).0
  sourced-process_exit c code =
      let o : Place → Origin = origin S p c in
      let T : State = end S (λ x. x == p) (life.Exited code) in
      sourced-end S o T (sourced-end S o S (begun c) (λ x. x == p) (life.Exited code)) (others S p) life.Killed

  -- every call
  sourced-call : (c : Call) → Sourced S (origin S p c) (direct S p c).0
  unfolding direct
  sourced-call call.EventCreate = sourced-create call.EventCreate kind.Event refl
  sourced-call call.EventPairCreate = sourced-create_pair call.EventPairCreate kind.EventPair (λ q g. refl)
  sourced-call (call.HandleClose h) = sourced-handle_close h
  sourced-call (call.HandleDuplicate h rights) = sourced-handle_duplicate h (call.HandleDuplicate h rights) rights (λ q g. refl)
  sourced-call (call.HandleReplace h rights) = sourced-handle_replace h (call.HandleReplace h rights) rights (λ q g. refl)
  sourced-call (call.ObjectSignal h clear set) = sourced-object_signal (call.ObjectSignal h clear set) h clear.0 set.0
  sourced-call (call.ObjectSignalPeer h clear set) = sourced-object_signal_peer (call.ObjectSignalPeer h clear set) h clear.0 set.0
  sourced-call call.ChannelCreate = sourced-create_pair call.ChannelCreate kind.Channel (λ q g. refl)
  sourced-call (call.ChannelWrite h parcel) = sourced-channel_write h (call.ChannelWrite h parcel) parcel.bytes parcel.handles (λ e n i. refl)
  sourced-call (call.ChannelRead h bytes handles discard) = sourced-channel_read h (call.ChannelRead h bytes handles discard) bytes handles discard (λ q g. refl)
  sourced-call call.PortCreate = sourced-create call.PortCreate kind.Port refl
  sourced-call (call.ObjectWaitAsync h port packet_key signals edge) = sourced-object_wait_async (call.ObjectWaitAsync h port packet_key signals edge) h port packet_key signals.0 edge
  sourced-call (call.PortQueue port packet_key bytes) = sourced-port_queue (call.PortQueue port packet_key bytes) port packet_key bytes
  sourced-call (call.PortWait port) = sourced-port_wait (call.PortWait port) port
  sourced-call (call.PortCancel port source packet_key) = sourced-port_cancel (call.PortCancel port source packet_key) port source packet_key
  sourced-call (call.JobCreate job) = sourced-job_create (call.JobCreate job) job (λ q g. refl)
  sourced-call (call.Spawn job arg) = sourced-spawn job arg
  sourced-call (call.JobSetCritical job process) = sourced-job_set_critical (call.JobSetCritical job process) job process
  sourced-call (call.TaskKill h) = sourced-task_kill (call.TaskKill h) h
  sourced-call (call.ProcessExit code) = sourced-process_exit (call.ProcessExit code) code

-- ---- what follows the direct change takes handles away and gives none

module _ (S D : State) (o : Place → Origin) (sound : IsSound D) (is : Sourced S o D) where
  sourced-completed : Sourced S o (settle S (collect D))
  sourced-completed =
      let w = collect-set D in
      let f : Framed (collect D) (settle S (collect D)) = framed-settle S (collect D) (sound-collect D sound) in
      less S o D is (settle S (collect D))
      (λ q h held e. sym (ap (λ T. entry T q h) w.1 ∙ entry-without w.0 D q h) ∙ (sym (f.of_entries q h) ∙ e))
      (λ e n m at. (message-stayed w.0 D e n m (sym (ap (λ T. message T e n) w.1) ∙ (sym (f.of_messages e n) ∙ at))).1)

held-from : (S T : State) (o : Place → Origin) → Sourced S o T → (at : Place) (held : Held) → held_at T at ≡ Some held → IsFrom S held at (o at)
held-from S T o is (place.Entry q h) held e = is.entries q h held e
held-from S T o is (place.Message e n i) held g =
    elim (message T e n) as (λ r. message T e n ≡ r → handle_in r i ≡ Some held → IsFrom S held (place.Message e n i) (o (place.Message e n i))) [
      | None ↦ λ t h. cc
      | Some m ↦ λ t h. is.messages e n m t i held h
    ] refl g

pub origin_step : (S : State) (p : ℕ) (c : Call) (at : Place) (held : Held) → IsConsistent S → has_live_process S p ≡ true → IsCall c → held_at (step S p c).0 at ≡ Some held → IsFrom S held at (origin S p c at)
unfolding step
origin_step S p c at held consistent live is e =
    let sound : IsSound S = consistent.sound in
    held-from S (step S p c).0 (origin S p c) (sourced-completed S (direct S p c).0 (origin S p c) (sound-direct S p c sound live is) (sourced-call S sound p live c)) at held e
