-- The calls on ports leave a sound state sound, and give out no more than a call gives.
use Rattle.std.proofs.Common.{ℕ, Bool, List, ap, ◌∙◌, arith}
use Rattle.std.specs.Prelude.{None, Some, nat_lt}
use Rattle.std.specs.Option.{option_map}
use Rattle.std.proofs.lemmas.Bool.{ltb-true}
use Rattle.zt_bits.specs.declared.statuses.Status.TheVariants as status
use Rattle.zt_rows.specs.declared.keys.RowKey.TheVariants as key
use Rattle.zt_rows.specs.declared.rows.ObjectRow.{ObjectRow}
use Rattle.zt_rows.specs.declared.rows.Packet.TheVariants as packet
use Rattle.zt_rows.specs.declared.rows.Wait.{Wait}
use Rattle.zt_rows.specs.State.{State, put}
use Rattle.zt_rows.specs.Reads.{counters, packets}
use Rattle.zt_rows.specs.Tests.{any_kind, is_port, first, any_row}
use Rattle.zt_rows.specs.Settle.{push_packet}
use Rattle.zt_rows.specs.PortCalls.{add_wait, object_wait_async, pending, most_pending, port_queue, port_wait, is_cancelled, cancel, port_cancel}
use Rattle.zt_rows.specs.Consistent.{IsSound}
use Rattle.zt_rows.proofs.StepLaws.{after_check, after_some, after_handle}
use Rattle.zt_rows.proofs.GivenLaws.{Called, spends-called, called-nothing}
use Rattle.zt_rows.proofs.PortLaws.{is_port-is, sound-add_wait, spends-add_wait, sound-push_packet, spends-push_packet, sound-unpack, spends-unpack, sound-cancel, spends-cancel}

-- ---- waits

-- the wait that a call makes
abbrev waiting_for : ℕ → ℕ → ℕ → ℕ → ℕ → Bool → Wait
waiting_for p h x packet_key signals edge = record { process = p; handle = h; port = x; key = packet_key; signals = record { 0 = signals }; edge = edge }

pub sound-object_wait_async : (S : State) (p h port packet_key signals : ℕ) (edge : Bool) → IsSound S → IsSound (object_wait_async S p h port packet_key signals edge).0
sound-object_wait_async S p h port packet_key signals edge sound =
    after_handle IsSound S status.WrongType p h any_kind 0x4000 _ sound (λ source seen named.
    after_handle IsSound S status.WrongType p port is_port 0x8 _ sound (λ held o found.
    sound-add_wait S (waiting_for p h held.koid packet_key signals edge) sound source named.entry_there (ap (option_map (λ (q : ObjectRow). q.kind)) found.object_there ∙ ap Some (is_port-is o.kind found.of_kind))))

pub called-object_wait_async : (S : State) (p h port packet_key signals : ℕ) (edge : Bool) → Called S (object_wait_async S p h port packet_key signals edge).0
called-object_wait_async S p h port packet_key signals edge =
    after_handle (Called S) S status.WrongType p h any_kind 0x4000 _ (called-nothing S) (λ source seen named.
    after_handle (Called S) S status.WrongType p port is_port 0x8 _ (called-nothing S) (λ held o found.
    let w : Wait = waiting_for p h held.koid packet_key signals edge in
    spends-called 0 0 1 S (add_wait (counters S) w S) (omega arith) (omega arith) (omega arith) (spends-add_wait S w)))

-- ---- packets of users

pub sound-port_queue : (S : State) (p port packet_key : ℕ) (bytes : List ℕ) → IsSound S → IsSound (port_queue S p port packet_key bytes).0
sound-port_queue S p port packet_key bytes sound =
    after_handle IsSound S status.WrongType p port is_port 0x8 _ sound (λ held o found.
    after_check IsSound S (nat_lt (pending S held.koid) most_pending) status.ShouldWait _ sound (λ few.
    sound-push_packet S sound held.koid o found.object_there (is_port-is o.kind found.of_kind) (packet.User packet_key bytes) (ltb-true (pending S held.koid) most_pending few)))

pub called-port_queue : (S : State) (p port packet_key : ℕ) (bytes : List ℕ) → Called S (port_queue S p port packet_key bytes).0
called-port_queue S p port packet_key bytes =
    after_handle (Called S) S status.WrongType p port is_port 0x8 _ (called-nothing S) (λ held o found.
    after_check (Called S) S (nat_lt (pending S held.koid) most_pending) status.ShouldWait _ (called-nothing S) (λ few.
    spends-called 0 0 1 S (push_packet held.koid o (packet.User packet_key bytes) S) (omega arith) (omega arith) (omega arith)
    (spends-push_packet S held.koid o found.object_there (is_port-is o.kind found.of_kind) (packet.User packet_key bytes))))

pub sound-port_wait : (S : State) (p port : ℕ) → IsSound S → IsSound (port_wait S p port).0
sound-port_wait S p port sound =
    after_handle IsSound S status.WrongType p port is_port 0x4 _ sound (λ held o found.
    after_some IsSound S (first (packets S held.koid)) status.TimedOut _ sound (λ parcel e.
    sound-unpack S sound held.koid parcel.0))

pub called-port_wait : (S : State) (p port : ℕ) → Called S (port_wait S p port).0
called-port_wait S p port =
    after_handle (Called S) S status.WrongType p port is_port 0x4 _ (called-nothing S) (λ held o found.
    after_some (Called S) S (first (packets S held.koid)) status.TimedOut _ (called-nothing S) (λ parcel e.
    spends-called 0 0 0 S (put S (key.Packet held.koid parcel.0) None) (omega arith) (omega arith) (omega arith) (spends-unpack S held.koid parcel.0)))

-- ---- cancelling

pub sound-port_cancel : (S : State) (p port source packet_key : ℕ) → IsSound S → IsSound (port_cancel S p port source packet_key).0
sound-port_cancel S p port source packet_key sound =
    after_handle IsSound S status.WrongType p port is_port 0x8 _ sound (λ held o found.
    after_handle IsSound S status.WrongType p source any_kind 0x4000 _ sound (λ named seen there.
    after_check IsSound S (any_row (is_cancelled held.koid p source packet_key) S) status.NotFound _ sound (λ some.
    sound-cancel held.koid p source packet_key S sound)))

pub called-port_cancel : (S : State) (p port source packet_key : ℕ) → Called S (port_cancel S p port source packet_key).0
called-port_cancel S p port source packet_key =
    after_handle (Called S) S status.WrongType p port is_port 0x8 _ (called-nothing S) (λ held o found.
    after_handle (Called S) S status.WrongType p source any_kind 0x4000 _ (called-nothing S) (λ named seen there.
    after_check (Called S) S (any_row (is_cancelled held.koid p source packet_key) S) status.NotFound _ (called-nothing S) (λ some.
    spends-called 0 0 0 S (cancel (is_cancelled held.koid p source packet_key) S) (omega arith) (omega arith) (omega arith) (spends-cancel held.koid p source packet_key S))))
