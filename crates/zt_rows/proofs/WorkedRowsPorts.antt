-- Worked rows on ports, packets and waits: each holds by computation.
use Rattle.std.proofs.Common.{true, refl}
use Rattle.std.specs.Prelude.{◌≡◌, ℕ, false, pos, List, [], ◌∷◌, Some}
use Rattle.zt_bits.specs.declared.statuses.Status.TheVariants.{BadHandle, WrongType, AccessDenied, TimedOut, NotFound}
use Rattle.zt_rows.specs.declared.calls.Reply.TheVariants.{Handle, Handles, Spawned, Message, Packet}
use Rattle.zt_rows.specs.declared.keys.RowKey.TheVariants as key
use Rattle.zt_rows.specs.declared.rows.Packet.TheVariants as packet
use Rattle.zt_rows.specs.declared.rows.Row.TheVariants as rows
use Rattle.zt_rows.specs.Handles.{done}
use Rattle.zt_rows.proofs.WorkedRowsForm.{Asked, EventCreate, PortCreate, ChannelCreate, HandleClose, HandleDuplicate, ChannelWrite, ChannelRead, ObjectSignal, ObjectWaitAsync, ObjectWaitEdge, PortQueue, PortWait, PortCancel, Spawn, ProcessExit, ran, root, by_root, replies, row_after, then_one, failed}

-- ---- waits

-- two channels go in one call; their packets come in the order of the waits, not in that of the queue
pub packets_in_the_order_of_waits : replies (by_root (ChannelCreate ∷ ChannelCreate ∷ ChannelCreate ∷ PortCreate ∷ ObjectWaitAsync 7 31 1 0x4 ∷ ObjectWaitAsync 15 31 2 0x4 ∷ ChannelWrite 23 [] (19 ∷ 11 ∷ []) ∷ HandleClose 27 ∷ PortWait 31 ∷ PortWait 31 ∷ PortWait 31 ∷ []))
    ≡ Handles 7 11 ∷ Handles 15 19 ∷ Handles 23 27 ∷ Handle 31 ∷ done ∷ done ∷ done ∷ done ∷ Packet (packet.Signal 1 (record { 0 = 0x4 }) (record { 0 = 0x4 }) 1025 7) ∷ Packet (packet.Signal 2 (record { 0 = 0x4 }) (record { 0 = 0x4 }) 1025 15) ∷ failed TimedOut ∷ []
unfolding ran
packets_in_the_order_of_waits = refl

-- a wait for what stands already fires in its own call: its number is used, its row never seen
pub fired_at_once : then_one (by_root (EventCreate ∷ PortCreate ∷ ObjectSignal 7 0 0x8 ∷ [])) (root (ObjectWaitAsync 7 11 9 0x8))
    ≡ (done, key.Counters ∷ key.Object 1027 ∷ key.Packet 1027 0 ∷ [])
unfolding then_one
fired_at_once = refl

-- the bytes 0 to 31
abbrev pub thirty_two : List ℕ
thirty_two = 0 ∷ 1 ∷ 2 ∷ 3 ∷ 4 ∷ 5 ∷ 6 ∷ 7 ∷ 8 ∷ 9 ∷ 10 ∷ 11 ∷ 12 ∷ 13 ∷ 14 ∷ 15 ∷ 16 ∷ 17 ∷ 18 ∷ 19 ∷ 20 ∷ 21 ∷ 22 ∷ 23 ∷ 24 ∷ 25 ∷ 26 ∷ 27 ∷ 28 ∷ 29 ∷ 30 ∷ 31 ∷ []

pub cancel_and_queue : replies (by_root (EventCreate ∷ PortCreate ∷ ObjectSignal 7 0 0x8 ∷ ObjectWaitAsync 7 11 9 0x8 ∷ PortCancel 11 7 9 ∷ PortCancel 11 7 9 ∷ PortQueue 11 1 thirty_two ∷ PortWait 11 ∷ PortWait 11 ∷ []))
    ≡ Handle 7 ∷ Handle 11 ∷ done ∷ done ∷ done ∷ failed NotFound ∷ done ∷ Packet (packet.User 1 thirty_two) ∷ failed TimedOut ∷ []
unfolding ran
cancel_and_queue = refl

-- a wait fires once, and sees all signals of its object
pub fired : then_one (by_root (EventCreate ∷ PortCreate ∷ ObjectWaitAsync 7 11 1 0x8 ∷ [])) (root (ObjectSignal 7 0 0x01000008))
    ≡ (done, key.Object 1026 ∷ key.Object 1027 ∷ key.Packet 1027 0 ∷ key.Wait 0 ∷ [])
unfolding then_one
fired = refl

pub fires_once : replies (by_root (EventCreate ∷ PortCreate ∷ ObjectWaitAsync 7 11 1 0x8 ∷ ObjectSignal 7 0 0x01000008 ∷ ObjectSignal 7 0x8 0 ∷ ObjectSignal 7 0 0x8 ∷ PortWait 11 ∷ PortWait 11 ∷ []))
    ≡ Handle 7 ∷ Handle 11 ∷ done ∷ done ∷ done ∷ done ∷ Packet (packet.Signal 1 (record { 0 = 0x8 }) (record { 0 = 0x01000008 }) 1025 7) ∷ failed TimedOut ∷ []
unfolding ran
fires_once = refl

-- a wait for no signal never fires
pub waits_for_nothing : row_after (by_root (EventCreate ∷ PortCreate ∷ ObjectWaitAsync 7 11 1 0 ∷ ObjectSignal 7 0 0x8 ∷ [])) (key.Wait 0) ≡ Some (rows.Wait (record { process = 1025; handle = 7; port = 1027; key = 1; signals = record { 0 = 0 }; edge = false }))
unfolding row_after
waits_for_nothing = refl

-- a signal that comes and goes within one call is not seen
pub not_seen : then_one (by_root (EventCreate ∷ PortCreate ∷ ObjectWaitAsync 7 11 1 0x4 ∷ [])) (root (ObjectSignal 7 0x8 0x8))
    ≡ (done, key.Object 1026 ∷ [])
unfolding then_one
not_seen = refl

-- a wait on an edge passes by what stands when it is made, and what is cleared and set in one call; it fires once
pub wait_on_an_edge : replies (by_root (EventCreate ∷ PortCreate ∷ ObjectSignal 7 0 0x8 ∷ ObjectWaitEdge 7 11 4 0x8 ∷ PortWait 11 ∷ ObjectSignal 7 0x8 0x8 ∷ ObjectSignal 7 0x8 0 ∷ ObjectSignal 7 0 0x8 ∷ PortWait 11 ∷ PortWait 11 ∷ []))
    ≡ Handle 7 ∷ Handle 11 ∷ done ∷ done ∷ failed TimedOut ∷ done ∷ done ∷ done ∷ Packet (packet.Signal 4 (record { 0 = 0x8 }) (record { 0 = 0x8 }) 1025 7) ∷ failed TimedOut ∷ []
unfolding ran
wait_on_an_edge = refl

pub edge_not_met : row_after (by_root (EventCreate ∷ PortCreate ∷ ObjectSignal 7 0 0x8 ∷ ObjectWaitEdge 7 11 4 0x8 ∷ [])) (key.Wait 0) ≡ Some (rows.Wait (record { process = 1025; handle = 7; port = 1027; key = 4; signals = record { 0 = 0x8 }; edge = true }))
unfolding row_after
edge_not_met = refl

-- with a signal that stands and another that rises, it fires and tells of both
pub edge_beside_what_stands : replies (by_root (EventCreate ∷ PortCreate ∷ ObjectSignal 7 0 0x8 ∷ ObjectWaitEdge 7 11 4 0x01000008 ∷ ObjectSignal 7 0 0x01000000 ∷ PortWait 11 ∷ []))
    ≡ Handle 7 ∷ Handle 11 ∷ done ∷ done ∷ done ∷ Packet (packet.Signal 4 (record { 0 = 0x01000008 }) (record { 0 = 0x01000008 }) 1025 7) ∷ []
unfolding ran
edge_beside_what_stands = refl

-- waits go with the handle, when it is sent on, and with the port; packets stay
pub closed_with_its_wait : then_one (by_root (EventCreate ∷ PortCreate ∷ ObjectWaitAsync 7 11 1 0x8 ∷ [])) (root (HandleClose 7))
    ≡ (done, key.Object 1026 ∷ key.Entry 1025 7 ∷ key.Wait 0 ∷ [])
unfolding then_one
closed_with_its_wait = refl

pub port_closed_with_its_wait : then_one (by_root (EventCreate ∷ PortCreate ∷ ObjectWaitAsync 7 11 1 0x8 ∷ [])) (root (HandleClose 11))
    ≡ (done, key.Object 1027 ∷ key.Entry 1025 11 ∷ key.Wait 0 ∷ [])
unfolding then_one
port_closed_with_its_wait = refl

pub port_closed_with_its_packets : then_one (by_root (PortCreate ∷ PortQueue 7 1 [] ∷ [])) (root (HandleClose 7))
    ≡ (done, key.Object 1026 ∷ key.Entry 1025 7 ∷ key.Packet 1026 0 ∷ [])
unfolding then_one
port_closed_with_its_packets = refl

pub sent_without_its_wait : then_one (by_root (EventCreate ∷ PortCreate ∷ ObjectWaitAsync 7 11 1 0x8 ∷ ChannelCreate ∷ [])) (root (ChannelWrite 15 [] (7 ∷ [])))
    ≡ (done, key.Object 1029 ∷ key.Entry 1025 7 ∷ key.Msg 1029 0 ∷ key.Wait 0 ∷ [])
unfolding then_one
sent_without_its_wait = refl

pub packets_stay : replies (by_root (EventCreate ∷ PortCreate ∷ ObjectWaitAsync 7 11 1 0x8 ∷ ObjectSignal 7 0 0x8 ∷ HandleClose 7 ∷ PortWait 11 ∷ []))
    ≡ Handle 7 ∷ Handle 11 ∷ done ∷ done ∷ done ∷ Packet (packet.Signal 1 (record { 0 = 0x8 }) (record { 0 = 0x8 }) 1025 7) ∷ []
unfolding ran
packets_stay = refl

-- first all of the handle waited on, then all of the port
pub wait_first_of_two_faults : replies (by_root (EventCreate ∷ PortCreate ∷ ObjectWaitAsync 11 99 1 0 ∷ ObjectWaitAsync 7 99 1 0 ∷ ObjectWaitAsync 7 7 1 0 ∷ HandleDuplicate 11 0x8007 ∷ ObjectWaitAsync 7 15 1 0 ∷ []))
    ≡ Handle 7 ∷ Handle 11 ∷ failed AccessDenied ∷ failed BadHandle ∷ failed WrongType ∷ Handle 15 ∷ failed AccessDenied ∷ []
unfolding ran
wait_first_of_two_faults = refl

-- ---- packets

-- user packets and news of waits leave in the order in which they came
pub first_in_first_out : replies (by_root (EventCreate ∷ PortCreate ∷ PortQueue 11 5 thirty_two ∷ ObjectWaitAsync 7 11 6 0x8 ∷ ObjectSignal 7 0 0x8 ∷ PortQueue 11 7 [] ∷ PortWait 11 ∷ PortWait 11 ∷ PortWait 11 ∷ PortWait 11 ∷ []))
    ≡ Handle 7 ∷ Handle 11 ∷ done ∷ done ∷ done ∷ done ∷ Packet (packet.User 5 thirty_two) ∷ Packet (packet.Signal 6 (record { 0 = 0x8 }) (record { 0 = 0x8 }) 1025 7) ∷ Packet (packet.User 7 []) ∷ failed TimedOut ∷ []
unfolding ran
first_in_first_out = refl

-- the port, then its kind, then the right to read or to write
pub port_faults : replies (by_root (PortCreate ∷ HandleDuplicate 7 0x8003 ∷ PortWait 11 ∷ PortQueue 11 1 [] ∷ EventCreate ∷ PortWait 15 ∷ PortQueue 15 1 [] ∷ PortWait 99 ∷ PortQueue 0 1 [] ∷ []))
    ≡ Handle 7 ∷ Handle 11 ∷ failed AccessDenied ∷ failed AccessDenied ∷ Handle 15 ∷ failed WrongType ∷ failed WrongType ∷ failed BadHandle ∷ failed BadHandle ∷ []
unfolding ran
port_faults = refl

-- ---- cancelling

-- waits and packets of this handle and key go together; a user packet with the key stays
pub cancelled_together : then_one (by_root (EventCreate ∷ PortCreate ∷ ObjectWaitAsync 7 11 9 0x01000000 ∷ ObjectWaitAsync 7 11 9 0x8 ∷ ObjectWaitAsync 7 11 8 0x02000000 ∷ ObjectSignal 7 0 0x8 ∷ PortQueue 11 9 [] ∷ [])) (root (PortCancel 11 7 9))
    ≡ (done, key.Packet 1027 0 ∷ key.Wait 0 ∷ [])
unfolding then_one
cancelled_together = refl

-- what came through another handle of the same event stays
pub other_handle_stays : replies (by_root (EventCreate ∷ PortCreate ∷ HandleDuplicate 7 0x80000000 ∷ ObjectSignal 7 0 0x8 ∷ ObjectWaitAsync 7 11 9 0x8 ∷ ObjectWaitAsync 15 11 9 0x8 ∷ PortCancel 11 7 9 ∷ PortWait 11 ∷ PortWait 11 ∷ []))
    ≡ Handle 7 ∷ Handle 11 ∷ Handle 15 ∷ done ∷ done ∷ done ∷ done ∷ Packet (packet.Signal 9 (record { 0 = 0x8 }) (record { 0 = 0x8 }) 1025 15) ∷ failed TimedOut ∷ []
unfolding ran
other_handle_stays = refl

-- a child, 1028, that shares a port and an event with the root process, and waits on its handle 11
abbrev pub waiting_child : List (ℕ × Asked)
waiting_child =
    root ChannelCreate ∷ root (Spawn 3 7) ∷ root PortCreate ∷ root (HandleDuplicate 19 0x80000000)
    ∷ root EventCreate ∷ root (HandleDuplicate 27 0x80000000) ∷ root (ChannelWrite 11 [] (23 ∷ 31 ∷ []))
    ∷ (1028, ChannelRead 3 0 2 false) ∷ (1028, ObjectWaitAsync 11 7 9 0x8) ∷ []

pub waiting_child_replies : replies (waiting_child)
    ≡ Handles 7 11 ∷ Spawned 15 1028 ∷ Handle 19 ∷ Handle 23 ∷ Handle 27 ∷ Handle 31 ∷ done ∷ Message [] (7 ∷ 11 ∷ []) ∷ done ∷ []
unfolding ran
waiting_child_replies = refl

-- each process cancels its own waits alone: the root process has a handle 11 too
pub cancel_of_another_process : then_one waiting_child (root (PortCancel 19 11 9))
    ≡ (failed NotFound, [])
unfolding then_one
cancel_of_another_process = refl

pub cancel_of_its_own : then_one waiting_child (1028, PortCancel 7 11 9)
    ≡ (done, key.Wait 0 ∷ [])
unfolding then_one
cancel_of_its_own = refl

-- waits go with the process that made them; its end of the channel closes, port and event stay
pub exit_with_its_wait : then_one waiting_child (1028, ProcessExit (pos 0))
    ≡ (done, key.Object 1026 ∷ key.Object 1027 ∷ key.Object 1028 ∷ key.Entry 1028 3 ∷ key.Entry 1028 7 ∷ key.Entry 1028 11 ∷ key.Wait 0 ∷ [])
unfolding then_one
exit_with_its_wait = refl

-- the packets of a handle that is closed cannot be cancelled; the port comes before the source
pub cancel_first_of_two_faults : replies (by_root (EventCreate ∷ PortCreate ∷ ObjectWaitAsync 7 11 1 0x8 ∷ ObjectSignal 7 0 0x8 ∷ HandleClose 7 ∷ PortCancel 11 7 1 ∷ PortCancel 3 7 1 ∷ PortCancel 11 11 1 ∷ []))
    ≡ Handle 7 ∷ Handle 11 ∷ done ∷ done ∷ done ∷ failed BadHandle ∷ failed WrongType ∷ failed AccessDenied ∷ []
unfolding ran
cancel_first_of_two_faults = refl
