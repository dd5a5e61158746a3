-- Worked rows on handles, events, event pairs and their signals: each holds by computation.
use Rattle.std.proofs.Common.{refl}
use Rattle.std.specs.Prelude.{◌≡◌, [], ◌∷◌, Some}
use Rattle.zt_bits.specs.declared.kinds.Kind.TheVariants as kind
use Rattle.zt_bits.specs.declared.statuses.Status.TheVariants.{BadHandle, AccessDenied, InvalidArgs, NotSupported, PeerClosed}
use Rattle.zt_rows.specs.declared.calls.Reply.TheVariants.{Handle, Handles}
use Rattle.zt_rows.specs.declared.keys.RowKey.TheVariants as key
use Rattle.zt_rows.specs.declared.rows.Life.TheVariants as life
use Rattle.zt_rows.specs.Handles.{done}
use Rattle.zt_rows.proofs.WorkedRowsForm.{EventCreate, PortCreate, EventPairCreate, ChannelCreate, HandleClose, HandleDuplicate, HandleReplace, ObjectSignal, ObjectSignalPeer, ObjectWaitAsync, ran, root, by_root, replies, rows_after, row_after, then_one, failed, object_row, held_row, counters_row}
use Rattle.zt_rows.specs.declared.calls.Call.TheVariants as call
use Rattle.zt_rows.specs.Opening.{opening}
use Rattle.zt_rows.specs.Step.{direct, step, run}

-- ---- making objects

-- one event: its reply, and the four rows that it changes
pub one_event : then_one [] (root EventCreate)
    ≡ (Handle 7, key.Counters ∷ key.Object 1025 ∷ key.Object 1026 ∷ key.Entry 1025 7 ∷ [])
unfolding then_one
one_event = refl

pub one_event_rows : rows_after (by_root (EventCreate ∷ []))
    ≡ (key.Counters, counters_row 1027 0)
    ∷ (key.Object 1024, object_row kind.Job 0x10 0 life.Live 0)
    ∷ (key.Object 1025, object_row kind.Process 0 1024 life.Live 2)
    ∷ (key.Object 1026, object_row kind.Event 0 0 life.Live 0)
    ∷ (key.Entry 1025 3, held_row 1024 0x3d203)
    ∷ (key.Entry 1025 7, held_row 1026 0xd003) ∷ []
unfolding ran
one_event_rows = refl

-- one event and two signals, run by `step` from the opening, leave the state and give the replies of `ran`
pub by_the_step : run opening ((1025, call.EventCreate) ∷ (1025, call.ObjectSignal 7 (record { 0 = 0x01000000 }) (record { 0 = 0x8 })) ∷ (1025, call.ObjectSignal 7 (record { 0 = 0x8 }) (record { 0 = 0x02000000 })) ∷ [])
    ≡ ran (by_root (EventCreate ∷ ObjectSignal 7 0x01000000 0x8 ∷ ObjectSignal 7 0x8 0x02000000 ∷ []))
unfolding ran direct step
by_the_step = refl

pub by_the_step_row : row_after (by_root (EventCreate ∷ ObjectSignal 7 0x01000000 0x8 ∷ ObjectSignal 7 0x8 0x02000000 ∷ [])) (key.Object 1026) ≡ Some (object_row kind.Event 0x02000000 0 life.Live 0)
unfolding row_after
by_the_step_row = refl

-- neither a koid nor a handle value is used again
pub values_are_not_used_again : replies (by_root (EventCreate ∷ HandleClose 7 ∷ EventCreate ∷ []))
    ≡ Handle 7 ∷ done ∷ Handle 11 ∷ []
unfolding ran
values_are_not_used_again = refl

pub koids_are_not_used_again : row_after (by_root (EventCreate ∷ HandleClose 7 ∷ EventCreate ∷ [])) (key.Entry 1025 11) ≡ Some (held_row 1027 0xd003)
unfolding row_after
koids_are_not_used_again = refl

-- a channel can be written from the start; a port has no signals
pub new_channel : row_after (by_root (ChannelCreate ∷ [])) (key.Object 1027) ≡ Some (object_row kind.Channel 0x2 1026 life.Live 0)
unfolding row_after
new_channel = refl

pub new_port : row_after (by_root (PortCreate ∷ [])) (key.Object 1026) ≡ Some (object_row kind.Port 0 0 life.Live 0)
unfolding row_after
new_port = refl

-- ---- closing

pub closing_zero : then_one [] (root (HandleClose 0))
    ≡ (done, [])
unfolding then_one
closing_zero = refl

pub closing_what_is_not_there : then_one [] (root (HandleClose 9))
    ≡ (failed BadHandle, [])
unfolding then_one
closing_what_is_not_there = refl

-- an event goes with the last of its handles
pub duplicate_and_close : replies (by_root (EventCreate ∷ HandleDuplicate 7 0x80000000 ∷ HandleClose 7 ∷ HandleClose 11 ∷ []))
    ≡ Handle 7 ∷ Handle 11 ∷ done ∷ done ∷ []
unfolding ran
duplicate_and_close = refl

pub first_of_two_closed : then_one (by_root (EventCreate ∷ HandleDuplicate 7 0x80000000 ∷ [])) (root (HandleClose 7))
    ≡ (done, key.Entry 1025 7 ∷ [])
unfolding then_one
first_of_two_closed = refl

pub last_of_two_closed : then_one (by_root (EventCreate ∷ HandleDuplicate 7 0x80000000 ∷ HandleClose 7 ∷ [])) (root (HandleClose 11))
    ≡ (done, key.Object 1026 ∷ key.Entry 1025 11 ∷ [])
unfolding then_one
last_of_two_closed = refl

pub nothing_left_of_an_event : rows_after (by_root (EventCreate ∷ HandleDuplicate 7 0x80000000 ∷ HandleClose 7 ∷ HandleClose 11 ∷ []))
    ≡ (key.Counters, counters_row 1027 0)
    ∷ (key.Object 1024, object_row kind.Job 0x10 0 life.Live 0)
    ∷ (key.Object 1025, object_row kind.Process 0 1024 life.Live 3)
    ∷ (key.Entry 1025 3, held_row 1024 0x3d203) ∷ []
unfolding ran
nothing_left_of_an_event = refl

-- ---- rights

-- a request gets a subset, no rights at all too, and uses no value where it is refused
pub duplicates_have_no_more_rights : replies (by_root (EventCreate ∷ HandleDuplicate 7 0x10000 ∷ HandleDuplicate 7 0x80000001 ∷ HandleDuplicate 7 0 ∷ HandleDuplicate 11 0 ∷ ObjectSignal 11 0 0x8 ∷ []))
    ≡ Handle 7 ∷ failed InvalidArgs ∷ failed InvalidArgs ∷ Handle 11 ∷ failed AccessDenied ∷ failed AccessDenied ∷ []
unfolding ran
duplicates_have_no_more_rights = refl

-- a channel handle cannot be duplicated; that comes before the rights asked for, and the handle before both
pub duplicate_first_of_two_faults : replies (by_root (ChannelCreate ∷ HandleDuplicate 7 0xffffffff ∷ HandleDuplicate 9 0xffffffff ∷ []))
    ≡ Handles 7 11 ∷ failed AccessDenied ∷ failed BadHandle ∷ []
unfolding ran
duplicate_first_of_two_faults = refl

-- a replacement that fails closes the handle, and the event goes with it
pub failed_replace : replies (by_root (EventCreate ∷ HandleReplace 7 0x10000 ∷ HandleClose 7 ∷ []))
    ≡ Handle 7 ∷ failed InvalidArgs ∷ failed BadHandle ∷ []
unfolding ran
failed_replace = refl

pub failed_replace_rows : then_one (by_root (EventCreate ∷ [])) (root (HandleReplace 7 0x10000))
    ≡ (failed InvalidArgs, key.Object 1026 ∷ key.Entry 1025 7 ∷ [])
unfolding then_one
failed_replace_rows = refl

pub replace_of_what_is_not_there : then_one (by_root (EventCreate ∷ [])) (root (HandleReplace 0 0xffffffff))
    ≡ (failed BadHandle, [])
unfolding then_one
replace_of_what_is_not_there = refl

-- the waits on a handle that is replaced go, also where its rights stay the same
pub replaced_handle_loses_its_waits : then_one (by_root (EventCreate ∷ PortCreate ∷ ObjectWaitAsync 7 11 5 0x8 ∷ [])) (root (HandleReplace 7 0x80000000))
    ≡ (Handle 15, key.Object 1025 ∷ key.Entry 1025 7 ∷ key.Entry 1025 15 ∷ key.Wait 0 ∷ [])
unfolding then_one
replaced_handle_loses_its_waits = refl

-- ---- signals

pub signalled : then_one (by_root (EventCreate ∷ [])) (root (ObjectSignal 7 0 0x8))
    ≡ (done, key.Object 1026 ∷ [])
unfolding then_one
signalled = refl

-- setting a signal that is set already changes no row
pub signalled_twice : then_one (by_root (EventCreate ∷ ObjectSignal 7 0 0x8 ∷ [])) (root (ObjectSignal 7 0 0x8))
    ≡ (done, [])
unfolding then_one
signalled_twice = refl

-- first the bits of clear go, then those of set come
pub cleared_then_set : row_after (by_root (EventCreate ∷ ObjectSignal 7 0 0x01000008 ∷ ObjectSignal 7 0x01000008 0x02000008 ∷ [])) (key.Object 1026) ≡ Some (object_row kind.Event 0x02000008 0 life.Live 0)
unfolding row_after
cleared_then_set = refl

-- handle, then right, then bits
pub signal_first_of_two_faults : replies (by_root (EventCreate ∷ HandleDuplicate 7 0x1 ∷ ObjectSignal 9 0 0x1 ∷ ObjectSignal 11 0 0x1 ∷ ObjectSignal 7 0x1 0 ∷ ObjectSignal 7 0 0x10 ∷ PortCreate ∷ ObjectSignal 15 0 0 ∷ []))
    ≡ Handle 7 ∷ Handle 11 ∷ failed BadHandle ∷ failed AccessDenied ∷ failed InvalidArgs ∷ failed InvalidArgs ∷ Handle 15 ∷ failed AccessDenied ∷ []
unfolding ran
signal_first_of_two_faults = refl

-- an event pair: each end signals the other
pub event_pair : replies (by_root (EventPairCreate ∷ ObjectSignalPeer 7 0 0x8 ∷ ObjectSignal 7 0 0x1 ∷ HandleClose 11 ∷ ObjectSignalPeer 7 0 0x8 ∷ EventCreate ∷ ObjectSignalPeer 15 0 0x8 ∷ []))
    ≡ Handles 7 11 ∷ done ∷ failed InvalidArgs ∷ done ∷ failed PeerClosed ∷ Handle 15 ∷ failed NotSupported ∷ []
unfolding ran
event_pair = refl

pub event_pair_signalled : row_after (by_root (EventPairCreate ∷ ObjectSignalPeer 7 0 0x8 ∷ [])) (key.Object 1027) ≡ Some (object_row kind.EventPair 0x8 1026 life.Live 0)
unfolding row_after
event_pair_signalled = refl

pub event_pair_peer_closed : row_after (by_root (EventPairCreate ∷ HandleClose 11 ∷ [])) (key.Object 1026) ≡ Some (object_row kind.EventPair 0x4 0 life.Live 0)
unfolding row_after
event_pair_peer_closed = refl

-- kind, then right, then bits, then the peer
pub peer_signal_first_of_two_faults : replies (by_root (EventPairCreate ∷ HandleClose 11 ∷ ObjectSignalPeer 7 0 0x1 ∷ HandleReplace 7 0x1000 ∷ ObjectSignalPeer 15 0 0x1 ∷ EventCreate ∷ HandleReplace 19 0 ∷ ObjectSignalPeer 23 0 0x1 ∷ []))
    ≡ Handles 7 11 ∷ done ∷ failed InvalidArgs ∷ Handle 15 ∷ failed AccessDenied ∷ Handle 19 ∷ Handle 23 ∷ failed NotSupported ∷ []
unfolding ran
peer_signal_first_of_two_faults = refl
