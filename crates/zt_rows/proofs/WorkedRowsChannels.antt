-- Worked rows on channels, their messages, and what goes when they close: each holds by computation.
use Rattle.std.proofs.Common.{refl}
use Rattle.std.specs.Prelude.{◌≡◌, true, false, List, [], ◌∷◌, Some}
use Rattle.zt_bits.specs.declared.kinds.Kind.TheVariants as kind
use Rattle.zt_bits.specs.declared.statuses.Status.TheVariants.{BadHandle, WrongType, AccessDenied, NotSupported, PeerClosed, ShouldWait}
use Rattle.zt_rows.specs.declared.calls.Reply.TheVariants.{Handle, Handles, Message, TooSmall}
use Rattle.zt_rows.specs.declared.keys.RowKey.TheVariants as key
use Rattle.zt_rows.specs.declared.rows.Life.TheVariants as life
use Rattle.zt_rows.specs.declared.rows.Row.TheVariants as rows
use Rattle.zt_rows.specs.declared.supports.Support.TheVariants as support
use Rattle.zt_rows.specs.Handles.{done}
use Rattle.zt_rows.proofs.WorkedRowsForm.{Asked, EventCreate, PortCreate, ChannelCreate, HandleClose, HandleDuplicate, HandleReplace, ChannelWrite, ChannelRead, ran, root, by_root, replies, row_after, supports_after, then_one, failed, object_row, held_row}

-- ---- writing

-- a write to a closed peer closes the handle that it lists, and its event goes
pub closed_peer : replies (by_root (ChannelCreate ∷ EventCreate ∷ HandleClose 11 ∷ ChannelWrite 7 [] (15 ∷ []) ∷ []))
    ≡ Handles 7 11 ∷ Handle 15 ∷ done ∷ failed PeerClosed ∷ []
unfolding ran
closed_peer = refl

pub closed_peer_rows : then_one (by_root (ChannelCreate ∷ EventCreate ∷ HandleClose 11 ∷ [])) (root (ChannelWrite 7 [] (15 ∷ [])))
    ≡ (failed PeerClosed, key.Object 1028 ∷ key.Entry 1025 15 ∷ [])
unfolding then_one
closed_peer_rows = refl

-- a channel written into itself is closed
pub into_itself : then_one (by_root (ChannelCreate ∷ [])) (root (ChannelWrite 7 [] (7 ∷ [])))
    ≡ (failed NotSupported, key.Object 1026 ∷ key.Object 1027 ∷ key.Entry 1025 7 ∷ [])
unfolding then_one
into_itself = refl

pub into_itself_peer : row_after (by_root (ChannelCreate ∷ ChannelWrite 7 [] (7 ∷ []) ∷ [])) (key.Object 1027) ≡ Some (object_row kind.Channel 0x4 0 life.Live 0)
unfolding row_after
into_itself_peer = refl

-- an end written into its own pair lies in its own queue: it stays, with itself as its support, also when the
-- other end is closed
pub into_its_own_pair : replies (by_root (ChannelCreate ∷ ChannelWrite 7 [] (11 ∷ []) ∷ HandleClose 7 ∷ []))
    ≡ Handles 7 11 ∷ done ∷ done ∷ []
unfolding ran
into_its_own_pair = refl

pub into_its_own_pair_support : supports_after (by_root (ChannelCreate ∷ ChannelWrite 7 [] (11 ∷ []) ∷ HandleClose 7 ∷ [])) 1027 ≡ support.Message 1027 0 0 ∷ []
unfolding supports_after
into_its_own_pair_support = refl

pub into_its_own_pair_row : row_after (by_root (ChannelCreate ∷ ChannelWrite 7 [] (11 ∷ []) ∷ HandleClose 7 ∷ [])) (key.Object 1027) ≡ Some (object_row kind.Channel 0x5 0 life.Live 1)
unfolding row_after
into_its_own_pair_row = refl

-- a channel (7, 11), an event (15), and an event by a handle that may not be sent on (23)
abbrev pub list_ground : List Asked
list_ground = ChannelCreate ∷ EventCreate ∷ EventCreate ∷ HandleReplace 19 0 ∷ []

-- the leftmost fault counts, whatever its kind; all that is listed and in the table is closed
pub list_own_handle_twice : then_one (by_root list_ground) (root (ChannelWrite 7 [] (7 ∷ 7 ∷ [])))
    ≡ (failed NotSupported, key.Object 1026 ∷ key.Object 1027 ∷ key.Entry 1025 7 ∷ [])
unfolding then_one
list_own_handle_twice = refl

pub list_repeated_before_own_handle : then_one (by_root list_ground) (root (ChannelWrite 7 [] (15 ∷ 15 ∷ 7 ∷ [])))
    ≡ (failed BadHandle, key.Object 1026 ∷ key.Object 1027 ∷ key.Object 1028 ∷ key.Entry 1025 7 ∷ key.Entry 1025 15 ∷ [])
unfolding then_one
list_repeated_before_own_handle = refl

pub list_missing_before_denied : then_one (by_root list_ground) (root (ChannelWrite 7 [] (9 ∷ 23 ∷ [])))
    ≡ (failed BadHandle, key.Object 1029 ∷ key.Entry 1025 23 ∷ [])
unfolding then_one
list_missing_before_denied = refl

pub list_denied_before_missing : then_one (by_root list_ground) (root (ChannelWrite 7 [] (23 ∷ 9 ∷ [])))
    ≡ (failed AccessDenied, key.Object 1029 ∷ key.Entry 1025 23 ∷ [])
unfolding then_one
list_denied_before_missing = refl

pub list_closed_behind_the_fault : then_one (by_root list_ground) (root (ChannelWrite 7 [] (0 ∷ 15 ∷ [])))
    ≡ (failed BadHandle, key.Object 1028 ∷ key.Entry 1025 15 ∷ [])
unfolding then_one
list_closed_behind_the_fault = refl

-- within one element the own handle comes before the right to send it on
pub list_own_handle_before_denied : replies (by_root (ChannelCreate ∷ HandleReplace 7 0xf00c ∷ ChannelWrite 15 [] (15 ∷ []) ∷ []))
    ≡ Handles 7 11 ∷ Handle 15 ∷ failed NotSupported ∷ []
unfolding ran
list_own_handle_before_denied = refl

-- all that is listed and in the table is closed also where the channel handle itself is missing, is no channel, or may not write
pub write_by_no_handle : then_one (by_root (EventCreate ∷ [])) (root (ChannelWrite 99 [] (7 ∷ [])))
    ≡ (failed BadHandle, key.Object 1026 ∷ key.Entry 1025 7 ∷ [])
unfolding then_one
write_by_no_handle = refl

pub write_by_an_event : then_one (by_root (EventCreate ∷ [])) (root (ChannelWrite 7 [] (7 ∷ [])))
    ≡ (failed WrongType, key.Object 1026 ∷ key.Entry 1025 7 ∷ [])
unfolding then_one
write_by_an_event = refl

pub write_denied : then_one (by_root (ChannelCreate ∷ HandleReplace 7 0xf006 ∷ [])) (root (ChannelWrite 15 [] (15 ∷ 9 ∷ [])))
    ≡ (failed AccessDenied, key.Object 1026 ∷ key.Object 1027 ∷ key.Entry 1025 15 ∷ [])
unfolding then_one
write_denied = refl

-- two handles to one event are two handles
pub two_handles_of_one_event : replies (by_root (ChannelCreate ∷ EventCreate ∷ HandleDuplicate 15 0x80000000 ∷ ChannelWrite 7 [] (15 ∷ 19 ∷ []) ∷ ChannelRead 11 0 2 false ∷ []))
    ≡ Handles 7 11 ∷ Handle 15 ∷ Handle 19 ∷ done ∷ Message [] (23 ∷ 27 ∷ []) ∷ []
unfolding ran
two_handles_of_one_event = refl

-- ---- reading

-- an empty queue; what was queued can be read after the peer is gone
pub reading_to_the_end : replies (by_root (ChannelCreate ∷ ChannelRead 11 0 0 false ∷ ChannelWrite 7 (9 ∷ []) [] ∷ HandleClose 7 ∷ ChannelRead 11 1 0 false ∷ ChannelRead 11 1 0 false ∷ []))
    ≡ Handles 7 11 ∷ failed ShouldWait ∷ done ∷ done ∷ Message (9 ∷ []) [] ∷ failed PeerClosed ∷ []
unfolding ran
reading_to_the_end = refl

-- the message goes, and the end is no longer readable
pub read : then_one (by_root (ChannelCreate ∷ ChannelWrite 7 (9 ∷ []) [] ∷ [])) (root (ChannelRead 11 1 0 false))
    ≡ (Message (9 ∷ []) [], key.Object 1027 ∷ key.Msg 1027 0 ∷ [])
unfolding then_one
read = refl

pub no_longer_readable : row_after (by_root (ChannelCreate ∷ ChannelWrite 7 (9 ∷ []) [] ∷ ChannelRead 11 1 0 false ∷ [])) (key.Object 1027) ≡ Some (object_row kind.Channel 0x2 1026 life.Live 1)
unfolding row_after
no_longer_readable = refl

-- handles come in the order of the message, with their rights
pub handles_in_order : replies (by_root (ChannelCreate ∷ EventCreate ∷ PortCreate ∷ ChannelWrite 7 (1 ∷ 2 ∷ []) (19 ∷ 15 ∷ []) ∷ ChannelRead 11 2 2 false ∷ []))
    ≡ Handles 7 11 ∷ Handle 15 ∷ Handle 19 ∷ done ∷ Message (1 ∷ 2 ∷ []) (23 ∷ 27 ∷ []) ∷ []
unfolding ran
handles_in_order = refl

pub first_handle_read : row_after (by_root (ChannelCreate ∷ EventCreate ∷ PortCreate ∷ ChannelWrite 7 (1 ∷ 2 ∷ []) (19 ∷ 15 ∷ []) ∷ ChannelRead 11 2 2 false ∷ [])) (key.Entry 1025 23) ≡ Some (held_row 1029 0x800f)
unfolding row_after
first_handle_read = refl

pub second_handle_read : row_after (by_root (ChannelCreate ∷ EventCreate ∷ PortCreate ∷ ChannelWrite 7 (1 ∷ 2 ∷ []) (19 ∷ 15 ∷ []) ∷ ChannelRead 11 2 2 false ∷ [])) (key.Entry 1025 27) ≡ Some (held_row 1028 0xd003)
unfolding row_after
second_handle_read = refl

-- a message that is too large stays, and goes with its handles where it is to be discarded
pub too_large : then_one (by_root (ChannelCreate ∷ EventCreate ∷ ChannelWrite 7 [] (15 ∷ []) ∷ [])) (root (ChannelRead 11 0 0 false))
    ≡ (TooSmall 0 1, [])
unfolding then_one
too_large = refl

pub discarded : then_one (by_root (ChannelCreate ∷ EventCreate ∷ ChannelWrite 7 [] (15 ∷ []) ∷ [])) (root (ChannelRead 11 0 0 true))
    ≡ (TooSmall 0 1, key.Object 1027 ∷ key.Object 1028 ∷ key.Msg 1027 0 ∷ [])
unfolding then_one
discarded = refl

pub too_large_stays : row_after (by_root (ChannelCreate ∷ EventCreate ∷ ChannelWrite 7 [] (15 ∷ []) ∷ ChannelRead 11 0 0 false ∷ [])) (key.Msg 1027 0) ≡ Some (rows.Msg (record { bytes = []; handles = record { koid = 1028; rights = record { 0 = 0xd003 } } ∷ [] }))
unfolding row_after
too_large_stays = refl

-- both numbers are the true ones; a discard that fits is a plain read
pub too_small_by_both : replies (by_root (ChannelCreate ∷ EventCreate ∷ ChannelWrite 7 (1 ∷ 2 ∷ 3 ∷ []) (15 ∷ []) ∷ ChannelRead 11 2 0 false ∷ ChannelRead 11 3 0 false ∷ ChannelRead 11 2 1 false ∷ ChannelRead 11 3 1 true ∷ ChannelRead 11 0 0 true ∷ []))
    ≡ Handles 7 11 ∷ Handle 15 ∷ done ∷ TooSmall 3 1 ∷ TooSmall 3 1 ∷ TooSmall 3 1 ∷ Message (1 ∷ 2 ∷ 3 ∷ []) (19 ∷ []) ∷ failed ShouldWait ∷ []
unfolding ran
too_small_by_both = refl

-- handle, then kind, then right, then the queue
pub read_first_of_two_faults : replies (by_root (ChannelCreate ∷ EventCreate ∷ ChannelRead 9 0 0 false ∷ ChannelRead 15 0 0 false ∷ HandleReplace 7 0xf00a ∷ ChannelRead 19 0 0 false ∷ []))
    ≡ Handles 7 11 ∷ Handle 15 ∷ failed BadHandle ∷ failed WrongType ∷ Handle 19 ∷ failed AccessDenied ∷ []
unfolding ran
read_first_of_two_faults = refl

-- ---- what closes with a channel

-- six channels; the second end of each but the last is queued at the second end of the next
abbrev pub six_in_a_row : List Asked
six_in_a_row =
    ChannelCreate ∷ ChannelCreate ∷ ChannelCreate ∷ ChannelCreate ∷ ChannelCreate ∷ ChannelCreate
    ∷ ChannelWrite 15 [] (11 ∷ []) ∷ ChannelWrite 23 [] (19 ∷ []) ∷ ChannelWrite 31 [] (27 ∷ [])
    ∷ ChannelWrite 39 [] (35 ∷ []) ∷ ChannelWrite 47 [] (43 ∷ []) ∷ []

-- closing the last second end closes all of them, one after the other
pub all_six_close : then_one (by_root six_in_a_row) (root (HandleClose 51))
    ≡ (done, key.Object 1026 ∷ key.Object 1027 ∷ key.Object 1028 ∷ key.Object 1029 ∷ key.Object 1030 ∷ key.Object 1031 ∷ key.Object 1032 ∷ key.Object 1033 ∷ key.Object 1034 ∷ key.Object 1035 ∷ key.Object 1036 ∷ key.Object 1037 ∷ key.Entry 1025 51 ∷ key.Msg 1029 0 ∷ key.Msg 1031 0 ∷ key.Msg 1033 0 ∷ key.Msg 1035 0 ∷ key.Msg 1037 0 ∷ [])
unfolding then_one
all_six_close = refl
