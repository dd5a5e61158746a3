-- The words that answers and rows show for a status and for a kind, and the number of a status.
use Rattle.std.specs.Prelude.{ℕ, List, codes}
use Rattle.zt_bits.specs.declared.kinds.Kind.{Kind}
use Rattle.zt_bits.specs.declared.kinds.Kind.TheVariants.{Job, Process, Channel, Event, EventPair, Port}
use Rattle.zt_bits.specs.declared.statuses.Status.{Status}
use Rattle.zt_bits.specs.declared.statuses.Status.TheVariants as status

abbrev pub kind_word : Kind → List ℕ
kind_word Job = codes "job"
kind_word Process = codes "process"
kind_word Channel = codes "channel"
kind_word Event = codes "event"
kind_word EventPair = codes "eventpair"
kind_word Port = codes "port"

abbrev pub status_word : Status → List ℕ
status_word status.Ok = codes "ok"
status_word status.BadHandle = codes "bad_handle"
status_word status.WrongType = codes "wrong_type"
status_word status.AccessDenied = codes "access_denied"
status_word status.InvalidArgs = codes "invalid_args"
status_word status.NotSupported = codes "not_supported"
status_word status.PeerClosed = codes "peer_closed"
status_word status.ShouldWait = codes "should_wait"
status_word status.BufferTooSmall = codes "buffer_too_small"
status_word status.TimedOut = codes "timed_out"
status_word status.BadState = codes "bad_state"
status_word status.OutOfRange = codes "out_of_range"
status_word status.NotFound = codes "not_found"
status_word status.AlreadyBound = codes "already_bound"

-- its place in their list
abbrev pub status_number : Status → ℕ
status_number status.Ok = 0
status_number status.BadHandle = 1
status_number status.WrongType = 2
status_number status.AccessDenied = 3
status_number status.InvalidArgs = 4
status_number status.NotSupported = 5
status_number status.PeerClosed = 6
status_number status.ShouldWait = 7
status_number status.BufferTooSmall = 8
status_number status.TimedOut = 9
status_number status.BadState = 10
status_number status.OutOfRange = 11
status_number status.NotFound = 12
status_number status.AlreadyBound = 13
