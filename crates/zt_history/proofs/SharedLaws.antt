-- The reply that is a status alone stands at the status's own number.
use Rattle.std.proofs.Common.{◌≡◌, Some, refl}
use Rattle.std.specs.Prelude.{slice_get}
use Rattle.zt_bits.specs.declared.statuses.Status.{Status}
use Rattle.zt_bits.specs.declared.statuses.Status.TheVariants as status
use Rattle.zt_bits.specs.Words.{status_number}
use Rattle.zt_rows.specs.declared.calls.Reply.TheVariants as replies
use Rattle.zt_history.specs.ProofsOnly.StoredNodes.{shared_replies}

pub status_shared : (s : Status) → slice_get shared_replies (status_number s) ≡ Some (replies.Status s)
status_shared status.Ok = refl
status_shared status.BadHandle = refl
status_shared status.WrongType = refl
status_shared status.AccessDenied = refl
status_shared status.InvalidArgs = refl
status_shared status.NotSupported = refl
status_shared status.PeerClosed = refl
status_shared status.ShouldWait = refl
status_shared status.BufferTooSmall = refl
status_shared status.TimedOut = refl
status_shared status.BadState = refl
status_shared status.OutOfRange = refl
status_shared status.NotFound = refl
status_shared status.AlreadyBound = refl
