-- What a write sends, as its checks find it one after another. Used by proofs only.
use Rattle.std.specs.Prelude.{◌≡◌, ℕ, not, ◌==◌, ⊤, List, [], Result, Ok, Err, ok_or}
use Rattle.zt_bits.specs.declared.statuses.Status.{Status}
use Rattle.zt_bits.specs.declared.statuses.Status.TheVariants as status
use Rattle.zt_rows.specs.declared.rows.Held.{Held}
use Rattle.zt_rows.specs.Contents.{MessageContent}
use Rattle.zt_rows.specs.State.{State}
use Rattle.zt_rows.specs.Reads.{object, entry}
use Rattle.zt_rows.specs.Tests.{is_channel, has_all, among}
use Rattle.zt_rows.specs.Handles.{◌>>=◌, check, handle}
use Rattle.zt_rows.specs.ChannelCalls.{sent}
use Rattle.zt_calls.specs.declared.failure.Failure.{Failure}
use Rattle.zt_calls.specs.declared.failure.Failure.TheVariants as failure

-- what a listed value holds, or why it cannot be sent; `earlier` stand before it in the list
abbrev pub sendable : State → ℕ → ℕ → List ℕ → ℕ → Result Held Status
sendable S p h earlier g = do
  held ← ok_or (entry S p g) status.BadHandle
  _ ← check (not (among earlier g)) status.BadHandle
  _ ← check (not (g == h)) status.NotSupported
  _ ← check (has_all held.rights.0 0x2) status.AccessDenied
  Ok held

-- the endpoint that the message is for, and the message; or the status of the first check that fails
abbrev pub message_for : State → ℕ → ℕ → List ℕ → List ℕ → Result (ℕ × MessageContent) Status
message_for S p h bytes handles = do
  (_, o) ← handle S p h is_channel 0x8
  held ← sent S p h [] handles
  _ ← ok_or (object S o.link) status.PeerClosed
  Ok (o.link, record { bytes = bytes; handles = held })

-- the checks' answer, unless memory was refused
abbrev pub Finds : {A : Type 0} → Result A Status → Result A Failure → Type 0
Finds d (Ok x) = d ≡ Ok x
Finds d (Err (failure.Status wrong)) = d ≡ Err wrong
Finds d (Err failure.OutOfMemory) = ⊤
