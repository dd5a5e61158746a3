-- Which call a line is.
use Rattle.std.specs.Prelude.{◌≡◌, ◌⊎◌, ◌||◌, ◌==◌, not, ℕ, Bool, List, [], ◌∷◌, Option, Some, None, Ok, bit_and}
use Rattle.hex.specs.Hex.{decode_of, decode_sized}
use Rattle.json.specs.Json.{Json, Items, no_items, item}
use Rattle.json.specs.Find.{as_str, as_array}
use Rattle.zt_rows.specs.declared.calls.Call.{Call}
use Rattle.zt_rows.specs.declared.calls.Call.TheVariants as call
use Rattle.zt_logs.specs.declared.call_names.CallName.{CallName}
use Rattle.zt_logs.specs.declared.call_names.CallName.TheVariants as called
use Rattle.zt_logs.specs.declared.places.Member.TheVariants as member
use Rattle.zt_logs.specs.Members.{field}
use Rattle.zt_logs.specs.Numbers.{IsNumber, IsNumberIn, IsNumberOrNone, IsMaskIn, IsSignedIn, flag_of}

-- bytes as pairs of digits; none, where they are left out
abbrev pub AreBytes : Option Json → List ℕ → Type 0
AreBytes None bytes = bytes ≡ []
AreBytes (Some d) bytes = (text : List ℕ) × (as_str d ≡ Some text) × (decode_of text ≡ Ok bytes)

-- a list of numbers
abbrev pub AreNumbers : Items → List ℕ → Type 0
AreNumbers no_items [] = Unit {0}
AreNumbers no_items (n ∷ ns) = ⊥
AreNumbers (item d ds) [] = ⊥
AreNumbers (item d ds) (n ∷ ns) = IsNumber d n × AreNumbers ds ns

-- a list of handles; none, where it is left out
abbrev pub AreHandles : Option Json → List ℕ → Type 0
AreHandles None handles = handles ≡ []
AreHandles (Some d) handles = (list : Items) × (as_array d ≡ Some list) × AreNumbers list handles

-- the 32 bytes of a packet as pairs of digits
abbrev pub ArePacketBytes : Option Json → List ℕ → Type 0
ArePacketBytes None bytes = ⊥
ArePacketBytes (Some d) bytes = (text : List ℕ) × (as_str d ≡ Some text) × (decode_sized text 32 ≡ Ok bytes)

-- a packet with its key: a text of its bytes beside the key, or an object with both
abbrev pub IsQueued : Option Json → Option Json → ℕ → List ℕ → Type 0
IsQueued packet args key bytes =
    (IsNumberIn (field member.Key args) key × ArePacketBytes packet bytes)
    ⊎ (IsNumberIn (field member.Key packet) key × ArePacketBytes (field member.PacketBytes packet) bytes)

-- whether an option is asked for, by its bit or by a field of its own
abbrev pub IsAsked : ℕ → ℕ → Option Json → Bool → Type 0
IsAsked options bit told asked = (flag : Bool) × (flag_of told ≡ Some flag) × (asked ≡ (flag || not (bit_and options bit == 0)))

-- a call of this name with these arguments and options
abbrev pub IsCallOf : CallName → Option Json → ℕ → Call → Type 0
IsCallOf called.EventCreate args options call.EventCreate = Unit {0}
IsCallOf called.EventPairCreate args options call.EventPairCreate = Unit {0}
IsCallOf called.ChannelCreate args options call.ChannelCreate = Unit {0}
IsCallOf called.PortCreate args options call.PortCreate = Unit {0}
IsCallOf called.HandleClose args options (call.HandleClose handle) = IsNumberIn (field member.Handle args) handle
IsCallOf called.HandleDuplicate args options (call.HandleDuplicate handle rights) =
    IsNumberIn (field member.Handle args) handle × IsMaskIn (field member.Rights args) rights
IsCallOf called.HandleReplace args options (call.HandleReplace handle rights) =
    IsNumberIn (field member.Handle args) handle × IsMaskIn (field member.Rights args) rights
IsCallOf called.ObjectSignal args options (call.ObjectSignal handle clear set) =
    IsNumberIn (field member.Handle args) handle × IsMaskIn (field member.Clear args) clear.0 × IsMaskIn (field member.Set args) set.0
IsCallOf called.ObjectSignalPeer args options (call.ObjectSignalPeer handle clear set) =
    IsNumberIn (field member.Handle args) handle × IsMaskIn (field member.Clear args) clear.0 × IsMaskIn (field member.Set args) set.0
IsCallOf called.ChannelWrite args options (call.ChannelWrite handle parcel) =
    IsNumberIn (field member.Handle args) handle × AreBytes (field member.Bytes args) parcel.bytes
    × AreHandles (field member.Handles args) parcel.handles
IsCallOf called.ChannelRead args options (call.ChannelRead handle bytes handles discard) =
    IsNumberIn (field member.Handle args) handle × IsNumberIn (field member.ByteRoom args) bytes
    × IsNumberIn (field member.HandleRoom args) handles × IsAsked options 1 (field member.Discard args) discard
IsCallOf called.ChannelReadEtc args options (call.ChannelRead handle bytes handles discard) =
    IsNumberIn (field member.Handle args) handle × IsNumberIn (field member.ByteRoom args) bytes
    × IsNumberIn (field member.HandleRoom args) handles × IsAsked options 1 (field member.Discard args) discard
IsCallOf called.ObjectWaitAsync args options (call.ObjectWaitAsync handle port key signals edge) =
    IsNumberIn (field member.Handle args) handle × IsNumberIn (field member.Port args) port × IsNumberIn (field member.Key args) key
    × IsMaskIn (field member.Signals args) signals.0 × IsAsked options 2 (field member.Edge args) edge
IsCallOf called.PortQueue args options (call.PortQueue port key bytes) =
    IsNumberIn (field member.CalledPort args) port × IsQueued (field member.Packet args) args key bytes
IsCallOf called.PortWait args options (call.PortWait port) = IsNumberIn (field member.CalledPort args) port
IsCallOf called.PortCancel args options (call.PortCancel port source key) =
    IsNumberIn (field member.CalledPort args) port × IsNumberIn (field member.Source args) source × IsNumberIn (field member.Key args) key
IsCallOf called.JobCreate args options (call.JobCreate job) = IsNumberIn (field member.ParentJob args) job
IsCallOf called.Spawn args options (call.Spawn job argument) =
    IsNumberIn (field member.Job args) job × IsNumberOrNone (field member.Argument args) argument
-- the started process stands in place of its spawn's job; the job comes from the line that made the process, by `join_starts`
IsCallOf called.ProcessStart args options (call.Spawn job argument) =
    IsNumberIn (field member.StartedProcess args) job × IsNumberOrNone (field member.FirstArgument args) argument
IsCallOf called.JobSetCritical args options (call.JobSetCritical job process) =
    IsNumberIn (field member.Job args) job × IsNumberIn (field member.CriticalProcess args) process
IsCallOf called.TaskKill args options (call.TaskKill handle) = IsNumberIn (field member.Task args) handle
IsCallOf called.ProcessExit args options (call.ProcessExit code) = IsSignedIn (field member.Code args) code
IsCallOf name args options other = ⊥
