-- Which calls a line is: one, or several in a row.
use Rattle.std.specs.Prelude.{◌≡◌, ◌⊎◌, ◌==◌, ℕ, suc, Bool, true, false, List, [], ◌∷◌, ◌++◌, map, Option, Some, None, is_some, ◌||◌, if◌then◌else◌, codes}
use Rattle.std.specs.List.{cons_option}
use Rattle.json.specs.Json.{Json, Items, no_items, item}
use Rattle.json.specs.Find.{as_str, as_array}
use Rattle.zt_rows.specs.declared.calls.Call.{Call}
use Rattle.zt_rows.specs.declared.calls.Call.TheVariants as call
use Rattle.zt_rows.specs.declared.calls.Parcel.{Parcel}
use Rattle.zt_logs.specs.declared.call_names.CallName.{CallName}
use Rattle.zt_logs.specs.declared.call_names.CallName.TheVariants as called
use Rattle.zt_logs.specs.declared.dispositions.Disposition.{Disposition}
use Rattle.zt_logs.specs.declared.line_calls.PartCall.{PartCall}
use Rattle.zt_logs.specs.declared.places.Member.{Member}
use Rattle.zt_logs.specs.declared.places.Member.TheVariants as member
use Rattle.zt_logs.specs.Members.{field}
use Rattle.zt_logs.specs.Numbers.{IsNumber, IsNumberIn, IsMask}
use Rattle.zt_bits.specs.declared.statuses.Status.{Status}
use Rattle.zt_bits.specs.declared.statuses.Status.TheVariants as status
use Rattle.zt_logs.specs.declared.other_kinds.OtherKind.{OtherKind}
use Rattle.zt_logs.specs.OtherKinds.{has_ends}
use Rattle.zt_logs.specs.Answered.{status_in}
use Rattle.zt_logs.specs.LoggedCalls.{AreBytes, AreHandles, IsCallOf}

-- a call that gives no handle of a message
abbrev pub alone : Call → PartCall
alone it = record { gives = None; given = None; call = it }

-- ---- handle_close_many

-- a close of each handle; of none, where there are no handles
abbrev pub closes_of : List ℕ → List PartCall
closes_of [] = alone (call.HandleClose 0) ∷ []
closes_of (handle ∷ handles) = map (λ h. alone (call.HandleClose h)) (handle ∷ handles)

-- ---- channel_write_etc

-- what becomes of a handle that is sent, by its number or its name: whether it is duplicated
abbrev pub IsOperation : Json → Bool → Type 0
IsOperation d false = IsNumber d 0 ⊎ (as_str d ≡ Some (codes "ZX_HANDLE_OP_MOVE"))
IsOperation d true = IsNumber d 1 ⊎ (as_str d ≡ Some (codes "ZX_HANDLE_OP_DUPLICATE"))

abbrev pub IsOperationIn : Option Json → Bool → Type 0
IsOperationIn None is_duplicate = ⊥
IsOperationIn (Some d) is_duplicate = IsOperation d is_duplicate

-- the rights that keep all that there are
abbrev pub same_rights : ℕ
same_rights = 2147483648

abbrev pub AreRights : Option Json → ℕ → Type 0
AreRights None rights = rights ≡ same_rights
AreRights (Some d) rights = IsMask d rights

-- a value is this handle that is sent
abbrev pub IsDisposition : Json → Disposition → Type 0
IsDisposition d sent =
    IsOperationIn (field member.Operation (Some d)) sent.is_duplicate × IsNumberIn (field member.Handle (Some d)) sent.handle
    × AreRights (field member.Rights (Some d)) sent.rights

abbrev pub AreDispositions : Items → List Disposition → Type 0
AreDispositions no_items [] = Unit {0}
AreDispositions no_items (sent ∷ others) = ⊥
AreDispositions (item d ds) [] = ⊥
AreDispositions (item d ds) (sent ∷ others) = IsDisposition d sent × AreDispositions ds others

-- a list of them; none, where it is left out
abbrev pub AreDispositionsIn : Option Json → List Disposition → Type 0
AreDispositionsIn None all = all ≡ []
AreDispositionsIn (Some d) all = (list : Items) × (as_array d ≡ Some list) × AreDispositions list all

-- the call that makes of the handle at this place the one that is sent: none, where it is sent as it is
abbrev pub copy_of : ℕ → Disposition → Option PartCall
copy_of place sent =
    if sent.is_duplicate then Some (record { gives = Some place; given = None; call = call.HandleDuplicate sent.handle sent.rights })
    else (if sent.rights == same_rights then None else Some (record { gives = Some place; given = None; call = call.HandleReplace sent.handle sent.rights }))

abbrev pub copies_from : ℕ → List Disposition → List PartCall
copies_from place [] = []
copies_from place (sent ∷ others) = cons_option (copy_of place sent) (copies_from (suc place) others)

abbrev pub copies_of : List Disposition → List PartCall
copies_of all = copies_from 0 all

-- the handles as the process has them
abbrev pub sources_of : List Disposition → List ℕ
sources_of all = map (λ sent. sent.handle) all

-- `all` are the handles that the line sends, and the parcel has the line's bytes and, for these handles, those of the process
abbrev pub IsWriteOf : Option Json → Option Json → List Disposition → Parcel → Type 0
IsWriteOf bytes handles all parcel = AreDispositionsIn handles all × AreBytes bytes parcel.bytes × (parcel.handles ≡ sources_of all)

-- ---- what stands in

-- whether a line gives the handles of an object of this kind
abbrev pub gives : OtherKind → Option Json → Bool
gives kind out =
    is_some (field member.Handles out) || (if has_ends kind then is_some (field member.FirstHandle out) else is_some (field member.OnlyHandle out))

abbrev pub stand_in : OtherKind → Call
stand_in kind = if has_ends kind then call.EventPairCreate else call.EventCreate

-- an event stands in for an object with one handle, and a pair of them for one with two ends, where the line gives handles to it
abbrev pub made_by : Option Status → OtherKind → Option Json → List PartCall
made_by (Some status.Ok) kind out = if gives kind out then alone (stand_in kind) ∷ [] else []
made_by _ kind out = []

-- ---- the calls of a line

abbrev pub AreCloses : Option Json → List PartCall → Type 0
AreCloses args parts = (handles : List ℕ) × AreHandles (field member.Handles args) handles × (parts ≡ closes_of handles)

-- what is written, by the names of the bytes and the handles
abbrev pub AreWritten : Member → Member → Option Json → List PartCall → Type 0
AreWritten bytes handles args parts =
    (handle : ℕ) × (parcel : Parcel) × (all : List Disposition) × IsNumberIn (field member.Handle args) handle
    × IsWriteOf (field bytes args) (field handles args) all parcel × (parts ≡ copies_of all ++ alone (call.ChannelWrite handle parcel) ∷ [])

abbrev pub AreWrites : Option Json → List PartCall → Type 0
AreWrites args parts = AreWritten member.Bytes member.Handles args parts

-- ---- channel_call

-- a write of handles as they are
abbrev pub AreRequests : Option Json → List PartCall → Type 0
AreRequests args parts =
    (handle : ℕ) × (parcel : Parcel) × IsNumberIn (field member.Handle args) handle × AreBytes (field member.WrittenBytes args) parcel.bytes
    × AreHandles (field member.WrittenHandles args) parcel.handles × (parts ≡ alone (call.ChannelWrite handle parcel) ∷ [])

-- whether the call read: an answer came, or its peer was closed meanwhile
abbrev pub has_read : Option Status → Bool
has_read (Some status.Ok) = true
has_read (Some status.PeerClosed) = true
has_read (Some status.BufferTooSmall) = true
has_read _ = false

-- a read of the answer, which is gone where there is too little room for it
abbrev pub IsAnswerRead : Option Json → Call → Type 0
IsAnswerRead args (call.ChannelRead handle bytes handles discard) =
    IsNumberIn (field member.Handle args) handle × IsNumberIn (field member.ReadByteRoom args) bytes
    × IsNumberIn (field member.ReadHandleRoom args) handles × (discard ≡ true)
IsAnswerRead args other = ⊥

abbrev pub AreAnswerReads : Bool → Option Json → List PartCall → Type 0
AreAnswerReads false args parts = parts ≡ []
AreAnswerReads true args parts = (it : Call) × IsAnswerRead args it × (parts ≡ alone it ∷ [])

-- the calls of a channel_call: those that write, and a read if the call read
abbrev pub AreCallsWith : (Option Json → List PartCall → Type 0) → Option Json → List PartCall → Type 0
AreCallsWith AreWrittenBy line parts =
    (writes reads : List PartCall) × AreWrittenBy (field member.Args line) writes
    × AreAnswerReads (has_read (status_in line)) (field member.Args line) reads × (parts ≡ writes ++ reads)

-- ---- process_create

-- what stands in for the address space, where the line gives a handle to it
abbrev pub IsSpaceAt : Option Json → List PartCall → Type 0
IsSpaceAt None parts = parts ≡ []
IsSpaceAt (Some d) parts = (n : ℕ) × IsNumber d n × (parts ≡ record { gives = None; given = Some n; call = call.EventCreate } ∷ [])

abbrev pub AreSpaces : Option Status → Option Json → List PartCall → Type 0
AreSpaces (Some status.Ok) space parts = IsSpaceAt space parts
AreSpaces _ space parts = parts ≡ []

-- the calls of a process_create: what stands in for the address space, if anything does, and a spawn
abbrev pub AreCreates : Option Json → List PartCall → Type 0
AreCreates line parts =
    (spaces : List PartCall) × (job : ℕ) × AreSpaces (status_in line) (field member.VmarHandle (field member.Out line)) spaces
    × IsNumberIn (field member.Job (field member.Args line)) job × (parts ≡ spaces ++ alone (call.Spawn job 0) ∷ [])

-- ---- stand-ins

abbrev pub AreMade : OtherKind → Option Json → List PartCall → Type 0
AreMade kind line parts = parts ≡ made_by (status_in line) kind (field member.Out line)

-- whether a line of this name is always one call
abbrev pub is_one_call : CallName → Bool
is_one_call called.HandleCloseMany = false
is_one_call called.ChannelWriteEtc = false
is_one_call called.ChannelCall = false
is_one_call called.ChannelCallEtc = false
is_one_call called.ProcessCreate = false
is_one_call (called.Made kind) = false
is_one_call name = true

-- the calls that stand for a line of this name with these options
abbrev pub AreCallsOf : CallName → Option Json → ℕ → List PartCall → Type 0
AreCallsOf called.HandleCloseMany line options parts = AreCloses (field member.Args line) parts
AreCallsOf called.ChannelWriteEtc line options parts = AreWrites (field member.Args line) parts
AreCallsOf called.ChannelCall line options parts = AreCallsWith AreRequests line parts
AreCallsOf called.ChannelCallEtc line options parts = AreCallsWith (AreWritten member.WrittenBytes member.WrittenHandles) line parts
AreCallsOf called.ProcessCreate line options parts = AreCreates line parts
AreCallsOf (called.Made kind) line options parts = AreMade kind line parts
AreCallsOf name line options parts = (it : Call) × IsCallOf name (field member.Args line) options it × (parts ≡ alone it ∷ [])
