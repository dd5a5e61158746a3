-- What a line says that was answered.
use Rattle.std.specs.Prelude.{◌≡◌, ◌⊎◌, ℕ, Bool, true, false, List, [], ◌∷◌, Option, Some, None, option_and_then, take, drop, if◌then◌else◌, codes}
use Rattle.std.specs.Str.{bytes_eq}
use Rattle.json.specs.Json.{Json, Items, no_items, item}
use Rattle.json.specs.Find.{as_str, as_array, get}
use Rattle.zt_bits.specs.declared.statuses.Status.{Status}
use Rattle.zt_bits.specs.declared.statuses.Status.TheVariants as status
use Rattle.zt_logs.specs.declared.call_names.CallName.{CallName}
use Rattle.zt_logs.specs.declared.call_names.CallName.TheVariants as called
use Rattle.zt_logs.specs.declared.places.Member.TheVariants as member
use Rattle.zt_logs.specs.Members.{field, first_name}
use Rattle.zt_logs.specs.Numbers.{IsNumber, IsNumberIn}
use Rattle.zt_logs.specs.OtherKinds.{has_ends}
use Rattle.zt_logs.specs.LoggedCalls.{AreHandles}

-- the statuses of most calls by their words
unfoldable pub first_word : List ℕ → Option Status
first_word text =
    if bytes_eq text (codes "ok") then Some status.Ok
    else (if bytes_eq text (codes "ZX_OK") then Some status.Ok
    else (if bytes_eq text (codes "bad_handle") then Some status.BadHandle
    else (if bytes_eq text (codes "wrong_type") then Some status.WrongType
    else (if bytes_eq text (codes "access_denied") then Some status.AccessDenied
    else (if bytes_eq text (codes "invalid_args") then Some status.InvalidArgs
    else (if bytes_eq text (codes "not_supported") then Some status.NotSupported
    else (None)))))))

-- the others
unfoldable pub other_word : List ℕ → Option Status
other_word text =
    if bytes_eq text (codes "peer_closed") then Some status.PeerClosed
    else (if bytes_eq text (codes "should_wait") then Some status.ShouldWait
    else (if bytes_eq text (codes "buffer_too_small") then Some status.BufferTooSmall
    else (if bytes_eq text (codes "timed_out") then Some status.TimedOut
    else (if bytes_eq text (codes "bad_state") then Some status.BadState
    else (if bytes_eq text (codes "out_of_range") then Some status.OutOfRange
    else (if bytes_eq text (codes "not_found") then Some status.NotFound
    else (if bytes_eq text (codes "already_bound") then Some status.AlreadyBound
    else (None))))))))

-- those of most calls by the names of the system's reference, behind `ZX_ERR_`
unfoldable pub first_name_of : List ℕ → Option Status
first_name_of text =
    if bytes_eq text (codes "BAD_HANDLE") then Some status.BadHandle
    else (if bytes_eq text (codes "WRONG_TYPE") then Some status.WrongType
    else (if bytes_eq text (codes "ACCESS_DENIED") then Some status.AccessDenied
    else (if bytes_eq text (codes "INVALID_ARGS") then Some status.InvalidArgs
    else (if bytes_eq text (codes "NOT_SUPPORTED") then Some status.NotSupported
    else (if bytes_eq text (codes "PEER_CLOSED") then Some status.PeerClosed
    else (None))))))

-- the others
unfoldable pub other_name_of : List ℕ → Option Status
other_name_of text =
    if bytes_eq text (codes "SHOULD_WAIT") then Some status.ShouldWait
    else (if bytes_eq text (codes "BUFFER_TOO_SMALL") then Some status.BufferTooSmall
    else (if bytes_eq text (codes "TIMED_OUT") then Some status.TimedOut
    else (if bytes_eq text (codes "BAD_STATE") then Some status.BadState
    else (if bytes_eq text (codes "OUT_OF_RANGE") then Some status.OutOfRange
    else (if bytes_eq text (codes "NOT_FOUND") then Some status.NotFound
    else (if bytes_eq text (codes "ALREADY_BOUND") then Some status.AlreadyBound
    else (None)))))))

-- this status, or else that one
abbrev pub or_status : Option Status → Option Status → Option Status
or_status None other = other
or_status (Some found) other = Some found

-- the status of a word or a name; nothing, where no call of the semantics has it
abbrev pub status_of : List ℕ → Option Status
status_of text =
    if bytes_eq (take 7 text) (codes "ZX_ERR_") then or_status (first_name_of (drop 7 text)) (other_name_of (drop 7 text))
    else or_status (first_word text) (other_word text)

-- the one handle that a call gave, if the line has it
abbrev pub IsOnlyGiven : Option Json → List ℕ → Type 0
IsOnlyGiven None handles = handles ≡ []
IsOnlyGiven (Some d) handles = (n : ℕ) × IsNumber d n × (handles ≡ n ∷ [])

-- the two handles that a call gave, if the line has one of them
abbrev pub AreBothGiven : Option Json → Option Json → List ℕ → Type 0
AreBothGiven None None handles = handles ≡ []
AreBothGiven first second handles = (m n : ℕ) × IsNumberIn first m × IsNumberIn second n × (handles ≡ m ∷ n ∷ [])

-- the handles of an object, which has two ends or is one
abbrev pub AreEndsGiven : Bool → Option Json → List ℕ → Type 0
AreEndsGiven true out handles = AreBothGiven (field member.FirstHandle out) (field member.SecondHandle out) handles
AreEndsGiven false out handles = IsOnlyGiven (field member.OnlyHandle out) handles

-- handles that a call of this name gave, each by its own name
abbrev pub AreGivenByName : CallName → Option Json → List ℕ → Type 0
AreGivenByName called.EventCreate out handles = IsOnlyGiven (field member.OnlyHandle out) handles
AreGivenByName called.PortCreate out handles = IsOnlyGiven (field member.OnlyHandle out) handles
AreGivenByName called.HandleDuplicate out handles = IsOnlyGiven (field member.OnlyHandle out) handles
AreGivenByName called.HandleReplace out handles = IsOnlyGiven (field member.OnlyHandle out) handles
AreGivenByName called.JobCreate out handles = IsOnlyGiven (field member.OnlyHandle out) handles
AreGivenByName called.EventPairCreate out handles = AreBothGiven (field member.FirstHandle out) (field member.SecondHandle out) handles
AreGivenByName called.ChannelCreate out handles = AreBothGiven (field member.FirstHandle out) (field member.SecondHandle out) handles
AreGivenByName (called.Made kind) out handles = AreEndsGiven (has_ends kind) out handles
AreGivenByName name out handles = handles ≡ []

-- a handle that a message had, alone or in an object with what it names
abbrev pub IsReadNumber : Json → ℕ → Type 0
IsReadNumber d n = IsNumber d n ⊎ IsNumberIn (get (first_name member.Handle) d) n

abbrev pub AreReadNumbers : Items → List ℕ → Type 0
AreReadNumbers no_items [] = Unit {0}
AreReadNumbers no_items (n ∷ ns) = ⊥
AreReadNumbers (item d ds) [] = ⊥
AreReadNumbers (item d ds) (n ∷ ns) = IsReadNumber d n × AreReadNumbers ds ns

abbrev pub AreReadHandles : Option Json → List ℕ → Type 0
AreReadHandles None handles = handles ≡ []
AreReadHandles (Some d) handles = (list : Items) × (as_array d ≡ Some list) × AreReadNumbers list handles

-- handles that a call of this name gave: a list, or each by its own name
abbrev pub AreGivenBy : Option Json → CallName → Option Json → List ℕ → Type 0
AreGivenBy listed called.ChannelReadEtc out handles = AreReadHandles listed handles
AreGivenBy listed called.ChannelCallEtc out handles = AreReadHandles (field member.ReadHandles out) handles
AreGivenBy listed called.ChannelCall out handles = AreHandles (field member.ReadHandles out) handles
AreGivenBy listed called.ProcessCreate out handles = IsOnlyGiven (field member.ProcessHandle out) handles
AreGivenBy None name out handles = AreGivenByName name out handles
AreGivenBy (Some d) name out handles = AreHandles (Some d) handles

-- what a line says of the status and, where that is ok, of the handles that were given
abbrev pub AreAnswered : Option Status → CallName → Option Json → List ℕ → Type 0
AreAnswered (Some status.Ok) name out handles = AreGivenBy (field member.Handles out) name out handles
AreAnswered other name out handles = handles ≡ []

-- the status of a line
abbrev pub status_in : Option Json → Option Status
status_in line = option_and_then status_of (option_and_then as_str (field member.Status line))

-- the status of a line's last call: that of the line, but ok for a channel_call that timed out, whose last call was its write
abbrev pub answered_status : CallName → Option Status → Option Status
answered_status called.ChannelCall (Some status.TimedOut) = Some status.Ok
answered_status called.ChannelCallEtc (Some status.TimedOut) = Some status.Ok
answered_status name answered = answered

abbrev pub IsAnswered : CallName → Option Json → Option Status → List ℕ → Type 0
IsAnswered name line answered handles =
    (answered ≡ answered_status name (status_in line))
    × AreAnswered answered name (field member.Out line) handles
