-- The lines of calls.
use Rattle.std.specs.Prelude.{◌≡◌, ℕ, ℤ, pos, negsuc, ⊤, ◌^◌, ◌<◌, ◌≤◌, Bool, true, false, List, [], ◌∷◌, ◌++◌, length, codes}
use Rattle.std.specs.List.{All, flat_map}
use Rattle.std.specs.Fmt.{decimal, signed_decimal}
use Rattle.zt_rows.specs.declared.calls.Call.{Call}
use Rattle.zt_rows.specs.declared.calls.Call.TheVariants as calls
use Rattle.zt_text.specs.ShownNumbers.{words, shown_mask, shown_bytes, shown_list}

-- the name of a call
abbrev pub call_name : Call → List ℕ
call_name calls.EventCreate = codes "event_create"
call_name calls.EventPairCreate = codes "eventpair_create"
call_name (calls.HandleClose _) = codes "handle_close"
call_name (calls.HandleDuplicate _ _) = codes "handle_duplicate"
call_name (calls.HandleReplace _ _) = codes "handle_replace"
call_name (calls.ObjectSignal _ _ _) = codes "object_signal"
call_name (calls.ObjectSignalPeer _ _ _) = codes "object_signal_peer"
call_name calls.ChannelCreate = codes "channel_create"
call_name (calls.ChannelWrite _ _) = codes "channel_write"
call_name (calls.ChannelRead _ _ _ _) = codes "channel_read"
call_name calls.PortCreate = codes "port_create"
call_name (calls.ObjectWaitAsync _ _ _ _ _) = codes "object_wait_async"
call_name (calls.PortQueue _ _ _) = codes "port_queue"
call_name (calls.PortWait _) = codes "port_wait"
call_name (calls.PortCancel _ _ _) = codes "port_cancel"
call_name (calls.JobCreate _) = codes "job_create"
call_name (calls.Spawn _ _) = codes "spawn"
call_name (calls.JobSetCritical _ _) = codes "job_set_critical"
call_name (calls.TaskKill _) = codes "task_kill"
call_name (calls.ProcessExit _) = codes "process_exit"

-- a word that may stand at the end, where it does
abbrev pub flag_words : List ℕ → Bool → List (List ℕ)
flag_words word true = word ∷ []
flag_words word false = []

-- the arguments of a call
abbrev pub call_arguments : Call → List (List ℕ)
call_arguments calls.EventCreate = []
call_arguments calls.EventPairCreate = []
call_arguments (calls.HandleClose handle) = decimal handle ∷ []
call_arguments (calls.HandleDuplicate handle rights) = decimal handle ∷ shown_mask rights ∷ []
call_arguments (calls.HandleReplace handle rights) = decimal handle ∷ shown_mask rights ∷ []
call_arguments (calls.ObjectSignal handle clear set) = decimal handle ∷ shown_mask clear.0 ∷ shown_mask set.0 ∷ []
call_arguments (calls.ObjectSignalPeer handle clear set) = decimal handle ∷ shown_mask clear.0 ∷ shown_mask set.0 ∷ []
call_arguments calls.ChannelCreate = []
call_arguments (calls.ChannelWrite handle parcel) =
    decimal handle ∷ shown_bytes parcel.bytes ∷ shown_list decimal parcel.handles ∷ []
call_arguments (calls.ChannelRead handle bytes handles discard) =
    decimal handle ∷ decimal bytes ∷ decimal handles ∷ flag_words (codes "discard") discard
call_arguments calls.PortCreate = []
call_arguments (calls.ObjectWaitAsync handle port key signals edge) =
    decimal handle ∷ decimal port ∷ decimal key ∷ shown_mask signals.0 ∷ flag_words (codes "edge") edge
call_arguments (calls.PortQueue port key bytes) = decimal port ∷ decimal key ∷ shown_bytes bytes ∷ []
call_arguments (calls.PortWait port) = decimal port ∷ []
call_arguments (calls.PortCancel port source key) = decimal port ∷ decimal source ∷ decimal key ∷ []
call_arguments (calls.JobCreate job) = decimal job ∷ []
call_arguments (calls.Spawn job argument) = decimal job ∷ decimal argument ∷ []
call_arguments (calls.JobSetCritical job process) = decimal job ∷ decimal process ∷ []
call_arguments (calls.TaskKill handle) = decimal handle ∷ []
call_arguments (calls.ProcessExit code) = signed_decimal code ∷ []

-- a call of a process, as the line that reads as it
unfoldable pub shown_call : ℕ → Call → List ℕ
shown_call process made = words (decimal process ∷ call_name made ∷ call_arguments made)

-- a session text: its first line, and the line of each call
abbrev pub call_line : ℕ × Call → List ℕ
call_line made = shown_call made.0 made.1 ++ (10 ∷ [])

unfoldable pub session_text : List (ℕ × Call) → List ℕ
session_text made = codes "zxtt 1" ++ (10 ∷ flat_map call_line made)

-- ---- what the numbers of a call are

abbrev pub IsByte : ℕ → Type 0
IsByte byte = byte < 256

abbrev pub IsHandle : ℕ → Type 0
IsHandle handle = handle < 2 ^ 32

abbrev pub IsMask : ℕ → Type 0
IsMask bits = bits < 2 ^ 32

abbrev pub IsKey : ℕ → Type 0
IsKey key = key < 2 ^ 64

abbrev pub IsCode : ℤ → Type 0
IsCode (pos n) = n < 2 ^ 63
IsCode (negsuc n) = n < 2 ^ 63

-- a call whose numbers, masks, bytes and handles are those that a call can have
abbrev pub IsWithin : Call → Type 0
IsWithin calls.EventCreate = ⊤
IsWithin calls.EventPairCreate = ⊤
IsWithin (calls.HandleClose handle) = IsHandle handle
IsWithin (calls.HandleDuplicate handle rights) = IsHandle handle × IsMask rights
IsWithin (calls.HandleReplace handle rights) = IsHandle handle × IsMask rights
IsWithin (calls.ObjectSignal handle clear set) = IsHandle handle × IsMask clear.0 × IsMask set.0
IsWithin (calls.ObjectSignalPeer handle clear set) = IsHandle handle × IsMask clear.0 × IsMask set.0
IsWithin calls.ChannelCreate = ⊤
IsWithin (calls.ChannelWrite handle parcel) =
    IsHandle handle × All IsByte parcel.bytes × (length parcel.bytes ≤ 65536)
    × All IsHandle parcel.handles × (length parcel.handles ≤ 64)
IsWithin (calls.ChannelRead handle bytes handles _) = IsHandle handle × (bytes < 2 ^ 32) × (handles < 2 ^ 32)
IsWithin calls.PortCreate = ⊤
IsWithin (calls.ObjectWaitAsync handle port key signals _) =
    IsHandle handle × IsHandle port × IsKey key × IsMask signals.0
IsWithin (calls.PortQueue port key bytes) = IsHandle port × IsKey key × All IsByte bytes × (length bytes ≡ 32)
IsWithin (calls.PortWait port) = IsHandle port
IsWithin (calls.PortCancel port source key) = IsHandle port × IsHandle source × IsKey key
IsWithin (calls.JobCreate job) = IsHandle job
IsWithin (calls.Spawn job argument) = IsHandle job × IsHandle argument
IsWithin (calls.JobSetCritical job process) = IsHandle job × IsHandle process
IsWithin (calls.TaskKill handle) = IsHandle handle
IsWithin (calls.ProcessExit code) = IsCode code

-- a process and its call, of such numbers
abbrev pub IsCalled : ℕ × Call → Type 0
IsCalled made = (made.0 < 2 ^ 64) × IsWithin made.1
