-- The forms of rows, of packets, and of what keeps an object. The tables are in `src/steps.rt`.
use Rattle.std.specs.Prelude.{ℕ, List, Option, Some, if◌then◌else◌, codes}
use Rattle.std.specs.Str.{bytes_eq}
use Rattle.zt_json.specs.declared.words.Word.TheVariants.{Packet, Row, Gone, Life}
use Rattle.zt_json.specs.declared.steps.Step.{Step}
use Rattle.zt_json.specs.declared.steps.TheConstants.{NOTHING, USER_PACKET, SIGNAL_PACKET, ENTRY_ROW, MESSAGE_ROW, WAIT_ROW, COUNTERS_ROW, AT_ENTRY, AT_MESSAGE, ONE_KOID, PACKET_ROW, WAITING_HANDLE, OBJECT_REST}
use Rattle.zt_json.specs.Values.{◌>>=◌}
use Rattle.zt_json.specs.Made.{Made, next_is, is_read}
use Rattle.zt_json.specs.Members.{text, worded, performed_all}

-- the fields of a packet behind the word that says whose it is
unfoldable pub packet_of : List ℕ → List Step
packet_of kind = if bytes_eq kind (codes "user") then USER_PACKET else SIGNAL_PACKET

-- the fields of a row of one form behind its name
unfoldable pub row_of : List ℕ → List Step
row_of name =
    if bytes_eq name (codes "entry") then ENTRY_ROW
    else (if bytes_eq name (codes "msg") then MESSAGE_ROW
    else (if bytes_eq name (codes "wait") then WAIT_ROW
    else COUNTERS_ROW))

-- the numbers of a place, or of a support, behind its name
unfoldable pub place_of : List ℕ → List Step
place_of name =
    if bytes_eq name (codes "entry") then AT_ENTRY
    else (if bytes_eq name (codes "message") then AT_MESSAGE
    else (if bytes_eq name (codes "child") then ONE_KOID
    else NOTHING))

-- a packet, beginning with `user` or `signal`
abbrev pub packet : Made → Option Made
packet made = worded Packet made >>= λ kind. performed_all (packet_of kind.0) kind.1

-- the row of a packet behind its name; that of a wait's packet ends with the handle of the wait
abbrev pub packet_row : Made → Option Made
packet_row made = performed_all PACKET_ROW made >>= λ numbered. packet numbered >>= λ after.
    if is_read after.fields then Some after else performed_all WAITING_HANDLE after

-- the row of an object behind its name, or its koid with `gone`
abbrev pub object_row : Made → Option Made
object_row made = performed_all ONE_KOID made >>= λ after. if next_is Gone after then text Life after else performed_all OBJECT_REST after

-- a row behind its name
abbrev pub row_rest : List ℕ → Made → Option Made
row_rest name made =
    if bytes_eq name (codes "object") then object_row made
    else (if bytes_eq name (codes "packet") then packet_row made
    else performed_all (row_of name) made)

abbrev pub row : Made → Option Made
row made = worded Row made >>= λ name. row_rest name.0 name.1
