-- The forms of the lines of each answer. The tables are in `src/steps.rt`.
use Rattle.std.specs.Prelude.{ℕ, Bool, ◌||◌, List, Option, Some, if◌then◌else◌, codes}
use Rattle.std.specs.Str.{bytes_eq}
use Rattle.json.specs.Token as json
use Rattle.zt_json.specs.declared.words.Word.TheVariants.{Call, Args, Status, Reply, Arrow, Change, When, Never, Support, Holders, Number, Step, Summary}
use Rattle.zt_json.specs.declared.steps.TheConstants.{EVENT, NEVER, HOLDERS, QUEUED, BRANCH, LEAVES, CALL_COUNT, FATE, ALIVE, MOMENT, CALLER}
use Rattle.zt_json.specs.Values.{◌>>=◌}
use Rattle.zt_json.specs.Made.{Made, put, put_key, next_is, is_read, first_word}
use Rattle.zt_json.specs.Members.{exactly, number, text, worded, performed_all}
use Rattle.zt_json.specs.Calls.{arguments_of, values_of}
use Rattle.zt_json.specs.Rows.{packet, row, place_of}

-- a call: its process, its name, and its arguments as an object; with the name
abbrev pub called : Made → Option (List ℕ × Made)
called made = performed_all CALLER made >>= λ caller. worded Call caller >>= λ name.
    performed_all (arguments_of name.0) (put json.begin_object (put_key Args name.1)) >>= λ after. Some (name.0, put json.end_object after)

abbrev pub called_alone : Made → Option Made
called_alone made = called made >>= λ call. Some call.1

-- the values of a call behind its status: a packet, or else what the table of the call has
abbrev pub values_made : List ℕ → List ℕ → Made → Option Made
values_made name status made = if bytes_eq name (codes "port_wait") then packet made else performed_all (values_of name status) made

-- a status, and then the values of the call as an object, if there are any
abbrev pub replied : List ℕ → Made → Option Made
replied name made = worded Status made >>= λ status.
    if is_read status.1.fields then Some status.1
    else (values_made name status.0 (put json.begin_object (put_key Reply status.1)) >>= λ after. Some (put json.end_object after))

abbrev pub call_line : Made → Option Made
call_line made = performed_all MOMENT made >>= λ numbered. called numbered >>= λ call. exactly Arrow call.1 >>= replied call.0

abbrev pub change_line : Made → Option Made
change_line made = text Change made >>= row

abbrev pub event_line : Made → Option Made
event_line made = performed_all EVENT made >>= called_alone

-- whether a line of `object` that begins with this word tells what keeps the object
unfoldable pub is_support : List ℕ → Bool
is_support word =
    bytes_eq word (codes "entry") || bytes_eq word (codes "message") || bytes_eq word (codes "child") || bytes_eq word (codes "self")

-- whether it tells when something happened to the object
unfoldable pub is_happening : List ℕ → Bool
is_happening word =
    bytes_eq word (codes "made") || bytes_eq word (codes "ended") || bytes_eq word (codes "peer_closed") || bytes_eq word (codes "leaked")

-- when something happened to an object, with the call that did it; or `never`, which is the moment `null`
abbrev pub when_line : Made → Option Made
when_line made = text When made >>= λ happening.
    if next_is Never happening then performed_all NEVER happening else (performed_all MOMENT happening >>= called_alone)

abbrev pub support_line : Made → Option Made
support_line made = worded Support made >>= λ name. performed_all (place_of name.0) name.1

abbrev pub object_line : Made → Option Made
object_line made =
    if next_is Holders made then performed_all HOLDERS made
    else (if is_support (first_word made.fields) then support_line made
    else (if is_happening (first_word made.fields) then when_line made
    else row made))

-- a message with what it holds; or what was done with it, and by which call; or that it waits
abbrev pub message_line : Made → Option Made
message_line made = number Number made >>= λ numbered. worded Step numbered >>= λ step.
    if bytes_eq step.0 (codes "message") then performed_all QUEUED step.1
    else (if is_read step.1.fields then Some step.1 else (performed_all MOMENT step.1 >>= called_alone))

abbrev pub branch_line : Made → Option Made
branch_line made = performed_all BRANCH made >>= λ after. if is_read after.fields then Some after else performed_all LEAVES after

abbrev pub summary_line : Made → Option Made
summary_line made = worded Summary made >>= λ told.
    if bytes_eq told.0 (codes "calls") then performed_all CALL_COUNT told.1 else performed_all FATE told.1

abbrev pub alive_line : Made → Option Made
alive_line made = performed_all ALIVE made >>= called_alone
