-- What the fields of a line are: by the question, by the words of the line, and by the name of the call that it shows. The
-- fields behind those that a form names are plain.
use Rattle.std.specs.Prelude.{ℕ, Bool, ◌||◌, List, [], ◌∷◌, if◌then◌else◌, codes}
use Rattle.std.specs.Str.{bytes_eq}
use Rattle.zt_notes.specs.declared.shapes.Field.{Field}
use Rattle.zt_notes.specs.declared.shapes.Field.TheVariants as field
use Rattle.zt_notes.specs.declared.shapes.Shape.{Shape}
use Rattle.zt_notes.specs.declared.shapes.Shape.TheVariants as shape

-- ---- by the question

abbrev pub form_of : Shape → List Field
form_of shape.Calls = field.Moment ∷ field.Process ∷ field.Call ∷ []
form_of shape.Changes = field.Plain ∷ field.Row ∷ []
form_of shape.Events = field.Moment ∷ field.Plain ∷ field.Object ∷ field.Plain ∷ field.Process ∷ field.Call ∷ []
form_of shape.Object = field.Row ∷ []
form_of (shape.Handles process) = field.Handle ∷ field.Object ∷ []
form_of shape.Messages = field.Plain ∷ field.Message ∷ []
form_of shape.Branches = []
form_of shape.Summary = field.Count ∷ []
form_of shape.Alive = field.Object ∷ field.Plain ∷ field.Plain ∷ field.Moment ∷ field.Process ∷ field.Call ∷ []
form_of shape.Life = field.Moment ∷ field.Step ∷ []
form_of shape.Lineage = field.Place ∷ []

-- the process whose handles the lines list from their first field on, or 0
abbrev pub lister_of : Shape → ℕ
lister_of (shape.Handles process) = process
lister_of _ = 0

-- ---- by a word of the line

-- the words of what happened to an object
abbrev pub tells_when : List ℕ → Bool
tells_when word =
    bytes_eq word (codes "made") || bytes_eq word (codes "ended") || bytes_eq word (codes "peer_closed") || bytes_eq word (codes "leaked")

-- behind the first word of a line about an object that is no row
abbrev pub object_form : List ℕ → List Field
object_form word =
    if bytes_eq word (codes "holders") || bytes_eq word (codes "message") || bytes_eq word (codes "child") then field.Object ∷ []
    else (if tells_when word then field.Moment ∷ field.Process ∷ field.Call ∷ []
    else [])

-- behind the first word of a row, or of a line about an object
abbrev pub row_form : List ℕ → List Field
row_form word =
    if bytes_eq word (codes "object") then field.Object ∷ field.Plain ∷ field.Plain ∷ field.Object ∷ field.Plain ∷ field.Plain ∷ field.Critical ∷ []
    else (if bytes_eq word (codes "entry") then field.Process ∷ field.Handle ∷ field.Object ∷ []
    else (if bytes_eq word (codes "msg") then field.Object ∷ field.Plain ∷ field.Plain ∷ field.Held ∷ []
    else (if bytes_eq word (codes "packet") then field.Object ∷ field.Plain ∷ field.Plain ∷ field.Plain ∷ field.Plain ∷ field.Plain ∷ field.Process ∷ field.Handle ∷ []
    else (if bytes_eq word (codes "wait") then field.Plain ∷ field.Process ∷ field.Handle ∷ field.Object ∷ []
    else object_form word))))

-- behind the second word of a message's line: its content, or one of its calls
abbrev pub message_form : List ℕ → List Field
message_form word =
    if bytes_eq word (codes "message") then field.Plain ∷ field.Held ∷ [] else field.Moment ∷ field.Process ∷ field.Call ∷ []

-- behind the first word of a line of `summary`
abbrev pub count_form : List ℕ → List Field
count_form word = if bytes_eq word (codes "calls") then field.Process ∷ [] else field.Object ∷ []

-- behind a word of a step in the life of a handle: a place and its rights behind `entry` and `message`
abbrev pub step_form : List ℕ → List Field
step_form word =
    if bytes_eq word (codes "entry") then field.Process ∷ field.Handle ∷ field.Plain ∷ field.Origin ∷ []
    else (if bytes_eq word (codes "message") then field.Object ∷ field.Plain ∷ field.Plain ∷ field.Plain ∷ field.Origin ∷ []
    else field.Step ∷ [])

-- behind the field that follows a place and its rights: the other place, or the call of the process in that field
abbrev pub origin_form : List ℕ → List Field
origin_form word = if bytes_eq word (codes "from") then field.Step ∷ [] else field.Call ∷ []

-- behind a word of the tree of handles: a place behind `entry` and `message`
abbrev pub place_form : List ℕ → List Field
place_form word =
    if bytes_eq word (codes "entry") then field.Process ∷ field.Handle ∷ field.Place ∷ []
    else (if bytes_eq word (codes "message") then field.Object ∷ field.Plain ∷ field.Plain ∷ field.Place ∷ []
    else field.Place ∷ [])

-- ---- by the name of a call

abbrev pub takes_two_handles : List ℕ → Bool
takes_two_handles name =
    bytes_eq name (codes "object_wait_async") || bytes_eq name (codes "port_cancel") || bytes_eq name (codes "spawn")
    || bytes_eq name (codes "job_set_critical")

abbrev pub takes_handle : List ℕ → Bool
takes_handle name =
    bytes_eq name (codes "handle_close") || bytes_eq name (codes "handle_duplicate") || bytes_eq name (codes "handle_replace")
    || bytes_eq name (codes "object_signal") || bytes_eq name (codes "object_signal_peer") || bytes_eq name (codes "channel_read")
    || bytes_eq name (codes "port_queue") || bytes_eq name (codes "port_wait") || bytes_eq name (codes "job_create")
    || bytes_eq name (codes "task_kill")

-- the arguments
abbrev pub arguments_of : List ℕ → List Field
arguments_of name =
    if bytes_eq name (codes "channel_write") then field.Handle ∷ field.Plain ∷ field.Handle ∷ []
    else (if takes_two_handles name then field.Handle ∷ field.Handle ∷ []
    else (if takes_handle name then field.Handle ∷ []
    else []))

abbrev pub gives_two_handles : List ℕ → Bool
gives_two_handles name = bytes_eq name (codes "eventpair_create") || bytes_eq name (codes "channel_create")

abbrev pub gives_handle : List ℕ → Bool
gives_handle name =
    bytes_eq name (codes "event_create") || bytes_eq name (codes "port_create") || bytes_eq name (codes "job_create")
    || bytes_eq name (codes "handle_duplicate") || bytes_eq name (codes "handle_replace")

-- the values behind `ok` in the reply
abbrev pub values_of : List ℕ → List Field
values_of name =
    if bytes_eq name (codes "channel_read") then field.Plain ∷ field.Handle ∷ []
    else (if bytes_eq name (codes "spawn") then field.Handle ∷ field.Process ∷ []
    else (if gives_two_handles name then field.Handle ∷ field.Handle ∷ []
    else (if gives_handle name then field.Handle ∷ []
    else [])))
