-- What each step of a table makes from the next field: a member, or nothing where the field has not its form.
use Rattle.std.specs.Prelude.{ℕ, ◌==◌, true, List, [], ◌∷◌, length, Option, Some, None, if◌then◌else◌}
use Rattle.std.specs.Str.{bytes_eq}
use Rattle.json.specs.Token as json
use Rattle.zt_json.specs.declared.words.Word.{Word}
use Rattle.zt_json.specs.declared.steps.Step.{Step}
use Rattle.zt_json.specs.declared.steps.Step.TheVariants.{Exactly, Number, Moment, Koid, Process, Handle, Text, Bytes, Mask, Handles, Held, Flag, Marked, Null}
use Rattle.std.specs.Str.Lossy.{utf8_lossy}
use Rattle.zt_json.specs.declared.words.Word.TheVariants.{Note}
use Rattle.zt_text.specs.Notes.{note_at}
use Rattle.zt_text.specs.Numbers.{koid_of, moment_of}
use Rattle.zt_json.specs.Words.{text_of}
use Rattle.zt_json.specs.Names.{koid_name, handle_name}
use Rattle.zt_json.specs.Values.{◌>>=◌, number_value, bytes_text, elements_of, handles_value, any_named, handle_names_value, halves, mask_members, all_held_value, note_value}
use Rattle.zt_json.specs.Made.{Made, put, put_key, put_name, put_value, with_tokens, taken, next_is, is_read}

-- the field is this word, and nothing is made of it
abbrev pub exactly : Word → Made → Option Made
exactly word made = taken made >>= λ field. if bytes_eq field.0.text (text_of word) then Some field.1 else None

abbrev pub number : Word → Made → Option Made
number key made = taken made >>= λ field. put_value field.1 (number_value field.0.text (put_key key field.1).tokens)

-- a number, with what the field is
abbrev pub numbered : Word → Made → Option (List ℕ × Made)
numbered key made = taken made >>= λ field.
    put_value field.1 (number_value field.0.text (put_key key field.1).tokens) >>= λ after. Some (field.0.text, after)

abbrev pub number_or_none : Option ℕ → ℕ
number_or_none None = 0
number_or_none (Some moment) = moment

-- the moment of the call that the line shows
abbrev pub moment : Word → Made → Option Made
moment key made = numbered key made >>= λ read. Some (record read.1 { moment = number_or_none (moment_of read.0) })

-- a koid, and the name of its object
abbrev pub koid : Word → Word → Made → Option Made
koid key name made = numbered key made >>= λ read. Some (put_name name (koid_name made.notes read.0) read.1)

-- the koid of a process, and its name; the handles behind it are those of this process
abbrev pub process : Word → Word → Made → Option Made
process key name made = numbered key made >>= λ read.
    Some (put_name name (koid_name made.notes read.0) (record read.1 { process = number_or_none (koid_of read.0) }))

-- a handle, and its name
abbrev pub handle : Word → Word → Made → Option Made
handle key name made = numbered key made >>= λ read. Some (put_name name (handle_name made.notes made.process read.0) read.1)

-- the word as it is in the line, and what is made with it
abbrev pub worded : Word → Made → Option (List ℕ × Made)
worded key made = taken made >>= λ field. Some (field.0.text, put (json.string field.0.text) (put_key key field.1))

abbrev pub text : Word → Made → Option Made
text key made = worded key made >>= λ word. Some word.1

abbrev pub bytes : Word → Made → Option Made
bytes key made = taken made >>= λ field. Some (put (json.string (bytes_text field.0.text)) (put_key key field.1))

-- a mask, and then the names of its bits as the line with names has them
abbrev pub mask : Word → Word → Made → Option Made
mask key names made =
    taken made >>= λ field. Some (with_tokens (mask_members (text_of key) (text_of names) field.0.text field.0.named field.1.tokens) field.1)

-- the array of the names of a list's handles, if one of them has a name
abbrev pub put_names : Word → List ℕ → Made → Made
put_names key list made =
    if any_named made.notes made.process (elements_of list) then
    with_tokens (handle_names_value made.notes made.process list (put_key key made).tokens) made
    else made

-- a list of handles, and the names of those that have one
abbrev pub handles : Word → Word → Made → Option Made
handles key names made = taken made >>= λ field.
    put_value field.1 (handles_value field.0.text (put_key key field.1).tokens) >>= λ after. Some (put_names names field.0.text after)

abbrev pub held : Word → Made → Option Made
held key made =
    taken made >>= λ field. put_value field.1 (all_held_value made.notes field.0.text field.0.named (put_key key field.1).tokens)

-- a word that may be left out: `true` where it stands
abbrev pub flag : Word → Made → Option Made
flag word made =
    if next_is word made then (taken made >>= λ field. Some (put (json.boolean true) (put_key word field.1))) else Some made

-- the koid behind the word and a colon, and the name of its object
abbrev pub koid_behind : Word → Word → List ℕ → Made → Option Made
koid_behind word name field made = halves field >>= λ parts.
    if bytes_eq parts.0 (text_of word) then
    (put_value made (number_value parts.1 (put_key word made).tokens) >>= λ after. Some (put_name name (koid_name made.notes parts.1) after))
    else None

-- that member, where a field is left
abbrev pub marked : Word → Word → Made → Option Made
marked word name made =
    if is_read made.fields then Some made else (taken made >>= λ field. koid_behind word name field.0.text field.1)

-- the lines of the note of the moment whose call the line shows, if there is one
abbrev pub noted : Made → Made
noted made =
    if length (note_at made.notes made.moment) == 0 then made
    else with_tokens (note_value (utf8_lossy (note_at made.notes made.moment)) (put_key Note made).tokens) made

-- one step of a table
abbrev pub performed : Step → Made → Option Made
performed (Exactly word) made = exactly word made
performed (Number key) made = number key made
performed (Moment key) made = moment key made
performed (Koid key name) made = koid key name made
performed (Process key name) made = process key name made
performed (Handle key name) made = handle key name made
performed (Text key) made = text key made
performed (Bytes key) made = bytes key made
performed (Mask key names) made = mask key names made
performed (Handles key names) made = handles key names made
performed (Held key) made = held key made
performed (Flag word) made = flag word made
performed (Marked word name) made = marked word name made
performed (Null key) made = Some (put json.null (put_key key made))

-- the steps of a table, one after another
unfoldable pub performed_all : List Step → Made → Option Made
performed_all [] made = Some made
performed_all (step ∷ steps) made = performed step made >>= performed_all steps
