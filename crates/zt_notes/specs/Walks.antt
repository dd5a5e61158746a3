-- Going over the fields of a line from the left: what each of them is.
use Rattle.std.specs.Prelude.{ℕ, drop, List, [], ◌∷◌, Option, None, if◌then◌else◌, codes}
use Rattle.std.specs.Option.{unwrap_or}
use Rattle.std.specs.Str.{bytes_eq}
use Rattle.zt_text.specs.Numbers.{koid_of, moment_of}
use Rattle.zt_notes.specs.declared.shapes.Field.{Field}
use Rattle.zt_notes.specs.declared.shapes.Field.TheVariants as field
use Rattle.zt_notes.specs.declared.shapes.Shape.{Shape}
use Rattle.zt_notes.specs.Forms.{arguments_of, count_form, form_of, lister_of, message_form, origin_form, place_form, row_form, step_form, values_of}

-- a place between two fields: whose handles the handle values behind it are, what the fields behind it are, and what the
-- values are in the reply to the call that the line shows
pub record Walk : Type 0 where
  pub process : ℕ
  pub fields : List Field
  pub values : List Field

-- ahead of the first field
abbrev pub start : Shape → Walk
start shape = record { process = lister_of shape; fields = form_of shape; values = [] }

-- what the next field is
abbrev pub next_field : List Field → Field
next_field [] = field.Plain
next_field (first ∷ others) = first

-- whose handles they are behind a field with this word
abbrev pub process_behind : Walk → Field → List ℕ → ℕ
process_behind walk field.Process word = unwrap_or (koid_of word) walk.process
process_behind walk field.Origin word = unwrap_or (koid_of word) walk.process
process_behind walk _ word = walk.process

-- what the fields are behind a field with this word
abbrev pub fields_behind : Walk → Field → List ℕ → List Field
fields_behind walk field.Call word = arguments_of word
fields_behind walk field.Status word = if bytes_eq word (codes "ok") then walk.values else []
fields_behind walk field.Row word = row_form word
fields_behind walk field.Message word = message_form word
fields_behind walk field.Count word = count_form word
fields_behind walk field.Step word = step_form word
fields_behind walk field.Origin word = origin_form word
fields_behind walk field.Place word = place_form word
fields_behind walk _ word = drop 1 walk.fields

abbrev pub values_behind : Walk → Field → List ℕ → List Field
values_behind walk field.Call word = values_of word
values_behind walk _ word = walk.values

-- behind the next field, which is this word; the sign `=>` begins a reply wherever it is
abbrev pub behind : Walk → List ℕ → Walk
behind walk word = record {
  process = process_behind walk (next_field walk.fields) word;
  fields = if bytes_eq word (codes "=>") then field.Status ∷ [] else fields_behind walk (next_field walk.fields) word;
  values = values_behind walk (next_field walk.fields) word;
}

-- the number in the field of a moment, or what a later field tells
abbrev pub moment_or : Field → List ℕ → Option ℕ → Option ℕ
moment_or field.Moment word later = moment_of word
moment_or _ word later = later

-- the moment whose call a line with these fields shows, if it shows one
abbrev pub moment_shown : Walk → List (List ℕ) → Option ℕ
moment_shown walk [] = None
moment_shown walk (word ∷ words) = moment_or (next_field walk.fields) word (moment_shown (behind walk word) words)
