-- The names of what fields tell.
use Rattle.std.specs.Prelude.{ℕ, List, Option, Some, None, if◌then◌else◌}
use Rattle.std.specs.Option.{option_and_then}
use Rattle.std.specs.Str.{is_utf8}
use Rattle.zt_text.specs.Numbers.{koid_of, handle_of}
use Rattle.zt_text.specs.Notes.{Noted, name_of_subject}
use Rattle.zt_text.specs.declared.name_lines.Subject.TheVariants.{Object, Handle}

abbrev pub if_utf8 : List ℕ → Option (List ℕ)
if_utf8 name = if is_utf8 name then Some name else None

-- a name that is not UTF-8 is none
abbrev pub readable : Option (List ℕ) → Option (List ℕ)
readable name = option_and_then if_utf8 name

-- the name of the object whose koid this is
unfoldable pub koid_name : Noted → List ℕ → Option (List ℕ)
koid_name notes field = readable (option_and_then (λ koid. name_of_subject notes (Object koid)) (koid_of field))

-- the name of a process's handle whose value this is
unfoldable pub handle_name : Noted → ℕ → List ℕ → Option (List ℕ)
handle_name notes process field = readable (option_and_then (λ handle. name_of_subject notes (Handle process handle)) (handle_of field))
