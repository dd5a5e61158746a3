-- Which lines of a log are calls.
use Rattle.std.specs.Prelude.{ℕ, suc, ◌||◌, ◌==◌, Bool, List, [], ◌∷◌, Option, Some, None, option_and_then, if◌then◌else◌}
use Rattle.std.specs.List.{list_all, cons_option}
use Rattle.std.specs.Option.{option_map}
use Rattle.std.specs.Str.{is_utf8}
use Rattle.json.specs.Json.{Json, document}
use Rattle.json.specs.Find.{as_str}
use Rattle.zt_logs.specs.declared.call_names.CallName.{CallName}
use Rattle.zt_logs.specs.declared.places.Member.TheVariants as member
use Rattle.zt_logs.specs.Lines.{lines_of, without_mark}
use Rattle.zt_logs.specs.CallNames.{call_named}
use Rattle.zt_logs.specs.Members.{field}

-- a space, a tabulator or a carriage return
abbrev pub is_space : ℕ → Bool
is_space byte = byte == 32 || byte == 9 || byte == 13

-- the JSON value that bytes are, if they are one
unfoldable pub json_of : List ℕ → Option Json
json_of bytes = if is_utf8 bytes then document bytes else None

-- the JSON value of a line; nothing, where it is blank or no JSON
abbrev pub value_of : List ℕ → Option Json
value_of line = if list_all is_space line then None else json_of line

-- the call that the value of a line names; nothing, where the semantics has no such call
abbrev pub called : Json → Option CallName
called d = option_and_then call_named (option_and_then as_str (field member.Call (Some d)))

-- a line that is a call: its number, and its value
abbrev pub Entry : Type 0
Entry = ℕ × Json

abbrev pub entry_for : ℕ → Json → Option Entry
entry_for number d = option_map (λ _. (number, d)) (called d)

abbrev pub entry_of : ℕ → List ℕ → Option Entry
entry_of number line = option_and_then (entry_for number) (value_of line)

-- those of lines that stand behind so many others
abbrev pub entries_behind : ℕ → List (List ℕ) → List Entry
entries_behind count [] = []
entries_behind count (line ∷ lines) = cons_option (entry_of (suc count) line) (entries_behind (suc count) lines)

-- those of a log
abbrev pub entries_of : List ℕ → List Entry
entries_of text = entries_behind 0 (lines_of (without_mark text))
