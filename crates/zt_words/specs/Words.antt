-- The command line, and what the words of the command line ask for.
use Rattle.std.specs.Prelude.{◌≡◌, ◌≤◌, ◌<◌, length, List, [], ◌∷◌, Option, Some, None, true, false, codes, pos, option_map, unwrap_or, IfSome}
use Rattle.clap.specs.Words.{App, Row, Rule, Text, first_of, one_of, subcommand_of, new_app, new_rule, with_rule, with_subcommand}
use Rattle.clap.specs.declared.builder.ArgAction.TheVariants.{Set}
use Rattle.clap.specs.declared.builder.value_parser.ValueParser.TheVariants as parser
use Rattle.zt_words.specs.declared.words.Asked.{Asked}
use Rattle.zt_words.specs.declared.words.Asked.TheVariants as asked
use Rattle.zt_words.specs.LookWords.{IsLookOf, look_line}
use Rattle.zt_words.specs.Rules.{IsFlagOf, IsNumberOf, flag, needed, valued}

-- the lines to run, or `-`
abbrev pub file_word : Rule
file_word = record (new_rule (codes "FILE")) { action = Some Set; defaults = codes "-" ∷ [] }

abbrev pub port_word : Rule
port_word = record (needed (codes "PORT")) { parser = Some (parser.Signed (pos 1) (pos 65535)) }

abbrev pub clients_word : Rule
clients_word = record (valued (codes "clients")) { parser = Some (parser.Signed (pos 1) (pos 4)); defaults = codes "1" ∷ [] }

-- not without `--save`
abbrev pub notes_word : Rule
notes_word = record (flag (codes "notes")) { is_free = false }

-- `run [FILE] [--from TRACE] [--save OUT]`
abbrev pub save_line : App
save_line = with_rule (with_rule (with_rule (new_app (codes "run")) file_word) (valued (codes "from"))) (valued (codes "save"))

-- .. `[--notes] [--save-tree OUT] [--explain]`
abbrev pub run_line : App
run_line = with_rule (with_rule (with_rule save_line notes_word) (valued (codes "save-tree"))) (flag (codes "explain"))

-- `serve PORT [--clients N] [--from TRACE] [--save-tree OUT] [--explain]`
abbrev pub serve_line : App
serve_line =
    with_rule (with_rule (with_rule (with_rule (with_rule (new_app (codes "serve")) port_word) clients_word) (valued (codes "from")))
    (valued (codes "save-tree"))) (flag (codes "explain"))

-- the program itself, with its version, before its subcommands are added: it needs one of them
abbrev pub program : App
program = record { top = record (new_app (codes "zxtt")).top { has_version = true; subcommand_required = true }; subs = [] }

-- `run` and `serve`, which answer line by line
abbrev pub talk_line : App
talk_line = with_subcommand (with_subcommand program run_line.top) serve_line.top

abbrev pub command_line : App
command_line = with_subcommand talk_line look_line.top

-- what is asked for behind `run`, by the values of its words
abbrev pub IsRunOf : List Row → Asked → Type 0
IsRunOf rows (asked.Run words) =
    (words.file.now ≡ unwrap_or (first_of (codes "FILE") rows) (codes "-"))
    × (option_map (λ s. s.now) words.from ≡ first_of (codes "from") rows)
    × (option_map (λ s. s.now) words.save ≡ first_of (codes "save") rows)
    × IsFlagOf (one_of (codes "notes") rows) words.notes
    × (option_map (λ s. s.now) words.save_tree ≡ first_of (codes "save-tree") rows)
    × IsFlagOf (one_of (codes "explain") rows) words.explain
IsRunOf rows _ = ⊥

-- what is asked for behind `serve`
abbrev pub IsServeOf : List Row → Asked → Type 0
IsServeOf rows (asked.Serve words) =
    IsNumberOf 16 (one_of (codes "PORT") rows) words.port × IsNumberOf 8 (one_of (codes "clients") rows) words.clients
    × (option_map (λ s. s.now) words.from ≡ first_of (codes "from") rows)
    × (option_map (λ s. s.now) words.save_tree ≡ first_of (codes "save-tree") rows)
    × IsFlagOf (one_of (codes "explain") rows) words.explain
IsServeOf rows _ = ⊥

-- what is asked for behind `look`
abbrev pub IsLookedFor : List Row → Asked → Type 0
IsLookedFor rows (asked.Look look) = IsLookOf rows look
IsLookedFor rows _ = ⊥

-- what is asked for by the word that was met and the values of the words behind it
abbrev pub IsAskedBy : Option (Text × List Row) → Asked → Type 0
IsAskedBy met asked = IfSome met (λ word. (word.0 ≡ codes "run" → IsRunOf word.1 asked) × (word.0 ≡ codes "serve" → IsServeOf word.1 asked)
    × (word.0 ≡ codes "look" → IsLookedFor word.1 asked))

-- to run standard input, from the opening
abbrev pub IsStandardInput : Asked → Type 0
IsStandardInput (asked.Run words) =
    (words.file.now ≡ codes "-") × (words.from ≡ None) × (words.save ≡ None) × (words.notes ≡ false) × (words.save_tree ≡ None) × (words.explain ≡ false)
IsStandardInput _ = ⊥

-- what is asked for with these words, the program's own name among them
abbrev pub IsAskedWith : List Text → Asked → Type 0
IsAskedWith words asked =
    (length words ≤ 1 → IsStandardInput asked) × (1 < length words → IsAskedBy (subcommand_of command_line words) asked)
