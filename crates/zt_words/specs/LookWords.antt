-- What the words behind `look` ask for.
use Rattle.std.specs.Prelude.{◌≡◌, ◌||◌, List, [], Some, false, codes, pos, is_some, option_map, unwrap_or}
use Rattle.zt_rows.specs.Room.{most_calls}
use Rattle.clap.specs.Lexer.{usize_max}
use Rattle.clap.specs.Words.{App, Row, Rule, Text, all_of, first_of, new_app, new_rule, one_of, with_rule}
use Rattle.clap.specs.declared.builder.ArgAction.TheVariants.{Append}
use Rattle.clap.specs.declared.builder.value_parser.ValueParser.TheVariants as parser
use Rattle.zt_words.specs.declared.look_words.Look.{Look}
use Rattle.zt_words.specs.declared.question.Options.{Options}
use Rattle.zt_words.specs.declared.question.Question.{Question}
use Rattle.zt_words.specs.Questions.{question_of}
use Rattle.zt_words.specs.Rules.{IsFlagOf, IsOptionalNumberOf, flag, needed, valued}

-- ---- the command line

-- the words behind a question, one or more
abbrev pub words_word : Rule
words_word = record (new_rule (codes "WORD")) {
  action = Some Append;
  range = Some (record { start_inclusive = 1; end_inclusive = usize_max });
}

abbrev pub moment_word : Text → Rule
moment_word name = record (valued name) { parser = Some (parser.Signed (pos 0) (pos most_calls)) }

-- not beside `--branch`
abbrev pub at_word : Rule
at_word = record (moment_word (codes "at")) { is_free = false }

abbrev pub koid_word : Text → Rule
koid_word name = record (valued name) { parser = Some (parser.Unsigned 0 18446744073709551615) }

-- `look TRACE QUESTION [WORD]..`
abbrev pub question_line : App
question_line = with_rule (with_rule (with_rule (new_app (codes "look")) (needed (codes "TRACE"))) (needed (codes "QUESTION"))) words_word

-- .. `[--at MOMENT | --branch NAME | --all]`
abbrev pub place_line : App
place_line = with_rule (with_rule (with_rule question_line at_word) (valued (codes "branch"))) (flag (codes "all"))

-- .. `[--names] [--notes]`
abbrev pub path_line : App
path_line = with_rule (with_rule place_line (flag (codes "names"))) (flag (codes "notes"))

-- .. `[--failed] [--process P] [--object K]`
abbrev pub calls_line : App
calls_line = with_rule (with_rule (with_rule path_line (flag (codes "failed"))) (koid_word (codes "process"))) (koid_word (codes "object"))

-- .. `[--since M]`
abbrev pub alive_line : App
alive_line = with_rule calls_line (moment_word (codes "since"))

-- .. `[--exit-code] [--json]`
abbrev pub look_line : App
look_line = with_rule (with_rule alive_line (flag (codes "exit-code"))) (flag (codes "json"))

-- ---- what is asked for, by the values of the words

pub record AreOptionsOf (rows : List Row) (options : Options) : Type 0 where
  pub placed : options.placed ≡ (is_some (first_of (codes "at") rows) || is_some (first_of (codes "branch") rows))
  pub all : IsFlagOf (one_of (codes "all") rows) options.all
  pub failed : IsFlagOf (one_of (codes "failed") rows) options.failed
  pub process : IsOptionalNumberOf 64 (one_of (codes "process") rows) options.process
  pub object : IsOptionalNumberOf 64 (one_of (codes "object") rows) options.object
  pub since : IsOptionalNumberOf 32 (one_of (codes "since") rows) options.since

-- the question that its name, the words behind it and the options ask
pub record IsQuestionIn (rows : List Row) (question : Question) : Type 0 where
  pub options : Options
  pub given : AreOptionsOf rows options
  pub asked : question_of (unwrap_or (first_of (codes "QUESTION") rows) []) (unwrap_or (all_of (codes "WORD") rows) []) options ≡ Some question

pub record IsLookOf (rows : List Row) (look : Look) : Type 0 where
  pub file : look.file.now ≡ unwrap_or (first_of (codes "TRACE") rows) []
  pub at : IsOptionalNumberOf 32 (one_of (codes "at") rows) look.at
  pub branch : option_map (λ s. s.now) look.branch ≡ first_of (codes "branch") rows
  pub all : IsFlagOf (one_of (codes "all") rows) look.all
  pub names : IsFlagOf (one_of (codes "names") rows) look.names
  pub notes : IsFlagOf (one_of (codes "notes") rows) look.notes
  pub exit_code : IsFlagOf (one_of (codes "exit-code") rows) look.exit_code
  pub json : IsFlagOf (one_of (codes "json") rows) look.json
  pub question : IsQuestionIn rows look.question
  pub text : look.text.now ≡ unwrap_or (first_of (codes "WORD") rows) []
