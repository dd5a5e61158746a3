-- The question that the texts of the words ask.
use Rattle.std.proofs.Common.{codes, Some, None}
use Rattle.clap.specs.Words.{found_of, rows_of}
use Rattle.zt_words.proofs.WordLaws.{asked_by_rows, texts_of_row}
use Rattle.zt_words.proofs.look_words.question_in.Goals as goal

pub returns-in-Some : goal.returns-in-Some
returns-in-Some c =
    asked_by_rows (rows_of (found_of c.args.words.now)) c.options_in-options.result c.question_by.result _ _ c.options_in-options.ensures c.text_in-name.ensures
    (texts_of_row (found_of c.args.words.now) (codes "WORD") (Some c.in-Some.rest) c.in-Some.ensures) c.question_by.ensures

pub returns-in-None : goal.returns-in-None
returns-in-None c =
    asked_by_rows (rows_of (found_of c.args.words.now)) c.options_in-options.result c.question_by-in-None.result _ _ c.options_in-options.ensures c.text_in-name.ensures
    (texts_of_row (found_of c.args.words.now) (codes "WORD") None c.in-None.ensures) c.question_by-in-None.ensures
