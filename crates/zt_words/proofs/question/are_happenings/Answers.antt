-- The texts of the words are those behind their references.
use Rattle.std.proofs.Common.{sym, ◌∙◌}
use Rattle.zt_words.proofs.QuestionLaws.{all_happening}
use Rattle.zt_words.proofs.question.are_happenings.Goals as goal

pub returns : goal.returns
returns c = c.are_all_happenings.ensures ∙ sym (all_happening c.args.words.now)
