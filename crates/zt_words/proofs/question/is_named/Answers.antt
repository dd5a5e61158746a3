-- The texts of the words are those behind their references.
use Rattle.std.proofs.Common.{sym, ◌∙◌}
use Rattle.zt_words.proofs.QuestionLaws.{any_named}
use Rattle.zt_words.proofs.question.is_named.Goals as goal

pub returns : goal.returns
returns c = c.is_among.ensures ∙ sym (any_named c.args.words.now c.args.name.now)
