-- What `parse` reads is within the bound, or there is nothing to read.
use Rattle.std.proofs.Common.{rules}
use Rattle.zt_words.proofs.QuestionLaws.{no_number, number_within}
use Rattle.zt_words.proofs.question.number_up_to.Goals as goal

pub returns-in-Ok-clause-number : goal.returns-in-Ok-clause-number
returns-in-Ok-clause-number c = number_within c.args.most c.in-Ok.number c.args.word.now c.in-Ok.ensures.value.0.0 c.in-Ok.ensures.value.0.1 (search rules)

pub returns-in_default-2-clause-number : goal.returns-in_default-2-clause-number
returns-in_default-2-clause-number c = no_number c.args.most c.args.word.now c.in_default.ensures.value.0
