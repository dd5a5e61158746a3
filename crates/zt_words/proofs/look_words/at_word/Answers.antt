-- The argument has a rule on another.
use Rattle.std.proofs.Common.{◌∙◌, ap, false}
use Rattle.clap.specs.Words.{Rule}
use Rattle.zt_words.proofs.WordLaws.{rule_of-conflicting}
use Rattle.zt_words.proofs.look_words.at_word.Goals as goal

pub returns-clause-rule : goal.returns-clause-rule
returns-clause-rule c =
    rule_of-conflicting c.moment_word.result c.in_ok-word.word _ c.in_ok-word.ensures c.moment_word.ensures.alone
    ∙ ap (λ (r : Rule). record r { is_free = false }) c.moment_word.ensures.rule
