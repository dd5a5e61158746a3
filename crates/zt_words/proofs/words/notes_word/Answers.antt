-- The argument has a rule on another.
use Rattle.std.proofs.Common.{◌∙◌, ap, false}
use Rattle.clap.specs.Words.{Rule}
use Rattle.zt_words.proofs.WordLaws.{rule_of-needing}
use Rattle.zt_words.proofs.words.notes_word.Goals as goal

pub returns-clause-rule : goal.returns-clause-rule
returns-clause-rule c =
    rule_of-needing c.notes_flag.result c.in_ok-word.word _ c.in_ok-word.ensures c.notes_flag.ensures.alone
    ∙ ap (λ (r : Rule). record r { is_free = false }) c.notes_flag.ensures.rule
