-- None of the words that were gone over is the one that is looked for.
use Rattle.std.proofs.Common.{◌≡◌, false, take}
use Rattle.std.specs.List.{list_any}
use Rattle.std.specs.Str.{bytes_eq}
use Rattle.zt_words.proofs.question.is_among.Given as goal

abbrev pub invariant-loop-word : goal.invariant-loop-word
invariant-loop-word l = list_any (λ s. bytes_eq s.now l.name) (take l.word-index l.words) ≡ false
