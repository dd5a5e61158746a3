-- Each of the words that were gone over is a happening's.
use Rattle.std.proofs.Common.{◌≡◌, true, take}
use Rattle.std.specs.List.{list_all}
use Rattle.zt_words.specs.Questions.{is_happening}
use Rattle.zt_words.proofs.question.are_all_happenings.Given as goal

abbrev pub invariant-loop-word : goal.invariant-loop-word
invariant-loop-word l = list_all (λ s. is_happening s.now) (take l.word-index l.words) ≡ true
