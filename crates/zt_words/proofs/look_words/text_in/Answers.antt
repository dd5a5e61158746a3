-- The value of the word.
use Rattle.std.proofs.Common.{◌∙◌, ap, Bor, List, ℕ}
use Rattle.clap.specs.Words.{found_of}
use Rattle.zt_words.proofs.WordLaws.{text_of_row}
use Rattle.zt_words.proofs.look_words.text_in.Goals as goal

pub returns : goal.returns
returns c = ap (λ (s : Bor (List ℕ)). s.now) c.unwrap_or.ensures ∙ text_of_row (found_of c.args.words.now) c.args.name.now c.get_str.result _ c.get_str.ensures
