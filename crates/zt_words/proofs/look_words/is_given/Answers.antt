-- The value of the word.
use Rattle.std.proofs.Common.{◌∙◌}
use Rattle.clap.specs.Words.{found_of}
use Rattle.zt_words.proofs.WordLaws.{given_of_row}
use Rattle.zt_words.proofs.look_words.is_given.Goals as goal

pub returns : goal.returns
returns c = c.is_some.ensures ∙ given_of_row (found_of c.args.words.now) c.args.name.now c.get_str.result c.get_str.ensures
