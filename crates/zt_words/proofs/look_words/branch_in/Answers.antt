-- The value of the word.
use Rattle.std.proofs.Common.{codes}
use Rattle.clap.specs.Words.{found_of}
use Rattle.zt_words.proofs.WordLaws.{value_of_row}
use Rattle.zt_words.proofs.look_words.branch_in.Goals as goal

pub returns : goal.returns
returns c = value_of_row (found_of c.args.words.now) (codes "branch") c.get_str.result c.get_str.ensures
