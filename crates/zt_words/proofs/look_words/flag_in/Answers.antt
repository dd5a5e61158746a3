-- The flag.
use Rattle.clap.specs.Words.{found_of}
use Rattle.zt_words.proofs.WordLaws.{flag_of_row}
use Rattle.zt_words.proofs.look_words.flag_in.Goals as goal

pub returns : goal.returns
returns c = flag_of_row (found_of c.args.words.now) c.args.name.now c.get_flag.result c.get_flag.ensures.none c.get_flag.ensures.value c.get_flag.ensures.other
