-- The values of the words behind `serve`.
use Rattle.std.proofs.Common.{codes}
use Rattle.std.specs.Str.Parse.{ParsesUnsigned, ExplainsUnsignedError, HasUnsignedDigitsIfOk}
use Rattle.clap.specs.Words.{found_of}
use Rattle.zt_words.proofs.WordLaws.{number_of_row, value_of_row}
use Rattle.zt_words.proofs.words.serve_of.Goals as goal

pub returns : goal.returns
returns c =
    let words = found_of c.args.words.now in (
      rw c.unwrap_or.ensures (number_of_row (λ bs r. ParsesUnsigned 16 10 bs r × ExplainsUnsignedError 10 bs r × HasUnsignedDigitsIfOk bs r) 16 words (codes "PORT") c.get_one.result 0 (λ t x h. h.0) c.get_one.ensures.value),
      rw c.unwrap_or-2.ensures (number_of_row (λ bs r. ParsesUnsigned 8 10 bs r × ExplainsUnsignedError 10 bs r × HasUnsignedDigitsIfOk bs r) 8 words (codes "clients") c.get_one-2.result 1 (λ t x h. h.0) c.get_one-2.ensures.value),
      value_of_row words (codes "from") c.get_str.result c.get_str.ensures,
      value_of_row words (codes "save-tree") c.get_str-2.result c.get_str-2.ensures,
      c.flag_in.ensures,
    )
