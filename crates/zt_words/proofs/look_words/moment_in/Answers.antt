-- The number of the word, or that it lacks.
use Rattle.std.proofs.Common.{Some, None}
use Rattle.std.specs.Str.Parse.{ParsesUnsigned, ExplainsUnsignedError, HasUnsignedDigitsIfOk}
use Rattle.clap.specs.Words.{found_of}
use Rattle.zt_words.proofs.WordLaws.{optional_number_of_row}
use Rattle.zt_words.proofs.look_words.moment_in.Goals as goal

pub returns-in-Some : goal.returns-in-Some
returns-in-Some c =
    optional_number_of_row _ (λ bs r. ParsesUnsigned 32 10 bs r × ExplainsUnsignedError 10 bs r × HasUnsignedDigitsIfOk bs r) 32
    (found_of c.args.words.now) c.args.name.now (Some c.in-Some.moment) (λ t x h. h.0) c.in-Some.ensures.none c.in-Some.ensures.value

pub returns-in-None : goal.returns-in-None
returns-in-None c =
    optional_number_of_row _ (λ bs r. ParsesUnsigned 32 10 bs r × ExplainsUnsignedError 10 bs r × HasUnsignedDigitsIfOk bs r) 32
    (found_of c.args.words.now) c.args.name.now None (λ t x h. h.0) c.in-None.ensures.none c.in-None.ensures.value
