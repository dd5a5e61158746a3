-- What is met is what the command line meets of the words.
use Rattle.std.proofs.Common.{◌≡◌}
use Rattle.zt_words.proofs.words.Words.met.Goals as goal

pub returns-in-Ok : goal.returns-in-Ok
returns-in-Ok c =
    let slice : c.as_slice.result.now ≡ c.args.self.now.words.items = c.as_slice.ensures.value in
    rw (← slice) c.in-Ok.ensures.matches
