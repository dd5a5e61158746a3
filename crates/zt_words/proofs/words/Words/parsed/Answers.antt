-- What is asked for is what the words ask for.
use Rattle.std.proofs.Common.{map}
use Rattle.std.specs.Prelude.{string_bytes}
use Rattle.zt_words.proofs.WordLaws.{asked_if_met, matched_words}
use Rattle.zt_words.proofs.words.Words.parsed.Goals as goal

pub returns-in-Ok : goal.returns-in-Ok
returns-in-Ok c =
    let words = map string_bytes c.args.self.now.words.items in
    let met = matched_words _ words _ c.in_ok-command.ensures c.in-Ok.ensures in
    asked_if_met words c.in-Ok.matches c.asked_of.result met c.asked_of.ensures
