use Rattle.std.proofs.Common.{◌∙◌}
use Rattle.zt_notes.proofs.FoundLaws.{found}
use Rattle.zt_notes.proofs.found.has_text.Goals as goal

pub returns : goal.returns
returns c = c.is_some.ensures ∙ found c.args.haystack.now c.args.needle.now c.find.result c.find.ensures
