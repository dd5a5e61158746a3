use Rattle.std.proofs.Common.{sym, ◌∙◌}
use Rattle.zt_jobs.proofs.FoundLaws.{among-above, among-searched}
use Rattle.zt_jobs.proofs.found_koids.is_among.Goals as goal

pub returns-then-is_above : goal.returns-then-is_above
returns-then-is_above c = sym (among-above c.args.rising.now c.args.number (c.is_above.ensures c.if-is_above.true))

pub returns : goal.returns
returns c = c.is_ok.ensures.value ∙ among-searched c.args.rising.now c.args.number c.binary_search.result c.requires c.binary_search.ensures.position
