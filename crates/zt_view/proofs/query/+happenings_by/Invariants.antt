use Rattle.std.proofs.Common.{length}
use Rattle.zt_view.proofs.query.+happenings_by.Given as goal

abbrev pub decreases-happenings_by : goal.decreases-happenings_by
decreases-happenings_by l = length l.words.now
