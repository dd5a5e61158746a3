use Rattle.std.proofs.Common.{length}
use Rattle.zt_view.proofs.query.+wanted_by.Given as goal

abbrev pub decreases-wanted_by : goal.decreases-wanted_by
decreases-wanted_by l = length l.words.now
