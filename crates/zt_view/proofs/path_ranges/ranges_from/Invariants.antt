-- So far the list has the ranges of the moments from the place on, the last first.
use Rattle.std.proofs.Common.{◌≡◌, drop}
use Rattle.std.specs.Prelude.{reverse}
use Rattle.zt_view.specs.PathRanges.{ranges_from}
use Rattle.zt_view.proofs.path_ranges.ranges_from.Given as goal

abbrev pub invariant-loop-place : goal.invariant-loop-place
invariant-loop-place l = reverse l.list.items ≡ ranges_from l.from (drop l.place l.way)
