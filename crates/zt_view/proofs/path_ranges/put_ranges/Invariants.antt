-- The lines of those so far stand behind the text.
use Rattle.std.proofs.Common.{◌≡◌, ◌++◌, take}
use Rattle.std.specs.List.{flat_map}
use Rattle.zt_view.specs.PathRanges.{range_line}
use Rattle.zt_view.proofs.path_ranges.put_ranges.Given as goal

abbrev pub invariant-loop-range : goal.invariant-loop-range
invariant-loop-range l = l.text.items ≡ l.fn.text.items ++ flat_map range_line (take l.range-index l.ranges)
