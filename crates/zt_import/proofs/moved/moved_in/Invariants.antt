-- How many of the calls behind a place are moved, and the least of their numbers.
use Rattle.std.proofs.Common.{◌≡◌, ◌+◌, ◌≤◌, length, drop}
use Rattle.zt_import.specs.Counts.{moved_in}
use Rattle.zt_import.specs.Trails.{numbers_in}
use Rattle.zt_import.specs.ProofsOnly.Least.{IsLeast}
use Rattle.zt_import.proofs.moved.moved_in.Given as goal

abbrev pub invariant-loop-place : goal.invariant-loop-place
invariant-loop-place l =
    ((l.count ≡ moved_in (numbers_in (drop l.place l.trail))) × IsLeast l.least (numbers_in (drop l.place l.trail)))
    × (l.count + l.place ≤ length l.trail)

abbrev pub decreases-loop-place : goal.decreases-loop-place
decreases-loop-place l = l.place
