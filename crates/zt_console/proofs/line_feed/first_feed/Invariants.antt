-- No byte so far is a line feed.
use Rattle.std.proofs.Common.{◌≡◌, take, true}
use Rattle.zt_console.specs.ProofsOnly.LineFeed.{has_no_feed}
use Rattle.zt_console.proofs.line_feed.first_feed.Given as goal

abbrev pub invariant-loop-place : goal.invariant-loop-place
invariant-loop-place l = has_no_feed (take l.place l.bytes) ≡ true
