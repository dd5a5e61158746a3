-- What is copied is what stands before the next one.
use Rattle.std.proofs.Common.{◌≡◌, take}
use Rattle.zt_rows.proofs.saved.copied_branches.Given as goal

abbrev pub invariant-loop-branch : goal.invariant-loop-branch
invariant-loop-branch l = l.copied.items ≡ take l.branch-index l.branch-items
