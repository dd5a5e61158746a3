-- What is copied is what stands before the next one.
use Rattle.std.proofs.Common.{◌≡◌, take}
use Rattle.zt_rows.proofs.saved.copied_moments.Given as goal

abbrev pub invariant-loop-saved : goal.invariant-loop-saved
invariant-loop-saved l = l.copied.items ≡ take l.saved-index l.saved-items
