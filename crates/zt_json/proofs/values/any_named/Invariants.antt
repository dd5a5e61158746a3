use Rattle.std.proofs.Common.{◌≡◌, length}
use Rattle.zt_json.specs.Values.{any_named, elements_of}
use Rattle.zt_json.proofs.values.any_named.Given as goal

-- none of the handles so far has a name
abbrev pub invariant-loop-handle : goal.invariant-loop-handle
invariant-loop-handle l = any_named l.fn.notes l.fn.process l.left ≡ any_named l.fn.notes l.fn.process (elements_of l.fn.list)

abbrev pub decreases-loop-handle : goal.decreases-loop-handle
decreases-loop-handle l = length l.left
