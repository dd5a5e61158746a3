-- None of the keys that were gone over is that of such a row.
use Rattle.std.proofs.Common.{◌≡◌, false, take}
use Rattle.std.specs.List.{list_any}
use Rattle.zt_look.specs.CallList.{touches}
use Rattle.zt_look.specs.ProofsOnly.RecordSides.{change_under}
use Rattle.zt_look.proofs.call_list.any_touches.Given as goal

abbrev pub invariant-loop-key : goal.invariant-loop-key
invariant-loop-key l = list_any (λ k. touches l.koid (change_under l.kept l.store.state k)) (take l.key-index l.key-items) ≡ false
