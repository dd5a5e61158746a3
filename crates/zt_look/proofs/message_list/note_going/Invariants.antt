-- So far the ends of what goes under the keys that were gone over are noted.
use Rattle.std.proofs.Common.{◌≡◌, ℕ, map, take}
use Rattle.std.specs.BTreeMap.{get}
use Rattle.std.specs.Ordering.{nat_cmp}
use Rattle.zt_look.specs.ProofsOnly.MessageEnds.{end_over}
use Rattle.zt_look.specs.ProofsOnly.RecordSides.{change_under}
use Rattle.zt_look.proofs.message_list.note_going.Given as goal

abbrev pub invariant-loop-key : goal.invariant-loop-key
invariant-loop-key l = (n : ℕ) → get nat_cmp l.ends n ≡ end_over l.koid n (map (change_under l.kept l.store.state) (take l.key-index l.key-items)) (l.moment, l.end) (get nat_cmp l.fn.ends n)
