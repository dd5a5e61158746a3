-- So far the list has what comes under the keys that were gone over, from the last one back.
use Rattle.std.proofs.Common.{◌≡◌, ◌++◌, map, drop}
use Rattle.std.specs.Prelude.{reverse}
use Rattle.std.specs.BTreeMap.{get}
use Rattle.std.specs.List.{filter_map}
use Rattle.std.specs.Ordering.{nat_cmp}
use Rattle.zt_look.specs.MessageList.{queued_at}
use Rattle.zt_look.specs.ProofsOnly.RecordSides.{change_under}
use Rattle.zt_look.proofs.message_list.push_coming.Given as goal

abbrev pub invariant-loop-place : goal.invariant-loop-place
invariant-loop-place l =
    reverse l.list.items ≡ filter_map (queued_at (get nat_cmp l.ends) l.koid l.moment) (map (change_under l.kept l.store.state) (drop l.place (map (λ e. e.0) l.kept))) ++ reverse l.fn.list.items
