-- So far the list has the messages of the moments that were gone over, and the ends of what is there before them are noted.
use Rattle.std.proofs.Common.{◌≡◌, drop, take}
use Rattle.std.specs.Prelude.{reverse}
use Rattle.std.specs.BTreeMap.{get}
use Rattle.std.specs.Ordering.{nat_cmp}
use Rattle.zt_history.specs.Tree.{end_of, state_at}
use Rattle.zt_look.specs.MessageList.{messages_along}
use Rattle.zt_look.specs.ProofsOnly.MessageEnds.{AreEnds}
use Rattle.zt_look.proofs.message_list.messages_back.Given as goal

abbrev pub invariant-loop-place : goal.invariant-loop-place
invariant-loop-place l = record {
  listed : reverse l.list.items ≡ messages_along l.fn.history.tree.made l.koid (drop l.place l.way);
  ends : AreEnds l.fn.history.tree.made l.koid (state_at l.fn.history.tree.made (end_of (take l.place l.way))) (drop l.place l.way) (get nat_cmp l.ends);
  tree : l.history.tree ≡ l.fn.history.tree;
}
