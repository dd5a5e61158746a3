-- One branch more is listed and marked.
use Rattle.std.proofs.Common.{◌∙◌}
use Rattle.zt_look.proofs.MarkLaws.{branch-listed}
use Rattle.zt_look.proofs.branch_list.branches.Goals as goal

pub loop-number-preserved : goal.loop-number-preserved
loop-number-preserved c = record {
  listed =
      branch-listed c.args.history.now.tree c.loop-number.list.items c.push.new.self.items c.loop-number.number c.head.result c.mark_line-leaves.result c.loop-number.invariant.listed
      c.head.ensures.head c.mark_line-leaves.ensures.leaves c.in_ok-push.ensures.items;
  marks = c.mark_line-leaves.ensures.marks;
  size = c.mark_line-leaves.ensures.size ∙ c.loop-number.invariant.size;
}
