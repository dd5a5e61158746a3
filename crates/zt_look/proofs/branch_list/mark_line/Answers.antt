-- From the head up to the first moment that has a mark, or to the opening.
use Rattle.std.proofs.Common.{◌≡◌, ◌+◌, ◌<◌, true, not, length, take, get_or, None, is_some, refl, sym, ◌∙◌, ap, arith}
use Rattle.std.proofs.lemmas.List.{length-set}
use Rattle.zt_history.specs.Tree.{head_at}
use Rattle.zt_look.proofs.MarkLaws.{branch-more, marks-begin, line-up, parent-earlier, some-mark, marks-end, leaves-end, marked-size}
use Rattle.zt_look.proofs.branch_list.mark_line.Goals as goal
use Rattle.zt_look.proofs.branch_list.mark_line.Goals.{then-line-test+else-is_none, else-line-test}

pub line-init : goal.line-init
line-init c = record {
  down =
      marks-begin c.args.history.now.tree.made c.limits.ensures.tree.moments.falls (take c.args.id c.args.history.now.tree.branches) (take (c.args.id + 1) c.args.history.now.tree.branches)
      (head_at c.args.history.now.tree.branches c.args.id) c.args.id (branch-more c.args.history.now.tree.made c.args.history.now.tree.branches c.args.id c.requires.branch)
      c.args.marks.now.items c.head-moment.result c.head-moment.ensures.head c.head-moment.ensures.within c.requires.marks;
  size = refl;
}

pub line-preserved : goal.line-preserved
line-preserved c =
    let at : c.moment.inside.0 ≡ c.line.moment = c.moment.view_is in
    record {
      down =
          line-up c.args.history.now.tree.made c.limits.ensures.tree.moments.falls (take c.args.id c.args.history.now.tree.branches) (take (c.args.id + 1) c.args.history.now.tree.branches)
          (head_at c.args.history.now.tree.branches c.args.id) c.args.id (branch-more c.args.history.now.tree.made c.args.history.now.tree.branches c.args.id c.requires.branch)
          c.line.marks.items _ c.line.moment c.moment.inside.0 c.parent_of-moment.result c.index.result.now (c.line.invariant.size ∙ c.requires.size) at
          c.parent_of-moment.ensures (omega (arith, c.line-test.true, at)) c.line.invariant.down c.index.ensures c.if-is_none.ensures refl;
      size = length-set c.line.marks.items c.moment.inside.0 _ ∙ c.line.invariant.size;
    }

pub line-smaller : goal.line-smaller
line-smaller c =
    let at : c.moment.inside.0 ≡ c.line.moment = c.moment.view_is in
    parent-earlier c.args.history.now.tree.made c.limits.ensures.tree.moments.falls c.line.moment c.parent_of-moment.result (omega (arith, c.line-test.true, at))
    c.parent_of-moment.ensures

pub returns : goal.returns
returns c =
    let at : c.moment.inside.0 ≡ c.line.moment = c.moment.view_is in
    let size : length c.line.marks.items ≡ length c.args.history.now.tree.made + 1 = c.line.invariant.size ∙ c.requires.size in
    let ends : 0 < c.line.moment → is_some (get_or c.line.marks.items c.line.moment None) ≡ true =
    elim c.line-test.branch [
      | then-line-test+else-is_none w ↦ λ h.
          ap (λ m. is_some (get_or c.line.marks.items m None)) (sym at)
          ∙ some-mark c.args.history.now.tree.made c.limits.ensures.tree.moments.falls c.line.marks.items c.moment.inside.0 w.index.result.now (omega (arith, at, size, c.line.invariant.down.there)) w.index.ensures (w.is_none.ensures ∙ ap not w.if-is_none.false)
      | else-line-test w ↦ λ h. absurd (omega (arith, h, w.line-test.false, at))
    ] in
    record {
      size = ap length c.meet.ensures.marked ∙ marked-size c.line.marks.items c.line.moment c.args.id ∙ c.line.invariant.size;
      marks =
          marks-end c.args.history.now.tree.made c.limits.ensures.tree.moments.falls (take c.args.id c.args.history.now.tree.branches) (take (c.args.id + 1) c.args.history.now.tree.branches)
          (head_at c.args.history.now.tree.branches c.args.id) c.args.id (branch-more c.args.history.now.tree.made c.args.history.now.tree.branches c.args.id c.requires.branch)
          c.line.marks.items c.meet.new.marks.items c.line.moment size c.line.invariant.down ends c.meet.ensures.marked;
      leaves =
          c.meet.ensures.told
          ∙ leaves-end c.args.history.now.tree.made c.limits.ensures.tree.moments.falls (take c.args.id c.args.history.now.tree.branches) (take (c.args.id + 1) c.args.history.now.tree.branches)
          (head_at c.args.history.now.tree.branches c.args.id) c.args.id (branch-more c.args.history.now.tree.made c.args.history.now.tree.branches c.args.id c.requires.branch)
          c.line.marks.items c.line.moment c.line.invariant.down ends;
    }
