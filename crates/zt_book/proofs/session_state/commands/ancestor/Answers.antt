-- A step nearer, the ancestor is one of the parent's; no step away, it is reached.
use Rattle.std.proofs.Common.{◌≡◌, suc, ◌+◌, ◌-◌, ◌≤◌, List, length, ◌∙◌, ap, sym, subst, arith}
use Rattle.zt_history.specs.Tree.{Made, path}
use Rattle.zt_book.specs.Session.{ancestor}
use Rattle.zt_book.proofs.SessionStateLaws.{ancestor-none, ancestor-parent, parent-far}
use Rattle.zt_book.proofs.session_state.commands.ancestor.Goals as goal

pub loop-preserved : goal.loop-preserved
loop-preserved c =
    let made : List Made = c.args.history.now.tree.made in
    let left : c.args.count - c.loop.counter ≡ suc (c.args.count - (c.loop.counter + 1)) = omega arith in
    let far : suc (c.args.count - (c.loop.counter + 1)) ≤ length (path made c.loop.at) = omega arith in
    record {
      far =
          subst (λ up. c.args.count - (c.loop.counter + 1) ≤ length (path made up)) (sym c.parent_of-at.ensures)
          (parent-far made c.requires.falls c.loop.at (c.args.count - (c.loop.counter + 1)) far);
      same =
          ap (λ up. ancestor (path made up) (c.args.count - (c.loop.counter + 1))) c.parent_of-at.ensures
          ∙ (ancestor-parent made c.requires.falls c.loop.at (c.args.count - (c.loop.counter + 1)) far
          ∙ (ap (λ count. ancestor (path made c.loop.at) count) (sym left) ∙ c.loop.invariant.same));
    }

pub returns : goal.returns
returns c =
    let made : List Made = c.args.history.now.tree.made in
    let reached : 0 ≡ c.args.count - c.loop.counter = omega arith in
    sym (ancestor-none made c.requires.falls c.loop.at) ∙ (ap (λ count. ancestor (path made c.loop.at) count) reached ∙ c.loop.invariant.same)
