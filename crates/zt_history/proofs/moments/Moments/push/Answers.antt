-- The depth is one more than the parent's; the new node is a node, and its shortcut and its record are listed.
use Rattle.std.proofs.Common.{◌+◌, length, refl, ap, arith}
use Rattle.zt_history.specs.ProofsOnly.MomentNodes.{Chronicle}
use Rattle.zt_history.proofs.NodeLaws.{length-made_in}
use Rattle.zt_history.proofs.PathLaws.{short-path}
use Rattle.zt_history.proofs.ListedLaws.{listed-pushed}
use Rattle.zt_history.proofs.moments.Moments.push.Goals as goal

pub overflow_add-depth : goal.overflow_add-depth
overflow_add-depth c =
    omega (arith, c.depth-depth.ensures, c.requires.few, c.requires.there, c.limits.ensures.falls, short-path c.args.self.now.made c.limits.ensures.falls c.args.at)

pub invariant_of-self : goal.invariant_of-self
invariant_of-self c =
    listed-pushed c.self.inside.nodes.list c.self.inside.nodes.list c.push.new.self.list _
    c.self.inside.shortcuts.items c.self.inside.shortcuts.items c.push_reserved.new.self.items _
    c.self.inside.records.items c.self.inside.records.items c.push_reserved-2.new.self.items _ c.args.self.now
    c.push.ensures refl
    c.push_reserved.ensures.items refl c.push_reserved-2.ensures.items refl c.self.view_is
    c.requires.there (ap (λ n. n + 1) c.depth-depth.ensures) c.jump_beyond.ensures c.first_beyond.ensures c.requires.few c.self.invariant

pub push-requires-clause-few : goal.push-requires-clause-few
push-requires-clause-few c = omega (arith, c.requires.few, ap (λ (h : Chronicle). length h.made) c.self.view_is, length-made_in c.self.inside.nodes.list)
