-- The line of the next moment stands behind those.
use Rattle.std.proofs.Common.{◌≤◌, length, arith}
use Rattle.zt_console.proofs.NotedLaws.{moment_put}
use Rattle.zt_console.proofs.noted_text.put_moments.Goals as goal

pub loop-number-preserved : goal.loop-number-preserved
loop-number-preserved c =
    let within : c.loop-number.number ≤ length c.args.history.now.tree.made = omega arith in
    moment_put c.args.notes.now c.args.history.now.tree.made c.loop-number.number c.args.text.now.items c.loop-number.text.items c.put_line.new.text.items
    within c.loop-number.invariant c.in_ok-put_line.ensures
