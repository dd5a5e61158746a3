-- The line of the next moment stands behind those.
use Rattle.std.proofs.Common.{string_bytes}
use Rattle.zt_console.proofs.SaveLaws.{line_put}
use Rattle.zt_console.proofs.saved_text.put_moments.Goals as goal

pub loop-number-preserved : goal.loop-number-preserved
loop-number-preserved c =
    line_put c.args.history.now.tree.made c.loop-number.number (string_bytes c.args.text.now) (string_bytes c.loop-number.text) (string_bytes c.put_line.new.text)
    c.loop-number.invariant c.in_ok-put_line.ensures
