-- A comment more is skipped.
use Rattle.std.proofs.Common.{[], string_bytes}
use Rattle.zt_import.proofs.TextLaws.{writes-none, writes-behind}
use Rattle.zt_import.proofs.session_lines.put_process_names.Goals as goal

pub loop-place-init : goal.loop-place-init
loop-place-init c = writes-none (string_bytes c.args.text.now)

pub loop-place-preserved : goal.loop-place-preserved
loop-place-preserved c =
    writes-behind (string_bytes c.args.text.now) (string_bytes c.loop-place.text) (string_bytes c.put_comment.new.text) []
    c.loop-place.invariant c.in_ok-put_comment.ensures
