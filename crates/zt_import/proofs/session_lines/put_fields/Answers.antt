-- A comment more is skipped.
use Rattle.std.proofs.Common.{[], string_bytes}
use Rattle.zt_import.proofs.TextLaws.{writes-none, writes-behind}
use Rattle.zt_import.proofs.session_lines.put_fields.Goals as goal

pub loop-field-init : goal.loop-field-init
loop-field-init c = writes-none (string_bytes c.args.text.now)

pub loop-field-preserved : goal.loop-field-preserved
loop-field-preserved c =
    writes-behind (string_bytes c.args.text.now) (string_bytes c.loop-field.text) (string_bytes c.put_comment.new.text) []
    c.loop-field.invariant c.in_ok-put_comment.ensures
