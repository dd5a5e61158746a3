-- The comment of a call and those of its fields are skipped.
use Rattle.std.proofs.Common.{[], string_bytes}
use Rattle.zt_import.proofs.TextLaws.{writes-behind}
use Rattle.zt_import.proofs.session_lines.put_context.Goals as goal

pub returns-in_ok-put_fields-in-Some : goal.returns-in_ok-put_fields-in-Some
returns-in_ok-put_fields-in-Some c =
    writes-behind (string_bytes c.args.text.now) (string_bytes c.put_comment.new.text) (string_bytes c.put_fields.new.text) []
    c.in_ok-put_comment-in-Some.ensures c.in_ok-put_fields-in-Some.ensures
