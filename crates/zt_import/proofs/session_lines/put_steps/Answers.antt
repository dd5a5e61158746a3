-- The text reads as the calls of the tree.
use Rattle.std.proofs.Common.{string_bytes}
use Rattle.zt_import.proofs.TextLaws.{session-put, writes-behind}
use Rattle.zt_import.proofs.session_lines.put_steps.Goals as goal

pub returns : goal.returns
returns c =
    session-put (string_bytes c.args.text.now) (string_bytes c.push_str.new.self) (string_bytes c.put_trail.new.text) c.args.imported.now
    c.history.result.now.tree c.trail-2.result.now c.requires c.in_ok-push_str.ensures.bytes c.history.ensures.tree c.trail-2.ensures
    c.history.ensures.loads
    (writes-behind (string_bytes c.push_str.new.self) (string_bytes c.put_names.new.text) (string_bytes c.put_trail.new.text) _
    c.in_ok-put_names.ensures c.in_ok-put_trail.ensures)
