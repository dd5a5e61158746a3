use Rattle.std.proofs.Common.{string_bytes}
use Rattle.zt_look.specs.NamedTexts.{held_text}
use Rattle.zt_text.proofs.ShownLemmas.{list_written}
use Rattle.zt_look.proofs.lines.rows.put_handles_held.Goals as goal

pub returns : goal.returns
returns c =
    list_written (held_text c.args.names) c.args.handles.now c.first-item.result c.loop-held.held-index
    (string_bytes c.args.text.now) (string_bytes c.put_held.new.text) (string_bytes c.loop-held.text)
    c.in-len1-up.len_at_least c.first-item.is c.in_ok-put_held.ensures c.loop-held.invariant c.loop-held-test.false
