use Rattle.std.proofs.Common.{◌++◌, string_bytes, ap, ◌∙◌}
use Rattle.std.specs.Fmt.{decimal}
use Rattle.zt_text.proofs.ShownLemmas.{list_written}
use Rattle.zt_text.proofs.printed_rows.put_handles.Goals as goal

pub returns : goal.returns
returns c =
    list_written decimal c.args.handles.now c.first-item.result c.loop-handle.handle-index
    (string_bytes c.args.text.now) (string_bytes c.write.new.self) (string_bytes c.loop-handle.text)
    c.in-len1-up.len_at_least c.first-item.is
    (c.in_ok-write.ensures.bytes ∙ ap (λ n. string_bytes c.args.text.now ++ decimal n) c.first.view_is)
    c.loop-handle.invariant c.loop-handle-test.false
