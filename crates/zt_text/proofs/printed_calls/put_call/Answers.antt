use Rattle.std.proofs.Common.{◌++◌, string_bytes, ap, ◌∙◌}
use Rattle.zt_text.proofs.ShownWords.{call_written}
use Rattle.zt_text.proofs.printed_calls.put_call.Goals as goal

pub returns : goal.returns
returns c =
    call_written c.put_arguments.result c.args.process c.args.call.now (string_bytes c.args.text.now) (string_bytes c.write.new.self) (string_bytes c.push_str.new.self)
    (string_bytes c.put_arguments.new.text)
    (rw c.process.view_is at c.in_ok-write.ensures.bytes)
    (c.in_ok-push_str.ensures.bytes ∙ ap (λ name. string_bytes c.write.new.self ++ name) c.name.ensures)
    c.put_arguments.ensures
