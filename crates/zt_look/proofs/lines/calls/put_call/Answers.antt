use Rattle.std.proofs.Common.{◌≡◌, ◌++◌, string_bytes, subst, sym}
use Rattle.std.specs.Prelude.{OnOk}
use Rattle.zt_rows.specs.declared.calls.Call.{Call}
use Rattle.zt_look.specs.NamedTexts.{call_text}
use Rattle.zt_look.proofs.lines.calls.put_call.Goals as goal

pub returns-in-ObjectSignal : goal.returns-in-ObjectSignal
unfolding call_text
returns-in-ObjectSignal c =
    subst (λ (made : Call). OnOk c.put_signaled.result (string_bytes c.put_signaled.new.text ≡ string_bytes c.args.text.now ++ call_text c.args.naming c.args.process made))
    (sym c.in-ObjectSignal.is) c.put_signaled.ensures

pub returns-in-ObjectSignalPeer : goal.returns-in-ObjectSignalPeer
unfolding call_text
returns-in-ObjectSignalPeer c =
    subst (λ (made : Call). OnOk c.put_signaled-in-ObjectSignalPeer.result (string_bytes c.put_signaled-in-ObjectSignalPeer.new.text ≡ string_bytes c.args.text.now ++ call_text c.args.naming c.args.process made))
    (sym c.in-ObjectSignalPeer.is) c.put_signaled-in-ObjectSignalPeer.ensures

pub returns-in-ObjectWaitAsync : goal.returns-in-ObjectWaitAsync
unfolding call_text
returns-in-ObjectWaitAsync c =
    subst (λ (made : Call). OnOk c.put_wait_async.result (string_bytes c.put_wait_async.new.text ≡ string_bytes c.args.text.now ++ call_text c.args.naming c.args.process made))
    (sym c.in-ObjectWaitAsync.is) c.put_wait_async.ensures
