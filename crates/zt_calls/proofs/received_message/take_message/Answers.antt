-- The process is as it was once the message is out, so its next values fit, and go to the message's handles.
use Rattle.std.proofs.Common.{◌≡◌, ◌≤◌, List, length, sym, ap, ◌∙◌, subst}
use Rattle.zt_rows.specs.declared.calls.Reply.TheVariants as reply
use Rattle.zt_rows.specs.declared.rows.Held.{Held}
use Rattle.zt_rows.specs.Tests.{next_at}
use Rattle.zt_rows.specs.Handles.{caller, install_all, values_from}
use Rattle.zt_store.specs.StepView.{Advanced}
use Rattle.zt_calls.proofs.ReceivingLaws.{read-fits, received-some}
use Rattle.zt_calls.proofs.received_message.take_message.Goals as goal

pub install_all-requires : goal.install_all-requires
install_all-requires c =
    read-fits c.args.step.now c.pop.new.step c.args.process c.args.endpoint c.as_slice.result.now c.requires.room c.requires.running c.in_ok-pop.ensures.popped
    (subst (λ (l : List Held). length l ≤ 64) (sym c.as_slice.ensures) c.handles.ensures.within)

pub returns-clause-does : goal.returns-clause-does
returns-clause-does c =
    let m = c.in_ok-message.message in
    let t = c.pop.new.step in
    let handles : c.as_slice.result.now ≡ m.handles = c.as_slice.ensures ∙ c.handles.ensures.value in
    let installed : Advanced t c.install_all.new.step (install_all c.args.process (caller t.current c.args.process) m.handles t.current) =
    subst (λ (l : List Held). Advanced t c.install_all.new.step (install_all c.args.process (caller t.current c.args.process) l t.current)) handles c.in_ok-values.ensures.installed in
    let does =
    received-some c.args.step.now t c.args.process c.args.endpoint m c.install_all.new.step c.new.result
    (sym c.in_ok-message.ensures.ok_part ∙ c.in_ok-pop.ensures.message)
    c.in_ok-pop.ensures.popped installed
    (c.new.ensures ∙ c.in_ok-values.ensures.values ∙ ap (values_from (next_at t.current c.args.process)) handles) in
    (does.0, ap (λ b. reply.Message b c.new.result) c.into_parts-bytes.ensures.bytes ∙ does.1)
