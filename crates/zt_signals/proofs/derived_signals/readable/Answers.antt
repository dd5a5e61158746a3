use Rattle.std.proofs.Common.{ap, ◌∙◌, Bool}
use Rattle.zt_rows.specs.Settle.{bit_if}
use Rattle.zt_signals.proofs.DerivedLaws.{message-any}
use Rattle.zt_signals.proofs.derived_signals.readable.Goals as goal

pub returns : goal.returns
returns c =
    c.signal_if.ensures
    ∙ ap (λ (b : Bool). bit_if b 0x1) (c.is_some.ensures ∙ message-any c.args.step.now.current c.args.endpoint c.first_message-first.result (rw c.store.ensures at c.first_message-first.ensures.first) (rw c.store.ensures at c.first_message-first.ensures.suited))
