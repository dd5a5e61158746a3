use Rattle.std.proofs.Common.{◌<◌, ◌≤◌, ◌+◌, ◌++◌, length, drop, ap, ◌∙◌, arith}
use Rattle.zt_rows.specs.Tests.{next_at}
use Rattle.zt_rows.specs.Handles.{values_from}
use Rattle.zt_calls.proofs.ReceivingLaws.{next-more, values-more, installs-more, values-all, installs-all}
use Rattle.zt_calls.proofs.received_message.install_all.Goals as goal

pub install-requires : goal.install-requires
install-requires c =
    let below : c.loop-held.held-index < length c.args.handles.now = omega arith in
    omega (arith, c.loop-held.invariant.next, c.requires)

pub loop-held-preserved : goal.loop-held-preserved
loop-held-preserved c =
    let below : c.loop-held.held-index < length c.args.handles.now = omega arith in
    let went = c.in_ok-value.ensures.installed in
    record {
      next =
          next-more c.loop-held.step c.install.new.step c.args.process c.args.handles.now c.loop-held.held-index c.held-item.result below c.held-item.is went
          (next_at c.args.step.now.current c.args.process) c.loop-held.invariant.next;
      values =
          ap (λ l. l ++ values_from (next_at c.install.new.step.current c.args.process) (drop (c.loop-held.held-index + 1) c.args.handles.now)) c.in-Ok.ensures.items
          ∙ values-more c.loop-held.step c.install.new.step c.args.process c.args.handles.now c.loop-held.held-index c.held-item.result below c.held-item.is went
          c.in_ok-value.value c.loop-held.values.items _ c.in_ok-value.ensures.value c.loop-held.invariant.values;
      rest =
          installs-more c.loop-held.step c.install.new.step c.args.process c.args.handles.now c.loop-held.held-index c.held-item.result below c.held-item.is went
          _ c.loop-held.invariant.rest;
      beginning = went.0 ∙ c.loop-held.invariant.beginning;
      kept = λ R fit. c.install.ensures.kept R (c.loop-held.invariant.kept R fit);
    }

pub returns-clause-values : goal.returns-clause-values
returns-clause-values c =
    let past : length c.args.handles.now ≤ c.loop-held.held-index = omega arith in
    values-all c.args.handles.now c.loop-held.held-index past (next_at c.loop-held.step.current c.args.process) c.loop-held.values.items _ c.loop-held.invariant.values

pub returns-clause-installed : goal.returns-clause-installed
returns-clause-installed c =
    let past : length c.args.handles.now ≤ c.loop-held.held-index = omega arith in
    (c.loop-held.invariant.beginning, installs-all c.args.handles.now c.loop-held.held-index past c.args.process c.loop-held.step.current _ c.loop-held.invariant.rest)
