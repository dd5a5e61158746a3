use Rattle.std.proofs.Common.{◌<◌, ◌≤◌, length, ◌∙◌, arith}
use Rattle.zt_rows.specs.Tests.{among}
use Rattle.zt_rows.specs.Handles.{take_out_all}
use Rattle.zt_calls.proofs.TakingLaws.{rest-taken, sound-rest, all-taken}
use Rattle.zt_calls.proofs.taken_handles.take_out_all.Goals as goal

pub loop-value-preserved : goal.loop-value-preserved
loop-value-preserved c =
    let below : c.loop-value.value-index < length c.args.values.now = omega arith in
    let went = c.in_ok-take_out_if_there.ensures.ok in
    record {
      rest =
          rest-taken c.loop-value.step c.take_out_if_there.new.step _ c.args.process c.args.values.now c.loop-value.value-index c.value-item.result below c.value-item.is
          c.loop-value.invariant.rest went;
      sound = sound-rest c.loop-value.step c.take_out_if_there.new.step c.args.process c.value-item.result c.loop-value.invariant.sound went;
      beginning = went.0 ∙ c.loop-value.invariant.beginning;
      kept = λ R fit. c.take_out_if_there.ensures.kept R (c.loop-value.invariant.kept R fit);
    }

pub returns-clause-ok : goal.returns-clause-ok
returns-clause-ok c =
    let past : length c.args.values.now ≤ c.loop-value.value-index = omega arith in (
      c.loop-value.invariant.beginning,
      all-taken c.loop-value.step.current (take_out_all c.args.step.now.current c.args.process (among c.args.values.now)) c.args.process c.loop-value.value-index c.args.values.now past c.loop-value.invariant.rest,
    )
