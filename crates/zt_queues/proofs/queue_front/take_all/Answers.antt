use Rattle.std.proofs.Common.{◌≡◌, ◌<◌, ◌++◌, length, None, ap, sym, ◌∙◌, subst}
use Rattle.zt_rows.specs.declared.keys.RowKey.TheVariants as key
use Rattle.zt_rows.specs.State.{State, put}
use Rattle.zt_rows.specs.Reads.{queue}
use Rattle.zt_store.specs.StepView.{Stepping}
use Rattle.zt_queues.specs.QueueFront.{handles_of, without_messages}
use Rattle.zt_queues.proofs.TakenLaws.{shorter, handles-popped, without-popped, without-none}
use Rattle.zt_queues.proofs.queue_front.take_all.Goals as goal

pub loop-number-smaller : goal.loop-number-smaller
loop-number-smaller c =
    let taken : c.put.new.self.current ≡ put c.loop-number.step.current (key.Msg c.args.endpoint c.in-Some.number) None = ap (λ (s : Stepping). s.current) c.in_ok-put.ensures.ok in
    subst (λ (S : State). length (queue S c.args.endpoint) < length (queue c.loop-number.step.current c.args.endpoint)) (sym taken)
    (shorter c.loop-number.step.current c.args.endpoint c.in-Some.number c.in-Some.message.now c.in-Some.ensures)

pub loop-number-preserved : goal.loop-number-preserved
loop-number-preserved c =
    let S : State = c.loop-number.step.current in
    let taken : c.put.new.self.current ≡ put S (key.Msg c.args.endpoint c.in-Some.number) None = ap (λ (s : Stepping). s.current) c.in_ok-put.ensures.ok in
    let added : c.extend_from_slice.new.self.items ≡ c.loop-number.taken.items ++ c.in-Some.message.now.handles = cc (c.in-Ok.ensures.items, c.as_slice.ensures, c.handles.ensures.value) in
    record {
      handles =
          ap (λ (T : State). c.extend_from_slice.new.self.items ++ handles_of (queue T c.args.endpoint)) taken
          ∙ ap (λ l. l ++ handles_of (queue (put S (key.Msg c.args.endpoint c.in-Some.number) None) c.args.endpoint)) added
          ∙ handles-popped S c.args.endpoint c.in-Some.number c.in-Some.message.now c.in-Some.ensures c.loop-number.taken.items
          ∙ c.loop-number.invariant.handles;
      rest =
          ap (λ (T : State). without_messages T c.args.endpoint) taken
          ∙ without-popped S c.args.endpoint c.in-Some.number c.in-Some.message.now c.in-Some.ensures
          ∙ c.loop-number.invariant.rest;
      beginning = ap (λ (s : Stepping). s.beginning) c.in_ok-put.ensures.ok ∙ c.loop-number.invariant.beginning;
      kept = λ R fits. c.in_ok-put.ensures.kept R (c.loop-number.invariant.kept R fits);
    }

pub returns-clause-taken : goal.returns-clause-taken
returns-clause-taken c = (
  c.loop-number.invariant.beginning,
  sym (without-none c.loop-number.step.current c.args.endpoint c.in_default.ensures) ∙ c.loop-number.invariant.rest,
)
