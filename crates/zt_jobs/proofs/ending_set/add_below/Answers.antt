use Rattle.std.proofs.Common.{ℕ, Bool, ◌∙◌, subst}
use Rattle.std.specs.Prelude.{Some}
use Rattle.zt_jobs.specs.ProofsOnly.FoundKoids.{found}
use Rattle.zt_rows.proofs.RowLaws.{or_left}
use Rattle.zt_index.specs.Chains.{IsNext}
use Rattle.zt_index.specs.Criteria.{is_below, objects_where}
use Rattle.zt_jobs.proofs.BelowLaws.{passed_known, passed_none}
use Rattle.zt_jobs.proofs.MemberLaws.{noted_itself, noted_then}
use Rattle.zt_jobs.proofs.ending_set.add_below.Goals as goal

pub tasks-init : goal.tasks-init
tasks-init c =
    let passes : ℕ → Bool = objects_where c.args.step.now.current (is_below c.args.parent) in
    record {
      known = λ x. passed_none (found c.args.known.now x) (passes x);
      noted = noted_itself (found c.args.known.now) c.args.waiting.now.items;
    }

pub tasks-preserved : goal.tasks-preserved
tasks-preserved c =
    let passes : ℕ → Bool = objects_where c.args.step.now.current (is_below c.args.parent) in
    let is_next : IsNext passes c.tasks.low (Some c.in-Some.task) = subst (IsNext passes c.tasks.low) c.in-Some.is (rw c.store.ensures at c.task_below.ensures) in
    let is = c.in_ok-note.ensures.known in
    record {
      known = λ x. passed_known passes c.tasks.low c.in-Some.task x (found c.args.known.now x) (found c.tasks.known x) (found c.note.new.known x) is_next (c.tasks.invariant.known x) (is x);
      noted =
          noted_then (found c.args.known.now) (found c.tasks.known) (found c.note.new.known)
          c.args.waiting.now.items c.tasks.waiting.items c.note.new.waiting.items c.tasks.invariant.noted c.in_ok-note.ensures.noted
          (λ x e. is x ∙ or_left (found c.tasks.known x) _ e);
    }
