use Rattle.std.proofs.Common.{◌≡◌, ◌+◌, ◌++◌, ℕ, Bool, List, take, refl, sym, ap, ◌∙◌}
use Rattle.zt_rows.specs.declared.rows.Held.{Held}
use Rattle.zt_rows.specs.State.{State, change}
use Rattle.zt_rows.specs.Tests.{among}
use Rattle.zt_store.specs.KoidSets.{only}
use Rattle.zt_store.proofs.AheadLaws.{ahead-itself, ahead-then}
use Rattle.zt_jobs.specs.EndedTasks.{handles_of}
use Rattle.zt_jobs.specs.ProofsOnly.EndedTasks.{without_tables}
use Rattle.zt_jobs.proofs.PartLaws.{among-item, among-lower, among-new, tables-nothing, tables-more}
use Rattle.zt_jobs.proofs.HandleLaws.{handles-nothing, handles-left, handles-more}
use Rattle.zt_jobs.proofs.ended_tables.take_tables.Goals as goal

pub loop-koid-init : goal.loop-koid-init
loop-koid-init c =
    let none : ℕ → Bool = among (take 0 c.args.members.now) in
    record {
      ahead = ahead-itself c.args.step.now;
      handles = c.new-taken.ensures.items ∙ sym (handles-nothing c.args.step.now.current none (λ y. refl));
      rest = tables-nothing c.args.step.now.current none (λ y. refl);
    }

pub loop-koid-preserved : goal.loop-koid-preserved
loop-koid-preserved c =
    let S : State = c.args.step.now.current in
    let xs : List ℕ = c.args.members.now in
    let i : ℕ = c.loop-koid.koid-index in
    let m : ℕ = c.koid-item.result in
    let before : ℕ → Bool = among (take i xs) in
    let after : ℕ → Bool = among (take (i + 1) xs) in
    let one : (y : ℕ) → among (take (i + 1) xs) y ≡ _ = among-item xs i m c.loop-koid-test.true c.koid-item.is in
    record {
      ahead = ahead-then c.args.step.now c.loop-koid.step c.take_table.new.step c.loop-koid.invariant.ahead c.take_table.ensures.ahead;
      handles =
          c.in_ok-take_table.ensures.handles
          ∙ (λ j. c.loop-koid.invariant.handles j ++ handles_of (c.loop-koid.invariant.rest j) (only m))
          ∙ ap (λ (l : List Held). handles_of S before ++ l) (handles-left S before m (among-new xs i m c.requires c.loop-koid-test.true c.koid-item.is))
          ∙ sym (handles-more S before after m one (among-lower xs i m c.requires c.loop-koid-test.true c.koid-item.is));
      rest =
          c.in_ok-take_table.ensures.ok
          ∙ ap (change (without_tables (only m))) c.loop-koid.invariant.rest
          ∙ tables-more S before after m one;
    }
