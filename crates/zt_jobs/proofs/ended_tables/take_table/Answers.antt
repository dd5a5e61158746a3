use Rattle.std.proofs.Common.{◌+◌, ◌++◌, ℕ, List, refl, sym, ap, ◌∙◌, subst}
use Rattle.zt_rows.specs.declared.rows.Held.{Held}
use Rattle.zt_rows.specs.State.{State}
use Rattle.zt_store.specs.KoidSets.{only}
use Rattle.zt_store.proofs.AheadLaws.{ahead-itself, ahead-then}
use Rattle.zt_jobs.specs.EndedTasks.{handles_of}
use Rattle.zt_jobs.proofs.PartLaws.{EntriesSeen, entries-start, entries-put, entries-past, entries-all}
use Rattle.zt_jobs.proofs.HandleLaws.{handles-step, handles-end}
use Rattle.zt_jobs.proofs.ended_tables.take_table.Goals as goal

pub entries-init : goal.entries-init
entries-init c = record { ahead = ahead-itself c.args.step.now; seen = entries-start c.args.step.now.current c.args.process; handles = refl }

pub entries-preserved : goal.entries-preserved
entries-preserved c =
    let S : State = c.args.step.now.current in
    let p : ℕ = c.args.process in
    let more : List Held = c.take_entry.new.taken.items in
    record {
      ahead = ahead-then c.args.step.now c.entries.step c.take_entry.new.step c.entries.invariant.ahead c.take_entry.ensures.ahead;
      seen =
          entries-past S p c.take_entry.new.step.current c.entries.value c.in-Some.next
          (subst (λ s. EntriesSeen S p s (c.entries.value + 1)) (sym c.in_ok-take_entry.ensures.ok) (entries-put S p c.entries.step.current c.entries.value c.entries.invariant.seen))
          c.in-Some.ensures;
      handles =
          ap (λ s. more ++ handles_of s (only p)) c.in_ok-take_entry.ensures.ok
          ∙ handles-step S c.entries.step.current p c.entries.value c.entries.invariant.seen c.entries.taken.items more c.in_ok-take_entry.ensures.handles
          ∙ c.entries.invariant.handles;
    }

pub returns-in-None-clause-ok : goal.returns-in-None-clause-ok
returns-in-None-clause-ok c =
    let S : State = c.args.step.now.current in
    let p : ℕ = c.args.process in
    entries-all S p c.take_entry.new.step.current c.entries.value
    (subst (λ s. EntriesSeen S p s (c.entries.value + 1)) (sym c.in_ok-take_entry.ensures.ok) (entries-put S p c.entries.step.current c.entries.value c.entries.invariant.seen))
    c.in-None.ensures

pub returns-in-None-clause-handles : goal.returns-in-None-clause-handles
returns-in-None-clause-handles c =
    let S : State = c.args.step.now.current in
    let p : ℕ = c.args.process in
    let more : List Held = c.take_entry.new.taken.items in
    handles-end S c.take_entry.new.step.current p
    (entries-all S p c.take_entry.new.step.current c.entries.value
    (subst (λ s. EntriesSeen S p s (c.entries.value + 1)) (sym c.in_ok-take_entry.ensures.ok) (entries-put S p c.entries.step.current c.entries.value c.entries.invariant.seen))
    c.in-None.ensures)
    more (c.args.taken.now.items ++ handles_of S (only p))
    (ap (λ s. more ++ handles_of s (only p)) c.in_ok-take_entry.ensures.ok
    ∙ handles-step S c.entries.step.current p c.entries.value c.entries.invariant.seen c.entries.taken.items more c.in_ok-take_entry.ensures.handles
    ∙ c.entries.invariant.handles)
