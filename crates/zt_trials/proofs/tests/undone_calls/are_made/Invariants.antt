-- All along the state is consistent, and the records fit.
use Rattle.std.proofs.Common.{◌≡◌, true}
use Rattle.zt_rows.specs.Consistent.{IsConsistent}
use Rattle.zt_store.specs.RecordRows.{all_fit}
use Rattle.zt_trials.proofs.tests.undone_calls.are_made.Given as goal

abbrev pub invariant-loop-process : goal.invariant-loop-process
invariant-loop-process l = IsConsistent l.store.state × (all_fit l.store.places l.records.items ≡ true)
