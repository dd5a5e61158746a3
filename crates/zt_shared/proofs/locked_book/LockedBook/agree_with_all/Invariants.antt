-- The passes so far are parts of the log.
use Rattle.std.proofs.Common.{◌≡◌, ℕ, ◌<◌}
use Rattle.std.specs.Prelude.{slice_index_or}
use Rattle.zt_shared.specs.Sharing.{PassView, IsPartOf}
use Rattle.zt_shared.proofs.locked_book.LockedBook.agree_with_all.Given as goal

abbrev pub invariant-loop-at : goal.invariant-loop-at
invariant-loop-at g l = record {
  locked : l.self ≡ l.initial.self;
  passes : l.passes.items ≡ l.initial.passes.items;
  parts : (k : ℕ) (d : PassView) → k < l.at → IsPartOf (slice_index_or l.initial.passes.items k d) l.initial.self.log l.initial.self.session;
}
