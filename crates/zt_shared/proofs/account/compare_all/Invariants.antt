use Rattle.std.proofs.Common.{◌≡◌, ℕ, ◌<◌, get_or, vec_capacity, None}
use Rattle.std.specs.Prelude.{IfSome}
use Rattle.once_cell.specs.Once.{Agrees}
use Rattle.zt_shared.specs.Accounts.{known_of}
use Rattle.zt_shared.proofs.account.compare_all.Given as goal

abbrev pub invariant-loop-at : goal.invariant-loop-at
invariant-loop-at g l = record {
  ours : l.ours.items ≡ l.initial.ours.items;
  theirs : l.theirs.items ≡ l.initial.theirs.items;
  room_of_ours : vec_capacity l.ours ≡ vec_capacity l.initial.ours;
  room_of_theirs : vec_capacity l.theirs ≡ vec_capacity l.initial.theirs;
  same : (i : ℕ) → i < l.at → IfSome (get_or (known_of l.initial.theirs.items) i None) (Agrees (get_or (known_of l.initial.ours.items) i None));
}
