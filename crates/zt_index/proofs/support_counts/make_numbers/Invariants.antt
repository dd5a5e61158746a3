use Rattle.std.proofs.Common.{◌≡◌, ◌≤◌, ℕ, ◌-◌, vec_len}
use Rattle.std.specs.Vec.{vec_capacity}
use Rattle.zt_index.specs.KoidCounts.{numbers_at}
use Rattle.zt_index.proofs.support_counts.make_numbers.Given as goal

abbrev pub invariant-loop-numbers : goal.invariant-loop-numbers
invariant-loop-numbers l = record {
  same : (x : ℕ) → numbers_at l.numbers.items x ≡ numbers_at l.initial.numbers.items x;
  kept : vec_len l.initial.numbers ≤ vec_len l.numbers;
  few : vec_len l.numbers ≤ l.len;
  room : l.len ≤ vec_capacity l.numbers;
}

abbrev pub decreases-loop-numbers : goal.decreases-loop-numbers
decreases-loop-numbers l = l.len - vec_len l.numbers
