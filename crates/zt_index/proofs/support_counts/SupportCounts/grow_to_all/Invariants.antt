use Rattle.std.proofs.Common.{◌≡◌, ◌≤◌, ◌<◌, ℕ, length, take}
use Rattle.std.specs.List.{All}
use Rattle.zt_rows.specs.declared.rows.Held.{Held}
use Rattle.zt_index.specs.KoidCounts.{numbers_at}
use Rattle.zt_index.proofs.support_counts.SupportCounts.grow_to_all.Given as goal

-- the koids of the handles so far have numbers, and no number changed
abbrev pub invariant-loop-held : goal.invariant-loop-held
invariant-loop-held l = record {
  same : (x : ℕ) → numbers_at l.self x ≡ numbers_at l.initial.self x;
  kept : length l.initial.self ≤ length l.self;
  made : All (λ (held : Held). held.koid < length l.self) (take l.held-index l.handles);
}
