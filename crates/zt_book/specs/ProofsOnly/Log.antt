-- The number of the call at which a refusal is told. Used by proofs only.
use Rattle.std.specs.Prelude.{ℕ}
use Rattle.zt_rows.specs.declared.refusals.Refusal.{Refusal}
use Rattle.zt_rows.specs.declared.refusals.Refusal.TheVariants as refusal

-- the call at which a refusal is told: want of memory at none
abbrev pub fault_at : ℕ → Refusal → ℕ × Refusal
fault_at number refusal.OutOfMemory = (0, refusal.OutOfMemory)
fault_at number reason = (number, reason)
