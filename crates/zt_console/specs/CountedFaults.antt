-- How a reader and a writer count their failures.
use Rattle.std.specs.Prelude.{ℕ, ◌+◌, ◌-◌, ◌^◌, Bool, true, ◌&&◌, not, ◌==◌, min, Result, Ok, Err, if◌then◌else◌}

-- one failure more, where the number can still grow
abbrev pub raised : ℕ → ℕ
raised faults = min (faults + 1) (2 ^ 64 - 1)

-- the number of failures after a read or a write, by whether that failed
abbrev pub faults_after : ℕ → Bool → ℕ
faults_after faults failed = if failed then raised faults else faults

-- a write fails, or takes no byte of those that there are
abbrev pub write_failed : {E : Type 0} → Result ℕ E → ℕ → Bool
write_failed (Ok taken) len = taken == 0 && not (len == 0)
write_failed (Err _) len = true
