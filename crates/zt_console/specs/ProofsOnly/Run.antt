-- One text on its way out, one read on its way in, and a writer's failures: the parts of a run. This project's own.
-- Used by proofs only.
use Rattle.std.specs.Prelude.{◌≡◌, ℕ, ◌<◌, ◌≤◌, Bool, true, List, [], ◌++◌, length, take, Option, Result, Ok, Err}
use Rattle.std.specs.Io.KnownBytes.{Appends, Consumes, IsAtEnd}
use Rattle.zt_rows.specs.declared.refusals.Refusal.{Refusal}
use Rattle.zt_rows.specs.declared.refusals.Refusal.TheVariants as refusal

-- ---- what is written

-- a text is written, whole where it is done, and else a prefix of it
pub record IsWritten (text : List ℕ) (before after : Option (List ℕ)) (done : Bool) : Type 0 where
  pub written : List ℕ
  pub unwritten : List ℕ
  pub split : text ≡ written ++ unwritten
  pub appended : Appends before after written
  pub whole : done ≡ true → unwritten ≡ []

-- what waits is written, or waits on
pub record IsSent (waited waits : List ℕ) (before after : Option (List ℕ)) (done : Bool) : Type 0 where
  pub written : List ℕ
  pub unwritten : List ℕ
  pub split : waited ≡ written ++ unwritten
  pub appended : Appends before after written
  pub whole : done ≡ true → unwritten ≡ waits

-- ---- what is read

-- a read gave the first so many bytes of a buffer, and none at the end of the input alone
pub record IsRead (left rest : Option (List ℕ)) (bytes : List ℕ) (count : ℕ) : Type 0 where
  pub within : count ≤ length bytes
  pub consumed : Consumes left rest (take count bytes)
  pub ended : count ≡ 0 → 0 < length bytes → IsAtEnd rest

-- ---- failures

-- a writer's number of failures rises where a write fails, and then alone
abbrev pub IsFailureCounted : ℕ → ℕ → Result (Unit {0}) Refusal → Type 0
IsFailureCounted old new (Ok _) = new ≡ old
IsFailureCounted old new (Err refusal.WriteFault) = old < new
IsFailureCounted old new (Err refusal.OutOfMemory) = new ≡ old
IsFailureCounted old new (Err _) = ⊥
