-- What stands behind the first line of a text, and what a text of version 1 makes. Used by proofs only.
use Rattle.std.specs.Prelude.{◌≡◌, ℕ, List, Option, Some, None, Result, Ok}
use denote.Ref.{Bor}
use Rattle.zt_rows.specs.declared.refusals.Refusal.{Refusal}
use Rattle.zt_rows.specs.declared.calls.Call.{Call}
use Rattle.zt_rows.specs.declared.saved.Saved.{Saved}
use Rattle.zt_text.specs.Lines.{lines_of}
use Rattle.zt_text.specs.Fields.{◌>>=◌}
use Rattle.zt_rows.specs.CallsInARow.{in_a_row}

-- the bytes of these lines, where there are any
abbrev pub IsBehindFirst : Option (List (List ℕ)) → Option (Bor (List ℕ)) → Type 0
IsBehindFirst lines None = lines ≡ None
IsBehindFirst lines (Some left) = lines ≡ Some (lines_of left.now)

-- the tree of calls in a row
abbrev pub row_of : Result (List (ℕ × Call)) (ℕ × Refusal) → Result Saved (ℕ × Refusal)
row_of read = read >>= λ calls. Ok (in_a_row calls)
