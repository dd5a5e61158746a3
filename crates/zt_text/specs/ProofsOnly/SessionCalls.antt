-- What a reader of calls keeps, as it is seen. Used by proofs only.
use Rattle.std.specs.Prelude.{ℕ, ◌+◌, ◌<◌, ◌^◌, List, length}
use denote.Ref.{Bor}
use Rattle.zt_text.specs.Lines.{lines_of}
use Rattle.zt_text.specs.SessionCalls.{LinesLeft}

abbrev pub lines_left : ℕ → Bor (List ℕ) → LinesLeft
lines_left number left = record { number = number; lines = lines_of left.now }

-- no line left has a number that does not fit
abbrev pub HasRoom : ℕ → Bor (List ℕ) → Type 0
HasRoom number left = number + length left.now < 2 ^ 64
