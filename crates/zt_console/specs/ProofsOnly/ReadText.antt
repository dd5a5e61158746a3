-- A session text of version 1 whose calls are loaded as its bytes are read: what is loaded so far. Used by proofs only.
use Rattle.std.specs.Prelude.{◌≡◌, ℕ, ◌<◌, Bool, true, List, [], ◌∷◌, ◌++◌, ◌==◌, length, codes, Option, Result, Ok}
use Rattle.std.specs.Io.KnownBytes.{Consumes, IsAtEnd}
use Rattle.zt_rows.specs.declared.calls.Call.{Call}
use Rattle.zt_text.specs.Lines.{lines_of}
use Rattle.zt_text.specs.Session.{calls_in}

-- ---- lines

-- no line goes on behind these bytes
abbrev pub ends_line : List ℕ → Bool
ends_line [] = true
ends_line (byte ∷ []) = byte == 10
ends_line (byte ∷ next ∷ bytes) = ends_line (next ∷ bytes)

-- bytes are cut behind a line feed
pub record AreWhole (bytes lines rest : List ℕ) : Type 0 where
  pub split : bytes ≡ lines ++ rest
  pub some : 0 < length lines
  pub whole : ends_line lines ≡ true

-- these bytes behind the first line of a text
abbrev pub with_first : List ℕ → List ℕ
with_first bytes = codes "zxtt 1" ++ (10 ∷ bytes)

-- ---- calls

-- the calls of these lines are loaded behind others
pub record AreLoaded (bytes : List ℕ) (row more : List (ℕ × Call)) : Type 0 where
  pub calls : List (ℕ × Call)
  pub read : calls_in 2 (lines_of bytes) ≡ Ok calls
  pub behind : more ≡ row ++ calls

-- the calls of the whole lines in these bytes are loaded behind others, and a part of the next line is left
pub record AreTaken (bytes : List ℕ) (row more : List (ℕ × Call)) (part : List ℕ) : Type 0 where
  pub lines : List ℕ
  pub split : bytes ≡ lines ++ part
  pub whole : ends_line lines ≡ true
  pub loaded : AreLoaded lines row more

-- ---- a text

-- the calls of the whole lines that were read so far behind the first are `row`, and `part` of the next line is left
pub record IsReadSoFar (before now : Option (List ℕ)) (row : List (ℕ × Call)) (part : List ℕ) : Type 0 where
  pub bytes : List ℕ
  pub given : Consumes before now (with_first bytes)
  pub taken : AreTaken bytes [] row part

-- a text was read to its end, and the calls of all its lines behind the first are `row`
pub record IsRowRead (before after : Option (List ℕ)) (row : List (ℕ × Call)) : Type 0 where
  pub bytes : List ℕ
  pub given : Consumes before after (with_first bytes)
  pub ended : IsAtEnd after
  pub read : calls_in 2 (lines_of bytes) ≡ Ok row
