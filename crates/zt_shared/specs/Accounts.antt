-- An account: rows that a lock's side and a pass's side keep in common. Each row stands in a cell of its own, which is
-- set once, and both sides have a note of it. This project's own.
use Rattle.std.specs.Prelude.{◌≡◌, ℕ, nat_le, List, [], ◌∷◌, length, map, take, cond, Option, None, Some}
use Rattle.zt_shared.specs.declared.account.NoteSlot.{NoteSlot}

-- how many rows an account takes: it has a cell for each
abbrev pub most : ℕ
most = 4096

-- an account's ledger and cells, before any type names them
pub record Unnamed : Type 0 where
  pub ledger : ℕ
  pub cells : List ℕ

-- how one side is seen: its rows, and how many more it can take before it asks for memory
pub record Side (T : Type 0) : Type 0 where
  pub rows : List T
  pub room : ℕ

-- the smaller of two numbers
abbrev pub smaller : ℕ → ℕ → ℕ
smaller m n = cond (nat_le m n) m n

-- ---- what one side knows: the notes that it has of the cells, and the rows that stand in them

-- the cells that some notes are of
abbrev pub cells_of : {T : Type 0} → List (NoteSlot T) → List ℕ
cells_of notes = map (λ n. n.note.cell) notes

-- what some notes know
abbrev pub known_of : {T : Type 0} → List (NoteSlot T) → List (Option T)
known_of notes = map (λ n. n.note.known) notes

-- what is known of some values that are known or not
abbrev pub somes : {T : Type 0} → List (Option T) → List T
somes [] = []
somes (Some x ∷ xs) = x ∷ somes xs
somes (None ∷ xs) = somes xs

-- One side of an account with these cells has notes of the first of them, in turn, and knows of each the row that
-- stands in it.
pub record KnowsItsRows {T : Type 0} (cells : List ℕ) (notes : List (NoteSlot T)) (rows : List T) : Type 0 where
  pub full : length cells ≡ most
  pub first : cells_of notes ≡ take (length rows) cells
  pub all : known_of notes ≡ map Some rows
