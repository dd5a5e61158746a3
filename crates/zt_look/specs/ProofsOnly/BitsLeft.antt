-- What is to be written of a mask behind the names that are written.
use Rattle.std.specs.Prelude.{ℕ, List, map}
use Rattle.std.specs.List.{join_with_byte}
use denote.Ref.{Bor}
use Rattle.zt_look.specs.Names.{Names, bit_words}

-- a table of names as the code has it, and its names
abbrev pub Table : Type 0
Table = List (ℕ × Bor (List ℕ))

abbrev pub names_of : Table → Names
names_of table = map (λ e. (e.0, e.1.now)) table

-- of a table from a place on, for the bits that are left
abbrev pub text_left : Table → ℕ → List ℕ
text_left table left = join_with_byte 124 (bit_words (names_of table) left)
