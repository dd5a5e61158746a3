-- Which of four clients there are. This project's own. Used by proofs only.
use Rattle.std.specs.Prelude.{ℕ, nat_le, List, [], ◌∷◌, cond}
use Rattle.zt_book.specs.Session.{Session}
use Rattle.zt_shared.specs.Sharing.{PassView, first_part}

-- the pass of the client of this number, where there are so many
abbrev pub part_of : ℕ → Session → ℕ → List PassView
part_of clients base number = cond (nat_le number clients) (first_part base number ∷ []) []
