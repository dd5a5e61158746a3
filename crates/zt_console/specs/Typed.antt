-- What a reader of typed lines gives of them. This project's own.
use Rattle.std.specs.Prelude.{◌≡◌, ◌≢◌, ℕ, Bool, true, false, not, List, [], ◌∷◌, ◌++◌, Option, Some, None, All, codes}
use Rattle.std.specs.Io.KnownBytes.{Consumes}
use Rattle.zt_console.specs.declared.typed_lines.Aside.{Aside}
use Rattle.zt_console.specs.declared.typed_lines.Aside.TheVariants as aside

-- the line by which each is asked, with its line feed
abbrev pub asking : Aside → List ℕ
asking aside.Help = codes "help" ++ 10 ∷ []
asking aside.Where = codes "where" ++ 10 ∷ []
asking aside.Quit = codes "quit" ++ 10 ∷ []

-- a line asks none of these
abbrev pub IsOther : List ℕ → Type 0
IsOther line = (it : Aside) → line ≢ asking it

-- what a line asks
abbrev pub IsAskedBy : List ℕ → Option Aside → Type 0
IsAskedBy line (Some it) = line ≡ asking it
IsAskedBy line None = IsOther line

-- what a piece asks, behind the beginning of a line or within one
abbrev pub IsAskedWithin : Bool → List ℕ → Option Aside → Type 0
IsAskedWithin within piece (Some it) = (within ≡ false) × (piece ≡ asking it)
IsAskedWithin within piece None = within ≡ false → IsOther piece

-- what is given of a line that asks: no more at all, or an empty line
abbrev pub given_for : Aside → List ℕ
given_for aside.Quit = []
given_for it = 10 ∷ []

-- What is given of a piece that was typed, behind the beginning of a line or within one, and whether the input ends with it: what was
-- typed, but for a whole line that asks.
pub record IsAnswered (within : Bool) (typed given : List ℕ) (ended : Bool) : Type 0 where
  pub within_line : within ≡ true → given ≡ typed
  pub other : IsOther typed → given ≡ typed
  pub asked : within ≡ false → (it : Aside) → typed ≡ asking it → given ≡ given_for it
  pub quit : within ≡ false → typed ≡ asking aside.Quit → ended ≡ true

-- a piece is a line to its line feed, or has none
abbrev pub IsPiece : Bool → List ℕ → Type 0
IsPiece true typed = (line : List ℕ) × (typed ≡ line ++ 10 ∷ []) × All (λ byte. byte ≢ 10) line
IsPiece false typed = All (λ byte. byte ≢ 10) typed

-- What a read gives, behind which the reader stands at the beginning of a line or within one: it takes one piece of what is left to be
-- typed.
pub record IsGiven (left rest : Option (List ℕ)) (within within_after : Bool) (given : List ℕ) (ended : Bool) : Type 0 where
  pub typed : List ℕ
  pub taken : Consumes left rest typed
  pub piece : IsPiece (not within_after) typed
  pub answered : IsAnswered within typed given ended
