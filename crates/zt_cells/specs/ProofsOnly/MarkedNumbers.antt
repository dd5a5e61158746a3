-- Marks of numbers: a bit for each in a list of words, and above it a bit for each word that is not 0. Used by proofs only.
use Rattle.std.specs.Prelude.{◌≡◌, ◌≢◌, ◌≤◌, ◌<◌, ◌*◌, ◌/◌, ◌%◌, ℕ, List, Option, slice_index_or, length, min}
use Rattle.std.specs.Int.{bit_at}
use Rattle.std.specs.Option.{MatchOption}

-- the word of this number, or 0 where there is none
abbrev pub word : List ℕ → ℕ → ℕ
word words k = slice_index_or words k 0

-- 1 where the number is marked, and else 0
unfoldable pub mark : List ℕ → ℕ → ℕ
mark words n = bit_at (word words (n / 64)) (n % 64)

-- a bit of the word is as it is to be, and all others stay
pub record IsWordWith (old new i bit : ℕ) : Type 0 where
  pub here : bit_at new i ≡ bit
  pub others : (j : ℕ) → j < 64 → j ≢ i → bit_at new j ≡ bit_at old j

-- from this bit of the word on this one is the first that is set
pub record IsLowestFrom (w low i : ℕ) : Type 0 where
  pub from_there : low ≤ i
  pub within : i < 64
  pub set : bit_at w i ≡ 1
  pub first : (j : ℕ) → low ≤ j → j < i → bit_at w j ≡ 0

-- the mark of a number is as it is to be, and all others stay
pub record IsMarkedAs (old new : List ℕ) (i bit : ℕ) : Type 0 where
  pub here : mark new i ≡ bit
  pub others : (n : ℕ) → n ≢ i → mark new n ≡ mark old n
  pub words : (k : ℕ) → k ≢ i / 64 → word new k ≡ word old k
  pub len : length new ≡ length old

-- each word has its number marked in the upper ones where it is not 0, and there is room for these marks
pub record AreAbove (upper lower : List ℕ) : Type 0 where
  pub marked : (k : ℕ) → mark upper k ≡ min 1 (word lower k)
  pub room : length lower ≤ 64 * length upper

-- from this number on this one is the first that is marked
pub record IsNextAt (words : List ℕ) (from n : ℕ) : Type 0 where
  pub from_there : from ≤ n
  pub marked : mark words n ≡ 1
  pub first : (m : ℕ) → from ≤ m → m < n → mark words m ≡ 0

-- from this number on no number of its word is marked
abbrev pub IsClearWordFrom : List ℕ → ℕ → Type 0
IsClearWordFrom words from = (n : ℕ) → from ≤ n → n / 64 ≡ from / 64 → mark words n ≡ 0

-- the first number from this one on that is marked, or none where none of its word is
abbrev pub IsNextInWord : List ℕ → ℕ → Option ℕ → Type 0
IsNextInWord words from found = MatchOption found (IsClearWordFrom words from) (IsNextAt words from)

-- the first number from this one on that is marked, or none where none is
abbrev pub IsNextMark : List ℕ → ℕ → Option ℕ → Type 0
IsNextMark words from found =
    MatchOption found ((n : ℕ) → from ≤ n → mark words n ≡ 0) (IsNextAt words from)
