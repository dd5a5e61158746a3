-- What comes next: the least number above a low one that passes a test.
use Rattle.std.specs.Prelude.{◌≡◌, ◌<◌, ℕ, Bool, true, false, ⊤, List, slice_index_or, Option, None, Some, IfSome}

-- ---- what comes next, in an order

-- behind the low one, if there is a low one
abbrev pub IsBehind : (ℕ → ℕ → Type 0) → Option ℕ → ℕ → Type 0
IsBehind lt None n = ⊤
IsBehind lt (Some low) n = lt low n

-- before the one that was found, if one was found
abbrev pub IsShortOf : (ℕ → ℕ → Type 0) → Option ℕ → ℕ → Type 0
IsShortOf lt None n = ⊤
IsShortOf lt (Some found) n = lt n found

-- what was found passes and is behind the low one; nothing between passes, and where nothing was found, nothing
-- behind the low one passes
abbrev pub IsNextBy : (ℕ → ℕ → Type 0) → (ℕ → Bool) → Option ℕ → Option ℕ → Type 0
IsNextBy lt passes low found =
    IfSome found (λ n. IsBehind lt low n × (passes n ≡ true))
    × ((m : ℕ) → IsBehind lt low m → IsShortOf lt found m → passes m ≡ false)

-- the least number above the low one that passes, or the least of all; none where there is none
abbrev pub IsNext : (ℕ → Bool) → Option ℕ → Option ℕ → Type 0
IsNext passes low found = IsNextBy (λ a b. a < b) passes low found

-- ---- buckets

-- the bucket that an item is in
abbrev pub bucket_at : List (Option ℕ) → ℕ → Option ℕ
bucket_at all n = slice_index_or all n None
