-- Numbered items in buckets, each in one or in none, and the links from each to those beside it in its bucket.
-- Used by proofs only.
use Rattle.std.specs.Prelude.{◌≡◌, ◌<◌, ◌≤◌, ◌^◌, ◌==◌, ℕ, Bool, true, false, List, length, map, slice_index_or, Option, None, Some, IfSome}
use Rattle.zt_index.specs.declared.chains.BucketLink.{BucketLink}
use Rattle.zt_index.specs.declared.chains.BucketEnds.{BucketEnds}
use Rattle.zt_index.specs.Chains.{IsBehind, IsShortOf, IsNextBy, IsNext, bucket_at}

-- ---- what comes next, in an order

-- the greatest number below the high one that passes, or the greatest of all; none where there is none
abbrev pub IsPrevious : (ℕ → Bool) → Option ℕ → Option ℕ → Type 0
IsPrevious passes high found = IsNextBy (λ a b. b < a) passes high found

-- ---- buckets

abbrev pub is_bucket : ℕ → Option ℕ → Bool
is_bucket b None = false
is_bucket b (Some c) = c == b

-- the item is in the bucket
abbrev pub is_in : List (Option ℕ) → ℕ → ℕ → Bool
is_in all b n = is_bucket b (bucket_at all n)

-- ---- links

abbrev pub no_link : BucketLink
no_link = record { bucket = None; before = None; next = None }

abbrev pub no_ends : BucketEnds
no_ends = record { first = None; last = None }

abbrev pub buckets : List BucketLink → List (Option ℕ)
buckets links = map (λ link. link.bucket) links

-- what is linked as the next behind the low one, or as the first of the bucket
abbrev pub next_of : List BucketLink → List BucketEnds → ℕ → Option ℕ → Option ℕ
next_of links ends b None = (slice_index_or ends b no_ends).first
next_of links ends b (Some n) = (slice_index_or links n no_link).next

-- what is linked as the one before the high one, or as the last of the bucket
abbrev pub before_of : List BucketLink → List BucketEnds → ℕ → Option ℕ → Option ℕ
before_of links ends b None = (slice_index_or ends b no_ends).last
before_of links ends b (Some n) = (slice_index_or links n no_link).before

-- both are the same item, or both are none and the buckets are the same
abbrev pub is_slot : ℕ → Option ℕ → ℕ → Option ℕ → Bool
is_slot bucket None b None = b == bucket
is_slot bucket (Some low) b (Some n) = n == low
is_slot bucket _ b _ = false

-- none, or an item that passes
abbrev pub IsItemOf : (ℕ → Bool) → Option ℕ → Type 0
IsItemOf passes low = IfSome low (λ n. passes n ≡ true)

-- each item is linked to those beside it, and each bucket to its first and its last one
pub record IsChained (links : List BucketLink) (ends : List BucketEnds) : Type 0 where
  pub nexts : (b : ℕ) (low : Option ℕ) → IsItemOf (is_in (buckets links) b) low → IsNext (is_in (buckets links) b) low (next_of links ends b low)
  pub befores : (b : ℕ) (high : Option ℕ) → IsItemOf (is_in (buckets links) b) high → IsPrevious (is_in (buckets links) b) high (before_of links ends b high)

-- the items are chained, where there are items there are the ends of all buckets, and the items are so few that a link can
-- hold the greatest
pub record AreChains (links : List BucketLink) (ends : List BucketEnds) : Type 0 where
  pub chained : IsChained links ends
  pub ended : 0 < length links → 2 ^ 13 ≤ length ends
  pub few : length links < 2 ^ 32

-- none, or an item that passes and is not above the low one
abbrev pub IsAtOrBelow : (ℕ → Bool) → Option ℕ → Option ℕ → Type 0
IsAtOrBelow passes low found =
    IsItemOf passes found × ((m : ℕ) → IsBehind (λ a b. a < b) low m → IsBehind (λ a b. a < b) found m)

-- where a search begins: an item that passes or none, with nothing that passes between the low one and it
abbrev pub IsBesides : (ℕ → Bool) → Option ℕ → Option ℕ → Type 0
IsBesides passes low found =
    IsItemOf passes found × ((m : ℕ) → IsBehind (λ a b. a < b) low m → IsShortOf (λ a b. a < b) found m → passes m ≡ false)
