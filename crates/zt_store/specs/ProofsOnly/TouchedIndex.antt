-- By what the places of a list's keys are found: the keys are spread over buckets, and those of a bucket are chained from the
-- last one back to the first. A key's number is its place counted from 1, and 0 stands for none. Used by proofs only.
use Rattle.std.specs.Prelude.{◌≡◌, ◌<◌, ◌+◌, ◌-◌, ◌*◌, ◌/◌, ◌%◌, ◌^◌, ◌==◌, ℕ, zero, suc, Bool, if◌then◌else◌, List, [], ◌∷◌, length, take, Some, slice_get, slice_index_or, bit_and}
use Rattle.zt_rows.specs.declared.keys.RowKey.{RowKey}
use Rattle.zt_rows.specs.Keys.{variant, first_number, second_number}
use Rattle.zt_store.specs.declared.touched_index.KeyLink.{KeyLink}
use Rattle.zt_store.specs.declared.touched_index.TouchedIndex.{TouchedIndex}

-- what is mixed of the key's parts; nothing is used of it but that it is the key's
unfoldable pub mixed_of : RowKey → ℕ
mixed_of k =
    ((first_number k * 0x100000000 % 2 ^ 64 + second_number k * 0xc2b2ae3d27d4eb4f % 2 ^ 64) % 2 ^ 64 + variant k * 0x165667b19e3779f9 % 2 ^ 64) % 2 ^ 64 / 2 ^ 32

-- the key's bucket of n
unfoldable pub bucket_of : ℕ → RowKey → ℕ
bucket_of n k = bit_and (mixed_of k) (n - 1)

-- the number of a key, with one before it that is there, or not
abbrev pub number_behind : Bool → ℕ → ℕ
number_behind here zero = if here then 1 else 0
number_behind here (suc m) = suc (suc m)

-- the number of the last of the keys that is in this bucket of n
unfoldable pub last_in : ℕ → ℕ → List RowKey → ℕ
last_in n b [] = 0
last_in n b (k ∷ ks) = number_behind (bucket_of n k == b) (last_in n b ks)

-- the link of the key at place i
abbrev pub link_of : ℕ → List RowKey → ℕ → RowKey → KeyLink
link_of n ks i k = record { mixed = mixed_of k; before = last_in n (bucket_of n k) (take i ks) }

-- the first m keys are chained over n buckets
pub record IsChainedTo (n : ℕ) (last : List ℕ) (links : List KeyLink) (ks : List RowKey) (m : ℕ) : Type 0 where
  pub ends : (b : ℕ) → b < n → slice_index_or last b 0 ≡ last_in n b (take m ks)
  pub linked : (i : ℕ) (k : RowKey) → i < m → slice_get ks i ≡ Some k → slice_get links i ≡ Some (link_of n ks i k)

-- all keys are chained
pub record AreChained (last : List ℕ) (links : List KeyLink) (ks : List RowKey) : Type 0 where
  pub even : length links ≡ length ks
  pub chained : IsChainedTo (length last) last links ks (length ks)

-- all keys are chained where there are buckets
pub record AreNoted (places : TouchedIndex) (ks : List RowKey) : Type 0 where
  pub chained : 0 < length places.last.items → AreChained places.last.items places.links.items ks
