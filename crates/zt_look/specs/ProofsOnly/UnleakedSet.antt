-- The objects of a state that are there and not leaked, as a set of koids. This project's own. Used by proofs only.
use Rattle.std.specs.Prelude.{◌≡◌, ℕ, Bool, not, ◌&&◌, List, [], map, Option}
use Rattle.std.specs.Ordering.{nat_cmp}
use Rattle.std.specs.BTreeSet.{BTreeSet, contains}
use Rattle.zt_rows.specs.declared.keys.RowKey.{RowKey}
use Rattle.zt_rows.specs.declared.rows.Row.{Row}
use Rattle.zt_rows.specs.Change.{before}
use Rattle.zt_rows.specs.Consistent.{IsConsistent}
use Rattle.zt_rows.specs.State.{State}
use Rattle.zt_rows.specs.Tests.{exists}
use Rattle.zt_queries.specs.Happenings.{IsCallStep}
use Rattle.zt_queries.specs.Leaks.{is_leaked}
use Rattle.zt_look.specs.declared.unleaked_search.Search.{Search}
use Rattle.zt_look.specs.ProofsOnly.UnleakedSearch.{in_found, in_set, is_gone}

-- it is there and not leaked
abbrev pub is_unleaked : State → ℕ → Bool
is_unleaked S x = exists S x && not (is_leaked S x)

-- the set has what is unleaked
abbrev pub IsUnleakedSet : State → BTreeSet ℕ → Type 0
IsUnleakedSet S set = (x : ℕ) → contains nat_cmp set x ≡ (exists S x && not (is_leaked S x))

-- T is what a call makes of S, and the record has the rows of T where they differ
pub record IsCallOver (S T : State) (R : List (RowKey × Option Row)) : Type 0 where
  pub early : IsConsistent S
  pub late : IsConsistent T
  pub call : IsCallStep S T
  pub rows : R ≡ before T S

-- a search that begins with what is unleaked in T, of what is there in S
pub record IsStart (S T : State) (R : List (RowKey × Option Row)) (s : Search) : Type 0 where
  pub turn : IsCallOver S T R
  pub known : (x : ℕ) → in_set s x ≡ (is_unleaked T x && not (is_gone S (map (λ e. e.0) R) x))
  pub gone : (x : ℕ) → in_found s x ≡ (not (is_unleaked T x) && is_gone S (map (λ e. e.0) R) x)
  pub none_waits : s.waiting.items ≡ []
