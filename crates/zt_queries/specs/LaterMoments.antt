-- What was leaked at a moment of a tree, at the moments to which that one leads; and what the moment at which an object was
-- leaked tells of all moments up to the one that was asked about. This project's own.
use Rattle.std.specs.Prelude.{◌≡◌, ℕ, ◌≤◌, ◌<◌, Bool, true, false, List, ◌∷◌, Option, None, Some}
use Rattle.zt_rows.specs.State.{State}
use Rattle.zt_rows.specs.Reads.{object, on_object}
use Rattle.zt_rows.specs.Tests.{among, exists, is_endpoint}
use Rattle.zt_history.specs.Tree.{Made, Tree, last_moment, path, state_at}
use Rattle.zt_queries.specs.Reachability.{reached}
use Rattle.zt_queries.specs.Leaks.{is_leaked}

-- m is the opening, or on the path to n, whose last moment is n itself
abbrev pub leads_to : List Made → ℕ → ℕ → Bool
leads_to made m n = among (0 ∷ path made n) m

-- what was leaked in S is out of reach in T: it is leaked there or gone, and an endpoint is leaked there and not gone
pub record StaysLeaked (S T : State) (x : ℕ) : Type 0 where
  pub unreached : among (reached T) x ≡ false
  pub leaked_or_gone : exists T x ≡ true → is_leaked T x ≡ true
  pub endpoint : on_object (λ o. is_endpoint o.kind) (object S x) ≡ true → is_leaked T x ≡ true

-- what is leaked at a moment of the tree stays so at every moment to which that one leads
abbrev pub LeaksStay : Tree → Type 0
LeaksStay t = (m n x : ℕ) → n ≤ last_moment t → leads_to t.made m n ≡ true → is_leaked (state_at t.made m) x ≡ true
    → StaysLeaked (state_at t.made m) (state_at t.made n) x

-- of the moments up to `at`, the object is leaked at none before this one, and from this one on it stays leaked
pub record IsLeakedSince (made : List Made) (at x since : ℕ) : Type 0 where
  pub before : (m : ℕ) → leads_to made m at ≡ true → m < since → is_leaked (state_at made m) x ≡ false
  pub itself : is_leaked (state_at made since) x ≡ true
  pub later : (m : ℕ) → leads_to made m at ≡ true → since ≤ m → StaysLeaked (state_at made since) (state_at made m) x

-- what was found: the moment since which the object is leaked; or none, and it is leaked at no moment up to `at`
abbrev pub TellsWhenLeaked : List Made → ℕ → ℕ → Option ℕ → Type 0
TellsWhenLeaked made at x (Some since) = IsLeakedSince made at x since
TellsWhenLeaked made at x None = (m : ℕ) → leads_to made m at ≡ true → is_leaked (state_at made m) x ≡ false
