-- What is found of a state by a search of its graph. This project's own. Used by proofs only.
use Rattle.std.specs.Prelude.{◌≡◌, ℕ}
use Rattle.std.specs.Ordering.{nat_cmp}
use Rattle.std.specs.BTreeSet.{contains}
use Rattle.zt_rows.specs.State.{State}
use Rattle.zt_rows.specs.Tests.{among}
use Rattle.zt_queries.specs.declared.leak_graph.leak_list.Reachability.{Reachability}
use Rattle.zt_queries.specs.Reachability.{reached}
use Rattle.zt_queries.specs.Leaks.{is_above}

-- it has what is reached, and what is above something that is kept
pub record IsSurvey (found : Reachability) (S : State) : Type 0 where
  pub of_reached : (x : ℕ) → contains nat_cmp found.reached x ≡ among (reached S) x
  pub of_above : (x : ℕ) → contains nat_cmp found.above x ≡ is_above S (reached S) x
