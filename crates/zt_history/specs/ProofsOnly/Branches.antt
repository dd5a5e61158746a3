-- The branches as the entries of a map from names to heads, and lists without their last element. Used by proofs only.
use Rattle.std.specs.Prelude.{ℕ, ◌-◌, List, map, take, length}
use Rattle.zt_history.specs.Tree.{Branch}

abbrev pub branches_by : {K : Type 0} → (K → List ℕ) → List (K × ℕ) → List Branch
branches_by name entries = map (λ e. record { name = name e.0; head = e.1 }) entries

abbrev pub without_last : {A : Type 0} → List A → List A
without_last xs = take (length xs - 1) xs
