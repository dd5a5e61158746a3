-- A branch that is found by its name is one of the branches.
use Rattle.std.proofs.Common.{◌≡◌, ℕ, ◌<◌, List, [], length, Option, Some, None, sym}
use Rattle.std.specs.Prelude.{IfSome}
use Rattle.std.specs.Str.{bytes_eq}
use Rattle.std.proofs.lemmas.List.Quantifiers.{position-Some}
use Rattle.zt_history.specs.Tree.{Branch, branch_named}

pub named_within : (branches : List Branch) (name : List ℕ) (found : Option ℕ) → found ≡ branch_named branches name → IfSome found (λ id. id < length branches)
named_within branches name None _ = tt
named_within branches name (Some id) found = (position-Some (λ b. bytes_eq name b.name) branches id (record { name = []; head = 0 }) (sym found)).0
