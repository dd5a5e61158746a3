-- The items are those of the list at this place.
use Rattle.zt_logs.proofs.TokenLaws.{list_none, list_some}
use Rattle.zt_logs.proofs.json_values.JsonValue.items.Goals as goal

pub returns-in-Some : goal.returns-in-Some
returns-in-Some c = let there = list_some _ _ c.in-Some.items c.self.invariant c.items.ensures c.in-Some.is in rw (← c.self.view_is) there.0

pub returns-in-None : goal.returns-in-None
returns-in-None c = rw (← c.self.view_is) (list_none _ _ c.self.invariant c.items.ensures c.in-None.is)

pub invariant_of-result : goal.invariant_of-result
invariant_of-result c = let there = list_some _ _ c.in-Some.items c.self.invariant c.items.ensures c.in-Some.is in there.1
