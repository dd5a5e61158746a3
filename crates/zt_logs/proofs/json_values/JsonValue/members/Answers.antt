-- The members are those of the object at this place.
use Rattle.zt_logs.proofs.TokenLaws.{object_none, object_some}
use Rattle.zt_logs.proofs.json_values.JsonValue.members.Goals as goal

pub returns-in-Some : goal.returns-in-Some
returns-in-Some c = let there = object_some _ _ c.in-Some.members c.self.invariant c.members.ensures c.in-Some.is in rw (← c.self.view_is) there.0

pub returns-in-None : goal.returns-in-None
returns-in-None c = rw (← c.self.view_is) (object_none _ _ c.self.invariant c.members.ensures c.in-None.is)

pub invariant_of-result : goal.invariant_of-result
invariant_of-result c = let there = object_some _ _ c.in-Some.members c.self.invariant c.members.ensures c.in-Some.is in there.1
