-- What is found is the value at its place.
use Rattle.zt_logs.proofs.TokenLaws.{found_none, found_some}
use Rattle.zt_logs.proofs.json_values.JsonValue.get.Goals as goal

pub returns-in-Some : goal.returns-in-Some
returns-in-Some c = let there = found_some c.args.name.now _ _ c.in-Some.element c.self.invariant c.get.ensures c.in-Some.is in rw (← c.self.view_is) there.0

pub returns-in-None : goal.returns-in-None
returns-in-None c = rw (← c.self.view_is) (found_none c.args.name.now _ _ c.self.invariant c.get.ensures c.in-None.is)

pub invariant_of-result : goal.invariant_of-result
invariant_of-result c = let there = found_some c.args.name.now _ _ c.in-Some.element c.self.invariant c.get.ensures c.in-Some.is in there.1
