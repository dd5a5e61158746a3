-- The next item is the first of those that are left.
use Rattle.zt_logs.proofs.TokenLaws.{next_none, next_some}
use Rattle.zt_logs.proofs.json_values.JsonItems.next.Goals as goal

pub returns-in_default-clause-value : goal.returns-in_default-clause-value
returns-in_default-clause-value c =
    rw (← c.self.view_is) (next_none _ c.self.invariant c.in_default.ensures.value)

pub returns-clause-value : goal.returns-clause-value
returns-clause-value c =
    let there = next_some _ _ _ c.in-Some.element c.self.invariant c.next.ensures.value c.in-Some.is in rw (← c.self.view_is) there.0

pub invariant_of-result : goal.invariant_of-result
invariant_of-result c = let there = next_some _ _ _ c.in-Some.element c.self.invariant c.next.ensures.value c.in-Some.is in there.1

pub invariant_of-self-2 : goal.invariant_of-self-2
invariant_of-self-2 c = let there = next_some _ _ _ c.in-Some.element c.self.invariant c.next.ensures.value c.in-Some.is in there.2
