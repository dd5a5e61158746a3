-- The answer is that of the value at this place.
use Rattle.json.specs.Find.{as_number}
use Rattle.zt_logs.proofs.TokenLaws.{answer_is}
use Rattle.zt_logs.proofs.json_values.JsonValue.as_number.Goals as goal

pub returns : goal.returns
returns c = rw (← c.self.view_is) (answer_is as_number _ _ c.self.invariant c.as_number.ensures)
