-- The answer is that of the value at this place.
use Rattle.json.specs.Find.{as_str}
use Rattle.zt_logs.proofs.TokenLaws.{answer_is}
use Rattle.zt_logs.proofs.json_values.JsonValue.as_str.Goals as goal

pub returns : goal.returns
returns c = rw (← c.self.view_is) (answer_is as_str _ _ c.self.invariant c.as_str.ensures)
