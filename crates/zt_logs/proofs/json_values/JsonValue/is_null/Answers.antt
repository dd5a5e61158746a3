-- The answer is that of the value at this place.
use Rattle.json.specs.Find.{is_null}
use Rattle.zt_logs.proofs.TokenLaws.{answer_is}
use Rattle.zt_logs.proofs.json_values.JsonValue.is_null.Goals as goal

pub returns : goal.returns
returns c = rw (← c.self.view_is) (answer_is is_null _ _ c.self.invariant c.is_null.ensures)
