-- Each item has numbers that are numbers.
use Rattle.json.specs.Value.{value_view}
use Rattle.zt_logs.proofs.FieldLaws.{item_found}
use Rattle.zt_logs.proofs.fields.put_content.Goals as goal

pub put_item-requires-in-Some : goal.put_item-requires-in-Some
put_item-requires-in-Some c = item_found (λ v. value_view v.now) _ _ _ _ c.requires c.at.ensures c.in-Some.is
