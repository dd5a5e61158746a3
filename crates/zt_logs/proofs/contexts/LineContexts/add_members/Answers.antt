-- Each member has numbers that are numbers.
use Rattle.json.specs.Value.{value_view}
use Rattle.zt_logs.proofs.FieldLaws.{member_found}
use Rattle.zt_logs.proofs.contexts.LineContexts.add_members.Goals as goal

pub put_field-requires : goal.put_field-requires
put_field-requires c = member_found (λ v. value_view v.now) _ _ _ _ c.requires c.get.ensures c.in-Some.is
