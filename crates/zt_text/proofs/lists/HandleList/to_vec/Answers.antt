use Rattle.zt_text.proofs.ListLemmas.{few_handles}
use Rattle.zt_text.proofs.lists.HandleList.to_vec.Goals as goal

pub returns-in-Ok-clause-few : goal.returns-in-Ok-clause-few
returns-in-Ok-clause-few c = few_handles c.self.inside.field.now c.in-Ok.values.items c.in-Ok.ensures
