use Rattle.zt_rows.proofs.WithoutLaws.{collect-justified}
use Rattle.zt_rows.proofs.laws.order_of_removal_is_free.Goals as goal

pub returns : goal.returns
returns c = collect-justified
