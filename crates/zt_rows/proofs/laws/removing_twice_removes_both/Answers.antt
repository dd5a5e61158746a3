use Rattle.zt_rows.proofs.WithoutLaws.{without-twice}
use Rattle.zt_rows.proofs.laws.removing_twice_removes_both.Goals as goal

pub returns : goal.returns
returns c = without-twice
