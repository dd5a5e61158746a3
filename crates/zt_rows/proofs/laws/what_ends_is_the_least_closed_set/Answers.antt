use Rattle.zt_rows.proofs.ClosedLaws.{ends-has, ends-closed, ends-inside}
use Rattle.zt_rows.proofs.laws.what_ends_is_the_least_closed_set.Goals as goal

pub returns-clause-has : goal.returns-clause-has
returns-clause-has c = λ S x o sound here task. ends-has S sound x o here task

pub returns-clause-closed : goal.returns-clause-closed
returns-clause-closed c = λ S x o sound here task. ends-closed S sound x o here task

pub returns-clause-least : goal.returns-clause-least
returns-clause-least c = λ S x o sound here task ending closed h y g. ends-inside S sound x o here task ending closed h y g
