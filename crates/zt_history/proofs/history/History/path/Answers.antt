-- A path ends with its moment.
use Rattle.std.proofs.Common.{◌∙◌, ap}
use Rattle.zt_history.specs.Tree.{end_of}
use Rattle.zt_history.proofs.PathLaws.{path-end}
use Rattle.zt_history.proofs.history.History.path.Goals as goal

pub returns-clause-end : goal.returns-clause-end
returns-clause-end c = ap end_of c.in_ok-path.ensures ∙ path-end c.self.inside.moments.made c.limits.ensures.falls c.args.moment
