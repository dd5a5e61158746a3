-- The last on the path is the last of its list.
use Rattle.std.proofs.Common.{◌∙◌}
use Rattle.zt_rows.specs.declared.calls.Happening.TheVariants as happening
use Rattle.zt_queries.proofs.WhenLaws.{last-on}
use Rattle.zt_queries.proofs.leak_graph.first_leak.searched_since.Goals as goal

pub returns-in-Ok-clause-found : goal.returns-in-Ok-clause-found
returns-in-Ok-clause-found c =
    c.in-Ok.ensures ∙ last-on c.args.history.now.tree.made c.args.at c.args.koid happening.Leaked c.in_ok-ways.ways.way.items c.in_ok-ways.ensures.way
