-- What is not leaked at the last place never is, and else the moment is found.
use Rattle.std.proofs.Common.{sym, ◌∙◌}
use Rattle.zt_queries.proofs.FirstLeakLaws.{never-leaked}
use Rattle.zt_queries.proofs.leak_graph.first_leak.leaked_within.Goals as goal

pub returns-then-is_unleaked_at : goal.returns-then-is_unleaked_at
returns-then-is_unleaked_at c =
    never-leaked c.args.history.now c.args.ways.now.way.items c.args.ways.now.here.items c.args.ways.now.shared c.requires.ways c.args.koid c.args.place c.requires.last
    (c.is_unleaked_at.ensures c.if-is_unleaked_at.true)

pub returns-then-not-leaks : goal.returns-then-not-leaks
returns-then-not-leaks c =
    never-leaked c.args.history.now c.args.ways.now.way.items c.args.ways.now.here.items c.args.ways.now.shared c.requires.ways c.args.koid c.args.place c.requires.last
    (sym (c.in_ok-leaks.ensures _ c.in_ok-graph.ensures) ∙ c.if-not-leaks.true)

pub first_leak_within-requires-clause-leaked : goal.first_leak_within-requires-clause-leaked
first_leak_within-requires-clause-leaked c = sym (c.in_ok-leaks.ensures _ c.in_ok-graph.ensures) ∙ c.if-not-leaks.false
