-- What is not leaked at the last place never is, and else the moment is found.
use Rattle.std.proofs.Common.{sym, ◌∙◌}
use Rattle.zt_queries.proofs.FirstLeakLaws.{never-leaked, leaked-behind}
use Rattle.zt_queries.proofs.leak_graph.first_leak.leaked_beyond.Goals as goal

pub returns-then-not-late : goal.returns-then-not-late
returns-then-not-late c =
    never-leaked c.args.history.now c.args.ways.now.way.items c.args.ways.now.here.items c.args.ways.now.shared c.requires.ways c.args.koid c.args.place c.requires.last
    (sym c.in_ok-late.ensures ∙ c.if-not-late.true)

pub returns : goal.returns
returns c =
    leaked-behind c.args.history.now c.args.ways.now.way.items c.args.ways.now.here.items c.args.ways.now.shared c.requires.ways c.args.koid c.in_ok-first_leak.first_leak c.index.result.now c.in_ok-first_leak.ensures c.index.ensures
