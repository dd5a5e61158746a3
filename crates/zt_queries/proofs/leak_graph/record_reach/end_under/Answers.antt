-- What the message names is reached where its endpoint is.
use Rattle.std.proofs.Common.{sym, arith}
use Rattle.std.specs.Option.{option_copied}
use Rattle.zt_queries.proofs.RecordReachLaws.{message-shows}
use Rattle.zt_queries.proofs.leak_graph.record_reach.end_under.Goals as goal

pub returns-in-Some : goal.returns-in-Some
returns-in-Some c =
    message-shows c.args.change.now c.in-Msg.endpoint c.in-Msg.field-1 c.args.koid (option_copied c.in-Some.row) (sym c.in-Some.ensures)
    (omega (arith, c.times_named.ensures, c.if-times_named-gt0.true))
