-- The process of a call is another; all else is the same.
use Rattle.std.proofs.Common.{ap}
use Rattle.std.proofs.Math.Seq.{map-set_same}
use Rattle.zt_logs.specs.ProofsOnly.ReadLines.{without_process}
use Rattle.zt_logs.proofs.process_names.set_made.Goals as goal

pub returns-in-Some : goal.returns-in-Some
returns-in-Some c =
    map-set_same without_process c.args.calls.now.items c.args.call _ c.in-Some.logged.now (ap without_process c.in-Some.ensures.value)
