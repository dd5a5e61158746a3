-- One call more.
use Rattle.std.proofs.Common.{refl}
use Rattle.zt_import.specs.Schedule.{is_met_by}
use Rattle.zt_import.proofs.ListLaws.{none-yet}
use Rattle.zt_import.proofs.schedule.is_met.Goals as goal

pub loop-place-init : goal.loop-place-init
loop-place-init c = (refl, none-yet (is_met_by c.args.taken.now.tree.made c.args.port c.args.line c.args.waited c.args.sought) c.args.asked.now)
