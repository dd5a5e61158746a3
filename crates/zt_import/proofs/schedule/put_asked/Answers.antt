-- A step beside the log asks none of its calls.
use Rattle.zt_import.proofs.AskedLaws.{asked-beside}
use Rattle.zt_import.proofs.schedule.put_asked.Goals as goal

pub returns-in_default : goal.returns-in_default
returns-in_default c = asked-beside c.args.calls.now c.args.asked.now.items c.args.step.origin c.args.step.moment c.in_default.not-Logged
