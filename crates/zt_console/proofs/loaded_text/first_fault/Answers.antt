-- The others read, or their first fault is told.
use Rattle.zt_text.specs.Session.{has_call}
use Rattle.zt_text.specs.SessionCalls.{calls_left}
use Rattle.zt_console.proofs.LoadLaws.{first-of-read, first-of-unread}
use Rattle.zt_console.proofs.loaded_text.first_fault.Goals as goal

pub returns-in-Ok : goal.returns-in-Ok
returns-in-Ok c =
    first-of-read c.args.text.now (calls_left c.args.others.now) c.args.refused c.at_line.result c.in-Ok.ensures.read c.at_line.ensures

pub returns-in-Err : goal.returns-in-Err
returns-in-Err c =
    first-of-unread c.args.text.now (has_call c.args.others.now.lines) (calls_left c.args.others.now) c.args.refused c.in-Err.unread c.in-Err.ensures.refused
