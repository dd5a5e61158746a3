-- What the walk from the caller finds is what ends with it.
use Rattle.std.proofs.Common.{rules}
use Rattle.zt_rows.specs.End.{ends_with}
use Rattle.zt_calls.proofs.JobCallLaws.{caller-walkable}
use Rattle.zt_calls.proofs.job_calls.process_exit.Goals as goal

pub returns-clause-does : goal.returns-clause-does
returns-clause-does c =
    let done = c.in_ok-released.ensures.ended (ends_with c.args.step.now.current c.args.process)
    (caller-walkable c.args.step.now.current c.requires.sound c.args.process c.requires.running) in
    search rules
