-- The caller's row is the same once the process is made, so its next value fits and the handle is the caller's.
use Rattle.zt_calls.proofs.JobCallLaws.{process-fits, process-does}
use Rattle.zt_calls.proofs.job_calls.add_process.Goals as goal

pub install-requires : goal.install-requires
install-requires c =
    process-fits c.args.step.now c.make_process.new.step c.args.process c.args.job c.args.given c.requires.sound c.requires.running c.in_ok-koid.ensures.made
    c.requires.values

pub returns-clause-does : goal.returns-clause-does
returns-clause-does c =
    process-does c.args.step.now c.make_process.new.step c.args.process c.args.job c.args.given c.requires.sound c.requires.running c.in_ok-koid.ensures.made
    c.install.new.step c.in_ok-handle.handle c.in_ok-koid.koid c.whole.result c.in_ok-koid.ensures.koid c.whole.ensures
    c.in_ok-handle.ensures.installed c.in_ok-handle.ensures.value
