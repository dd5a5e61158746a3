use Rattle.zt_calls.proofs.CallLaws.{duplicate-fits}
use Rattle.zt_calls.proofs.handle_calls.handle_duplicate.Goals as goal

pub duplicate-requires : goal.duplicate-requires
duplicate-requires c = duplicate-fits c.args.step.now.current c.args.process c.requires.room c.requires.running
