use Rattle.std.proofs.Common.{sym, ◌∙◌}
use Rattle.zt_rows.specs.Reads.{is_job}
use Rattle.zt_bits.specs.declared.statuses.Status.TheVariants as status
use Rattle.zt_calls.proofs.JobCallLaws.{named-object, depth-fits, value-fits}
use Rattle.zt_calls.proofs.job_calls.job_create.Goals as goal

pub depth-requires : goal.depth-requires
depth-requires c =
    depth-fits c.args.step.now.current c.in_ok-held.held.koid c.in_ok-held.parent c.requires.room c.requires.sound
    (named-object c.args.step.now.current status.WrongType c.args.process c.args.job is_job 0x10000 c.in_ok-held.held c.in_ok-held.parent (sym c.handle_to.ensures ∙ c.in_ok-held.was)).1

pub add_job-requires-clause-values : goal.add_job-requires-clause-values
add_job-requires-clause-values c = value-fits c.args.step.now.current c.args.process c.requires.room c.requires.running
