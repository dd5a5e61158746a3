use Rattle.std.proofs.Common.{ap, ◌∙◌, Bool, ℕ}
use Rattle.std.specs.Prelude.{◌==◌}
use Rattle.zt_rows.specs.Settle.{bit_if, is_child_job_of}
use Rattle.zt_signals.proofs.DerivedLaws.{count-none}
use Rattle.zt_signals.proofs.derived_signals.no_jobs.Goals as goal

pub returns : goal.returns
returns c =
    c.signal_if.ensures
    ∙ ap (λ (b : Bool). bit_if b 0x10) (ap (λ (n : ℕ). n == 0) (rw c.store.ensures at c.child_jobs-children.ensures) ∙ count-none (is_child_job_of c.args.job) c.args.step.now.current)
