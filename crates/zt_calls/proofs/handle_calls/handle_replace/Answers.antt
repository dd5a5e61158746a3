-- The caller's row is the same once the old handle is out, so the new one is by its next value.
use Rattle.std.proofs.Common.{sym, ap, ◌∙◌}
use Rattle.std.specs.Option.{option_map}
use Rattle.zt_bits.specs.declared.right_bits.Rights.{Rights}
use Rattle.zt_calls.proofs.CallLaws.{replace-fits, replace-does}
use Rattle.zt_calls.proofs.handle_calls.handle_replace.Goals as goal

pub duplicate-requires : goal.duplicate-requires
duplicate-requires c =
    replace-fits c.args.step.now c.take_out.new.step c.args.process c.args.handle c.requires.room c.requires.running c.in_ok-take_out.ensures.ok

pub returns-clause-does : goal.returns-clause-does
returns-clause-does c =
    replace-does c.args.step.now c.take_out.new.step c.duplicate.new.step c.args.process c.args.handle c.args.rights c.in_ok-value.value c.in_ok-held.held c.in_ok-rights.rights
    (sym (rw c.store.ensures at c.entry.ensures) ∙ c.in_ok-held.ensures.ok_part)
    (sym c.asked-granted.ensures ∙ ap (option_map (λ (r : Rights). r.0)) c.in_ok-rights.ensures.ok_part)
    c.in_ok-take_out.ensures.ok c.in_ok-value.ensures.installed c.in_ok-value.ensures.value
