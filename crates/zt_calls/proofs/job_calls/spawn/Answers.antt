use Rattle.std.proofs.Common.{◌≡◌, true, rules, sym, ap, ◌∙◌}
use Rattle.zt_rows.specs.State.{State}
use Rattle.zt_rows.specs.Reads.{is_live}
use Rattle.zt_calls.specs.ProofsOnly.NewTasks.{process_made}
use Rattle.zt_calls.proofs.JobCallLaws.{gave-koids, gave-values, gave-still_sound, gave-has_live_process, spawned, does-from}
use Rattle.zt_calls.proofs.job_calls.spawn.Goals as goal

pub add_process-requires-clause-koids : goal.add_process-requires-clause-koids
add_process-requires-clause-koids c =
    gave-koids c.args.step.now c.give_up.new.step c.args.process c.args.value c.in_ok-given.given c.in_ok-give_up.ensures.ok c.requires.room

pub add_process-requires-clause-values : goal.add_process-requires-clause-values
add_process-requires-clause-values c =
    gave-values c.args.step.now c.give_up.new.step c.args.process c.args.value c.in_ok-given.given c.in_ok-give_up.ensures.ok c.requires.room c.requires.running

pub add_process-requires-clause-sound : goal.add_process-requires-clause-sound
add_process-requires-clause-sound c =
    gave-still_sound c.args.step.now c.give_up.new.step c.args.process c.args.value c.in_ok-given.given c.in_ok-give_up.ensures.ok c.requires.sound

pub add_process-requires-clause-running : goal.add_process-requires-clause-running
add_process-requires-clause-running c =
    gave-has_live_process c.args.step.now c.give_up.new.step c.args.process c.args.value c.in_ok-given.given c.in_ok-give_up.ensures.ok c.requires.running

pub returns-clause-does : goal.returns-clause-does
returns-clause-does c =
    let S : State = c.args.step.now.current in
    let lives : is_live c.in_ok-held.parent.life ≡ true = search rules in
    does-from c.args.step.now c.give_up.new.step c.add_process.new.step _ _ c.add_process.result c.in_ok-give_up.ensures.ok.0
    (spawned S c.args.process c.args.job c.args.value c.in_ok-held.held c.in_ok-held.parent c.in_ok-given.given
    (sym c.handle_to.ensures ∙ c.in_ok-held.was) (sym c.argument.ensures ∙ c.in_ok-given.was) lives
    ∙ ap (λ T. process_made T c.args.process c.in_ok-held.held.koid c.in_ok-given.given) (sym c.in_ok-give_up.ensures.ok.1))
    c.add_process.ensures.does
