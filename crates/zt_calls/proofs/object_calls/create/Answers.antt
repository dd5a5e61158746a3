-- The caller's row is the same once the object is made, so its next value fits and the handle is the caller's.
use Rattle.zt_calls.proofs.CallLaws.{create-fits, create-does}
use Rattle.zt_calls.proofs.object_calls.create.Goals as goal

pub install-requires : goal.install-requires
install-requires c =
    create-fits c.args.step.now c.new_object.new.step c.args.process c.args.kind c.requires.room c.requires.sound c.requires.running c.in_ok-koid.ensures.made

pub returns-clause-does : goal.returns-clause-does
returns-clause-does c =
    create-does c.args.step.now c.new_object.new.step c.install.new.step c.args.process c.in_ok-handle.handle c.in_ok-koid.koid c.args.kind c.whole.result
    c.requires.sound c.requires.running c.in_ok-koid.ensures.koid c.in_ok-koid.ensures.made c.whole.ensures c.in_ok-handle.ensures.installed c.in_ok-handle.ensures.value
