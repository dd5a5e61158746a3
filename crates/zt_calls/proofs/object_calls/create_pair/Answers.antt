-- The caller's row is the same once the pair is made, so that its next two values fit and the handles are the caller's.
use Rattle.std.proofs.Common.{ℕ, ap}
use Rattle.zt_calls.proofs.CallLaws.{pair-fits, pair-does}
use Rattle.zt_calls.proofs.object_calls.create_pair.Goals as goal

pub install_pair-requires : goal.install_pair-requires
install_pair-requires c =
    pair-fits c.args.step.now c.new_pair.new.step c.args.process c.args.kind c.requires.room c.requires.sound c.requires.endpoint c.requires.running c.in_ok-near.ensures.made

pub returns-clause-does : goal.returns-clause-does
returns-clause-does c =
    pair-does c.args.step.now c.new_pair.new.step c.install_pair.new.step c.args.process c.in_ok-near.near c.in_ok-near.far (c.in_ok-first.first, c.in_ok-first.second) c.args.kind c.whole.result c.whole-2.result
    c.requires.sound c.requires.endpoint c.requires.running (ap (λ (k : ℕ × ℕ). k.0) c.in_ok-near.ensures.koids) (ap (λ (k : ℕ × ℕ). k.1) c.in_ok-near.ensures.koids) c.in_ok-near.ensures.made
    c.whole.ensures c.whole-2.ensures c.in_ok-first.ensures.installed c.in_ok-first.ensures.values
