-- One call more was asked, and its reply is kept.
use Rattle.std.proofs.Common.{refl, subst}
use Rattle.zt_import.specs.declared.taken.Tried.{Tried}
use Rattle.zt_import.specs.ProofsOnly.TakenCalls.{IsTriedAt}
use Rattle.zt_import.proofs.TrailLaws.{taken-pushed}
use Rattle.zt_import.proofs.taken.Taken.ask_agreeing.Goals as goal

pub invariant_of-self-in-Made : goal.invariant_of-self-in-Made
invariant_of-self-in-Made c =
    let P : Tried → Type 0 = λ became. IsTriedAt c.self.inside.history.tree c.called_agreeing.new.history.tree c.args.process c.args.call.now became in
    taken-pushed c.self.inside.history.tree c.called_agreeing.new.history.tree c.self.inside.trail.items c.reserve.new.self.items c.push_kept.new.trail.items
    c.args.origin c.args.process c.args.call.now c.in-Made.moment c.in-Made.moment c.self.invariant (subst P c.in-Made.is c.in_ok-moment.ensures.ok) refl
    c.reserve.ensures.items c.push_kept.ensures
