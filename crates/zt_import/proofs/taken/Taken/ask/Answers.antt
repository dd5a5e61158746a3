-- One call more was asked.
use Rattle.std.proofs.Common.{Some, None}
use Rattle.zt_import.proofs.TrailLaws.{taken-pushed, one-more-pushed, made-pushed}
use Rattle.zt_import.proofs.taken.Taken.ask.Goals as goal

pub invariant_of-self-in-Some : goal.invariant_of-self-in-Some
invariant_of-self-in-Some c =
    taken-pushed c.self.inside.history.tree c.called.new.history.tree c.self.inside.trail.items c.reserve.new.self.items c.push_kept.new.trail.items
    c.args.origin c.args.process c.args.call.now (Some c.in-Some.moment) c.in_ok-moment.field-0 c.self.invariant c.in_ok-moment.ensures.ok c.in-Some.is c.reserve.ensures.items
    c.push_kept.ensures

pub invariant_of-self-in-None : goal.invariant_of-self-in-None
invariant_of-self-in-None c =
    taken-pushed c.self.inside.history.tree c.called.new.history.tree c.self.inside.trail.items c.reserve.new.self.items c.push_kept-in-None.new.trail.items
    c.args.origin c.args.process c.args.call.now None c.in_ok-moment.field-0 c.self.invariant c.in_ok-moment.ensures.ok c.in-None.is c.reserve.ensures.items
    c.push_kept-in-None.ensures

pub returns-in-Some-clause-one : goal.returns-in-Some-clause-one
returns-in-Some-clause-one c =
    one-more-pushed c.self.inside.history.tree c.called.new.history.tree c.self.inside.trail.items c.reserve.new.self.items c.push_kept.new.trail.items
    c.args.origin c.args.process c.args.call.now (Some c.in-Some.moment) c.in_ok-moment.field-0 c.args.self.now c.self.view_is c.self.invariant c.in_ok-moment.ensures.ok c.in-Some.is
    c.reserve.ensures.items c.push_kept.ensures

pub returns-in-None-clause-one : goal.returns-in-None-clause-one
returns-in-None-clause-one c =
    one-more-pushed c.self.inside.history.tree c.called.new.history.tree c.self.inside.trail.items c.reserve.new.self.items c.push_kept-in-None.new.trail.items
    c.args.origin c.args.process c.args.call.now None c.in_ok-moment.field-0 c.args.self.now c.self.view_is c.self.invariant c.in_ok-moment.ensures.ok c.in-None.is
    c.reserve.ensures.items c.push_kept-in-None.ensures

pub returns-in-Some-clause-made : goal.returns-in-Some-clause-made
returns-in-Some-clause-made c =
    made-pushed c.self.inside.history.tree c.called.new.history.tree c.args.process c.args.call.now (Some c.in-Some.moment) c.in_ok-moment.field-0
    c.in_ok-moment.ensures.ok c.in-Some.is
