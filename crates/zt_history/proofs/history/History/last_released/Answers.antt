-- What is noted of the object tells when a name of it went.
use Rattle.std.proofs.Common.{◌≤◌, length, sym, ◌∙◌, ap, subst, arith}
use Rattle.zt_history.specs.declared.object_notes.Sought.TheVariants as sought
use Rattle.zt_history.specs.Released.{last_released}
use Rattle.zt_history.specs.Timeline.{Timeline}
use Rattle.zt_history.specs.ProofsOnly.ObjectNotes.{AreRising}
use Rattle.zt_history.proofs.NotedLaws.{last-released, tells-happening, to-rising}
use Rattle.zt_history.proofs.history.History.last_released.Goals as goal

pub find-requires : goal.find-requires
find-requires c = subst AreRising (sym c.self.invariant.noted.notes) (to-rising c.self.inside.moments.made (length c.self.inside.moments.made))

pub returns : goal.returns
returns c =
    let within : c.args.at ≤ length c.self.inside.moments.made = omega (arith, c.requires, ap (λ (h : Timeline). length h.tree.made) c.self.view_is) in
    tells-happening c.self.inside.moments.made c.self.invariant.kept.moments_stand sought.Released c.args.koid c.args.at within c.self.inside.notes.notes c.self.invariant.noted.notes
    c.find.result c.find.ensures
    ∙ last-released c.args.koid c.self.inside.moments.made c.args.at
    ∙ ap (λ (h : Timeline). last_released c.args.koid h.tree.made c.args.at) c.self.view_is
