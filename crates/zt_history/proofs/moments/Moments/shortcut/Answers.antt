-- The element before the moment's number, of the list of the shortcuts.
use Rattle.std.proofs.Common.{◌≡◌, suc, ◌-◌, refl, subst, arith}
use Rattle.std.specs.Prelude.{IfSome}
use Rattle.zt_history.specs.ProofsOnly.Forks.{IsShortcut}
use Rattle.zt_history.proofs.ListedLaws.{shortcut-alone, shortcut-listed}
use Rattle.zt_history.proofs.moments.Moments.shortcut.Goals as goal

pub returns-then-moment-eq0 : goal.returns-then-moment-eq0
returns-then-moment-eq0 c = shortcut-alone c.args.self.now.made _ c.args.moment refl refl

pub returns-in-Some : goal.returns-in-Some
returns-in-Some c =
    let place : c.args.moment ≡ suc (c.moment.inside.0 - 1) = omega (arith, c.moment.view_is, c.if-moment-eq0.false) in
    subst (λ r. IfSome r (λ s. IsShortcut c.args.self.now.made s.now c.args.moment)) c.in-Some.is
    (shortcut-listed c.self.inside.nodes.list c.self.inside.records.items c.self.inside.shortcuts.items c.deref.result.now c.args.self.now (c.moment.inside.0 - 1) c.args.moment c.get.result c.get.ensures.lookup c.deref.ensures.value c.self.invariant.ways c.self.view_is place)

pub returns-in-None : goal.returns-in-None
returns-in-None c = shortcut-alone c.args.self.now.made _ c.args.moment refl refl
