-- What is put, with what the objects that are left show, is what all show.
use Rattle.std.proofs.Common.{◌≡◌, ◌++◌, length}
use Rattle.std.specs.List.{flat_map}
use Rattle.zt_look.specs.ProofsOnly.EventsSoFar.{events_shown, change_over}
use Rattle.zt_look.proofs.event_list.events_among.Given as goal

abbrev pub invariant-koids : goal.invariant-koids
invariant-koids l = l.here.items ++ flat_map (λ x. events_shown l.asked (change_over l.kept l.store.state l.moment l.leaked x)) l.left.keys
    ≡ flat_map (λ x. events_shown l.asked (change_over l.kept l.store.state l.moment l.leaked x)) l.fn.koids.keys

abbrev pub decreases-koids : goal.decreases-koids
decreases-koids l = length l.left.keys
