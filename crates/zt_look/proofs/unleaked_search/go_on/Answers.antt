-- One that waited after another is looked into; the set has no more koids than were given out.
use Rattle.std.proofs.Common.{refl}
use Rattle.zt_look.proofs.SearchLaws.{searched-on, search-less}
use Rattle.zt_look.proofs.unleaked_search.go_on.Goals as goal

pub loop-koid-preserved : goal.loop-koid-preserved
loop-koid-preserved c =
    searched-on c.args.store.now.state c.args.kept.now c.args.search.now c.loop-koid.search (record c.loop-koid.search { waiting = c.pop.new.self }) c.look_into.new.search c.in-Some.koid refl refl c.in-Some.ensures.items c.loop-koid.invariant
    c.in_ok-look_into.ensures

pub loop-koid-smaller : goal.loop-koid-smaller
loop-koid-smaller c =
    search-less c.args.store.now.state c.args.kept.now c.args.search.now c.loop-koid.search (record c.loop-koid.search { waiting = c.pop.new.self }) c.look_into.new.search c.in-Some.koid refl c.in-Some.ensures.items
    c.in_ok-look_into.ensures c.requires.consistent c.requires.there
    (searched-on c.args.store.now.state c.args.kept.now c.args.search.now c.loop-koid.search (record c.loop-koid.search { waiting = c.pop.new.self }) c.look_into.new.search c.in-Some.koid refl refl c.in-Some.ensures.items c.loop-koid.invariant c.in_ok-look_into.ensures)
    c.in_order.ensures
