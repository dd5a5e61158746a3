-- What is not there was taken out, by the record of the moment.
use Rattle.zt_look.proofs.UnleakedLaws.{start-of}
use Rattle.zt_look.proofs.unleaked_set.begun.Goals as goal

pub returns : goal.returns
returns c =
    start-of c.args.history.now.tree c.args.moment c.args.history.now.position c.args.kept.now c.store-store.result.now.state c.keys-all.result.now c.args.set.now c.take_gone.new.set
    (record { set = c.replace.result; waiting = c.new-2.result; found = c.in_ok-found.found })
    c.limits.ensures.tree c.requires.made c.requires.there c.requires.parent c.requires.kept c.requires.unleaked c.store-store.ensures.state c.keys-all.ensures c.take_gone.ensures
    c.replace.ensures.value c.in_ok-found.ensures c.new-2.ensures.items
