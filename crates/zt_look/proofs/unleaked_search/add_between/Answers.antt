-- All numbers of messages there were gone over.
use Rattle.zt_look.proofs.SearchLaws.{all-between}
use Rattle.zt_look.proofs.unleaked_search.add_between.Goals as goal

pub returns : goal.returns
returns c =
    all-between c.args.store.now.state c.args.kept.now c.args.search.now c.loop-number.search c.args.endpoint c.args.first c.args.next c.loop-number.number c.requires
    c.loop-number-test.false c.loop-number.invariant
