-- What is counted is told in the order of its keys.
use Rattle.zt_look.proofs.CountLaws.{counts-told}
use Rattle.zt_look.proofs.call_counts.call_counts.Goals as goal

pub returns : goal.returns
returns c =
    counts-told c.args.history.now.tree.made c.args.way.now c.in_ok-counts.counts c.in_ok-list.list.items c.in_ok-counts.ensures.counted c.in_ok-counts.ensures.ordered
    c.in_ok-list.ensures
