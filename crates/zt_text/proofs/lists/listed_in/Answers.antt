use Rattle.std.proofs.Common.{◌≡◌, None}
use Rattle.zt_text.specs.Numbers.{handle_of}
use Rattle.zt_text.proofs.ListLemmas.{listed_bad, listed_is, listed_all}
use Rattle.zt_text.proofs.lists.listed_in.Goals as goal

pub unreachable-requires : goal.unreachable-requires
unreachable-requires c =
    let reads : None ≡ handle_of c.cut.result.0.now = c.in-None.ensures in
    listed_is c.args.field.now
    (listed_bad c.args.field.now c.loop-left.values.items c.in-Some.elements.now c.cut.result.0.now c.cut.result.1
    (rw c.in-Some.is at c.loop-left.invariant) c.cut.ensures reads)
    c.requires

pub returns : goal.returns
returns c = listed_all c.args.field.now c.loop-left.values.items (rw c.in_default.is at c.loop-left.invariant) c.requires
