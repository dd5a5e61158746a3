-- One place more.
use Rattle.std.specs.BTreeMap.{get}
use Rattle.zt_lineage.specs.Places.{place_cmp}
use Rattle.zt_look.specs.ObjectHandles.{coming_at}
use Rattle.zt_look.proofs.DepartureLaws.{push-more}
use Rattle.zt_look.proofs.object_handles.push_message.Goals as goal

pub loop-index-preserved : goal.loop-index-preserved
loop-index-preserved c =
    push-more (coming_at (get place_cmp c.args.departures.now) c.args.history.now.tree.made c.args.koid c.args.moment) c.args.endpoint c.args.number c.loop-index.index
    c.args.list.now.items c.loop-index.list.items c.push_coming.new.list.items c.loop-index.invariant c.in_ok-push_coming.ensures
