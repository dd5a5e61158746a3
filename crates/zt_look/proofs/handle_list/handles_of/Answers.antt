-- The value is followed by the least above it.
use Rattle.std.proofs.Common.{subst}
use Rattle.zt_look.specs.ProofsOnly.HandlesSoFar.{AreHandlesBefore}
use Rattle.zt_look.proofs.HandleLaws.{handles-more}
use Rattle.zt_look.proofs.handle_list.handles_of.Goals as goal

pub handles-preserved : goal.handles-preserved
handles-preserved c =
    handles-more c.args.store.now.state c.args.process c.in-Some.value c.handle_of-next-in-Some.result c.handles.list.items c.push_handle.new.list.items c.requires
    (subst (λ o. AreHandlesBefore c.args.store.now.state c.args.process o c.handles.list.items) c.in-Some.is c.handles.invariant)
    c.in_ok-push_handle.ensures c.handle_of-next-in-Some.ensures
