-- What entries name at a moment is there.
use Rattle.zt_look.proofs.HandleLaws.{names-there}
use Rattle.zt_look.proofs.handle_list.handles_at.Goals as goal

pub handles_of-requires : goal.handles_of-requires
handles_of-requires c =
    names-there c.args.history.now.tree c.args.history.now.position c.store-kept.result.now.state c.args.process c.limits.ensures.tree c.limits.ensures.within c.store-kept.ensures.state
