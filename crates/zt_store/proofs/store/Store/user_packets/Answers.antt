use Rattle.std.proofs.Common.{ap, ◌∙◌}
use Rattle.zt_rows.specs.PortCalls.{pending}
use Rattle.zt_store.specs.StoreView.{Stored}
use Rattle.zt_store.proofs.store.Store.user_packets.Goals as goal

pub returns : goal.returns
returns c =
    c.at.ensures ∙ c.self.invariant.packets_counted.counted c.args.port ∙ ap (λ (s : Stored). pending s.state c.args.port) c.self.view_is
