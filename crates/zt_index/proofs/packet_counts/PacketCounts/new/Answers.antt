use Rattle.std.proofs.Common.{ap, length}
use Rattle.zt_index.proofs.PacketCountLaws.{counted-hollow}
use Rattle.zt_index.proofs.packet_counts.PacketCounts.new.Goals as goal

pub returns : goal.returns
returns c = counted-hollow c.new.result.items (ap length c.new.ensures.items)
