-- The bytes are cut behind a line feed.
use Rattle.std.proofs.Common.{◌-◌, arith}
use Rattle.zt_console.proofs.ReadLaws.{cut_whole}
use Rattle.zt_console.proofs.read_text.whole_lines.Goals as goal

pub returns-then-bytes-place-eq10 : goal.returns-then-bytes-place-eq10
returns-then-bytes-place-eq10 c =
    cut_whole c.args.bytes.now c.split_at.result.0.now c.split_at.result.1.now (c.places.place - 1) (omega arith) c.if-bytes-place-eq10.true c.split_at.ensures.front c.split_at.ensures.back
