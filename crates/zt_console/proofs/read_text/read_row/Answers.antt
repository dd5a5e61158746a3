-- Bytes more are read, or there are none.
use Rattle.std.proofs.Common.{take}
use Rattle.zt_console.proofs.ReadLaws.{read_more, row_ended}
use Rattle.zt_console.proofs.read_text.read_row.Goals as goal

pub chunks-init : goal.chunks-init
chunks-init g c = record {
  room = c.read_first.ensures.room;
  read = c.read_first.ensures.begun c.if-not-read_first.false;
}

pub returns-then-count-eq0 : goal.returns-then-count-eq0
returns-then-count-eq0 g c =
    row_ended _ _ _ c.read_some.new.chunk.items c.chunks.part.items c.chunks.row c.in-Some-read_some.count c.ended.result c.chunks.invariant.read c.in-Some-read_some.ensures.read
    c.if-count-eq0.true c.read_some.ensures.room c.ended.ensures

pub chunks-preserved : goal.chunks-preserved
chunks-preserved g c = record {
  room = c.read_some.ensures.room;
  read = read_more _ _ _ (take c.in-Some-read_some.count c.read_some.new.chunk.items) c.chunks.part.items c.take_read.new.part.items c.chunks.row c.take_read.new.row
      c.chunks.invariant.read c.in-Some-read_some.ensures.read.consumed (c.take_read.ensures c.if-not-take_read.false);
}
