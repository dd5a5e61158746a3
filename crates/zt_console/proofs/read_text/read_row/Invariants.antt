-- What was read so far is loaded.
use Rattle.std.proofs.Common.{◌≡◌, length}
use Rattle.zt_console.specs.ProofsOnly.ReadText.{IsReadSoFar}
use Rattle.zt_console.proofs.read_text.read_row.Given as goal

abbrev pub invariant-chunks : goal.invariant-chunks
invariant-chunks g l = record {
  room : length l.chunk.items ≡ 65536;
  read : IsReadSoFar (g.R.Read.remaining l.fn.reader) (g.R.Read.remaining l.reader) l.row l.part.items;
}
