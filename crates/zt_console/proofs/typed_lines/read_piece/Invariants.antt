-- What was read stands in the front of the buffer, and has no line feed.
use Rattle.std.proofs.Common.{◌≡◌, ◌≢◌, length, take}
use Rattle.std.specs.Prelude.{All}
use Rattle.std.specs.Io.KnownBytes.{Consumes}
use Rattle.zt_console.proofs.typed_lines.read_piece.Given as goal

abbrev pub invariant-loop-place : goal.invariant-loop-place
invariant-loop-place g l = record {
  same : length l.buf ≡ length l.fn.buf;
  taken : Consumes (g.R.Read.remaining l.fn.inner) (g.R.Read.remaining l.inner) (take l.place l.buf);
  none : All (λ byte. byte ≢ 10) (take l.place l.buf);
}
