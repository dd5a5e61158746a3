-- So much is written, and what is left grows shorter.
use Rattle.std.proofs.Common.{◌≡◌, ◌++◌, List, ℕ, length}
use Rattle.std.specs.Io.KnownBytes.{Appends}
use Rattle.zt_console.proofs.line_feed.write_text.Given as goal

abbrev pub invariant-loop-rest : goal.invariant-loop-rest
invariant-loop-rest g l = record {
  so_far : (written : List ℕ) × (l.fn.text ≡ written ++ l.rest) × Appends (g.W.Write.contents l.fn.writer.0) (g.W.Write.contents l.writer.0) written;
  count : l.writer.1 ≡ l.fn.writer.1;
}

abbrev pub decreases-loop-rest : goal.decreases-loop-rest
decreases-loop-rest g l = length l.rest
