-- The first byte is a line feed.
use Rattle.zt_console.proofs.TypedLaws.{empty_line}
use Rattle.zt_console.proofs.typed_lines.put_empty_line.Goals as goal

pub returns-clause-line : goal.returns-clause-line
returns-clause-line c = empty_line c.args.buf.now c.requires
