-- So far there are two spaces for each copy that was gone over.
use Rattle.std.proofs.Common.{◌≡◌, ◌++◌}
use Rattle.std.specs.Prelude.{string_bytes}
use Rattle.zt_look.specs.LineageLines.{indent}
use Rattle.zt_look.proofs.lines.lives.put_indent.Given as goal

abbrev pub invariant-loop : goal.invariant-loop
invariant-loop l = string_bytes l.text ≡ string_bytes l.fn.text ++ indent l.counter
