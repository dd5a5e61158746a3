use Rattle.std.proofs.Common.{◌≡◌, ◌++◌, string_bytes, take}
use Rattle.std.specs.List.{flat_map}
use Rattle.zt_look.specs.Lines.{line_in}
use Rattle.zt_look.proofs.lines.put_rows.Given as goal

abbrev pub invariant-loop-key : goal.invariant-loop-key
invariant-loop-key l = string_bytes l.text ≡ string_bytes l.fn.text ++ flat_map (line_in l.names l.store.state) (take l.key-index l.rows)
