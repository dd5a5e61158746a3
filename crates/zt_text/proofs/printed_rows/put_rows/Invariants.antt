use Rattle.std.proofs.Common.{◌≡◌, ◌++◌, string_bytes, take}
use Rattle.std.specs.List.{flat_map}
use Rattle.zt_text.specs.Answers.{row_line}
use Rattle.zt_text.proofs.printed_rows.put_rows.Given as goal

abbrev pub invariant-loop-key : goal.invariant-loop-key
invariant-loop-key l = string_bytes l.text ≡ string_bytes l.fn.text ++ flat_map row_line (take l.key-index l.rows)
