use Rattle.std.proofs.Common.{◌≡◌, ◌++◌, string_bytes, take}
use Rattle.std.specs.List.{flat_map}
use Rattle.zt_text.specs.Calls.{call_line}
use Rattle.zt_text.proofs.printed_calls.put_lines.Given as goal

abbrev pub invariant-loop-process : goal.invariant-loop-process
invariant-loop-process l = string_bytes l.text ≡ string_bytes l.fn.text ++ flat_map call_line (take l.process-index l.calls)
