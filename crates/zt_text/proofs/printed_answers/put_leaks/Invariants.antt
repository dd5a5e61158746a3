use Rattle.std.proofs.Common.{◌≡◌, ◌++◌, string_bytes, take}
use Rattle.std.specs.List.{flat_map}
use Rattle.zt_text.specs.Answers.{leak_line}
use Rattle.zt_text.proofs.printed_answers.put_leaks.Given as goal

abbrev pub invariant-loop-koid : goal.invariant-loop-koid
invariant-loop-koid l = string_bytes l.text ≡ string_bytes l.fn.text ++ flat_map leak_line (take l.koid-index l.leaked)
