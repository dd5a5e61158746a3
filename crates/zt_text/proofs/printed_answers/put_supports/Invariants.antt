use Rattle.std.proofs.Common.{◌≡◌, ◌++◌, string_bytes, take}
use Rattle.std.specs.List.{flat_map}
use Rattle.zt_text.specs.Answers.{support_line}
use Rattle.zt_text.proofs.printed_answers.put_supports.Given as goal

abbrev pub invariant-loop-support : goal.invariant-loop-support
invariant-loop-support l = string_bytes l.text ≡ string_bytes l.fn.text ++ flat_map support_line (take l.support-index l.kept)
