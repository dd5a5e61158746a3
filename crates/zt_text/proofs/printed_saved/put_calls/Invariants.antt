use Rattle.std.proofs.Common.{◌≡◌, ◌++◌, string_bytes, take}
use Rattle.std.specs.List.{flat_map}
use Rattle.zt_text.specs.SavedTexts.{saved_call_line}
use Rattle.zt_text.proofs.printed_saved.put_calls.Given as goal

abbrev pub invariant-loop-made : goal.invariant-loop-made
invariant-loop-made l = string_bytes l.text ≡ string_bytes l.fn.text ++ flat_map saved_call_line (take l.made-index l.moments)
