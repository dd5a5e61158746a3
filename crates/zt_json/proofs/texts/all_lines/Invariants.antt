use Rattle.std.proofs.Common.{◌≡◌, ◌++◌, length}
use Rattle.zt_json.specs.Texts.{json_of, json_text}
use Rattle.zt_json.proofs.texts.all_lines.Given as goal

-- what is written and what is left are the whole
abbrev pub invariant-loop-line : goal.invariant-loop-line
invariant-loop-line l = l.out.items ++ json_of l.fn.notes l.fn.shape l.lines l.others ≡ json_text l.fn.notes l.fn.shape l.fn.text l.fn.named

abbrev pub decreases-loop-line : goal.decreases-loop-line
decreases-loop-line l = length l.lines
