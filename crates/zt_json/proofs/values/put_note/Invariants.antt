use Rattle.std.proofs.Common.{◌≡◌, length}
use Rattle.zt_json.specs.Parts.{parts_of}
use Rattle.zt_json.specs.Values.{put_lines, behind}
use Rattle.json.specs.Token as token
use Rattle.zt_json.proofs.values.put_note.Given as goal

-- what is written and what is left are the whole
abbrev pub invariant-loop-line : goal.invariant-loop-line
invariant-loop-line l = record {
  rest : put_lines l.left l.writer.tokens ≡ put_lines (parts_of 10 l.fn.note) (behind token.begin_array l.fn.writer.tokens);
  before : l.writer.before ≡ l.fn.writer.before;
}

abbrev pub decreases-loop-line : goal.decreases-loop-line
decreases-loop-line l = length l.left
