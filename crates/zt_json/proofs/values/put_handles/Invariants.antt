use Rattle.std.proofs.Common.{◌≡◌, length}
use Rattle.zt_json.specs.Values.{put_numbers, elements_of, behind}
use Rattle.json.specs.Token as token
use Rattle.zt_json.proofs.values.put_handles.Given as goal

abbrev pub decreases-loop-handle : goal.decreases-loop-handle
decreases-loop-handle l = length l.left

-- what is written and what is left are the whole
abbrev pub invariant-loop-handle : goal.invariant-loop-handle
invariant-loop-handle l = record {
  rest : put_numbers l.left l.writer.tokens ≡ put_numbers (elements_of l.fn.list) (behind token.begin_array l.fn.writer.tokens);
  before : l.writer.before ≡ l.fn.writer.before;
}
