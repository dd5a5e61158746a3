use Rattle.std.proofs.Common.{◌≡◌, length}
use Rattle.zt_json.specs.Values.{put_strings, names_of, behind}
use Rattle.json.specs.Token as token
use Rattle.zt_json.proofs.values.put_names.Given as goal

abbrev pub decreases-loop-name : goal.decreases-loop-name
decreases-loop-name l = length l.left

-- what is written and what is left are the whole
abbrev pub invariant-loop-name : goal.invariant-loop-name
invariant-loop-name l = record {
  rest : put_strings l.left l.writer.tokens ≡ put_strings (names_of l.fn.names) (behind token.begin_array l.fn.writer.tokens);
  before : l.writer.before ≡ l.fn.writer.before;
}
