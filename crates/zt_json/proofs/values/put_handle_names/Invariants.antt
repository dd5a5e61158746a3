use Rattle.std.proofs.Common.{◌≡◌, length}
use Rattle.zt_json.specs.Values.{put_handle_names, elements_of, behind}
use Rattle.json.specs.Token as token
use Rattle.zt_json.proofs.values.put_handle_names.Given as goal

-- what is written and what is left are the whole
abbrev pub invariant-loop-handle : goal.invariant-loop-handle
invariant-loop-handle l = record {
  rest : put_handle_names l.fn.notes l.fn.process l.left l.writer.tokens
      ≡ put_handle_names l.fn.notes l.fn.process (elements_of l.fn.list) (behind token.begin_array l.fn.writer.tokens);
  before : l.writer.before ≡ l.fn.writer.before;
}

abbrev pub decreases-loop-handle : goal.decreases-loop-handle
decreases-loop-handle l = length l.left
