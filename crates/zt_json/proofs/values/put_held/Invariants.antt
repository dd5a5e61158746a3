use Rattle.std.proofs.Common.{◌≡◌, length}
use Rattle.zt_json.specs.Values.{put_held, elements_of, behind}
use Rattle.json.specs.Token as token
use Rattle.zt_json.proofs.values.put_held.Given as goal

-- what is written and what is left are the whole
abbrev pub invariant-loop-held : goal.invariant-loop-held
invariant-loop-held l = record {
  rest : put_held l.fn.notes l.left l.others l.writer.tokens ≡ put_held l.fn.notes (elements_of l.fn.list) (elements_of l.fn.named) (behind token.begin_array l.fn.writer.tokens);
  before : l.writer.before ≡ l.fn.writer.before;
}

abbrev pub decreases-loop-held : goal.decreases-loop-held
decreases-loop-held l = length l.left
