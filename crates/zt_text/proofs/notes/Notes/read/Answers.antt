use Rattle.std.proofs.Common.{ap, ◌∙◌}
use Rattle.zt_text.proofs.NoteLemmas.{none_waits}
use Rattle.zt_text.proofs.NotedTrees.{read_kept}
use Rattle.zt_text.proofs.notes.Notes.read.Goals as goal

pub invariant_of-result : goal.invariant_of-result
invariant_of-result c = record {
  ascend = c.reader-3.invariant;
  whole = none_waits c.reader-3.inside.notes.items c.reader-3.inside.ends c.reader-3.invariant
      (ap (λ n. n.waiting) (c.reader-3.view_is ∙ c.trim.ensures ∙ c.in_ok-leave_waiting.ensures));
  tells = rw (← c.as_slice.ensures.value) c.in_ok-table.ensures;
  lines = read_kept c.args.text.now c.behind_first.result.now c.reader-3.inside.notes.items c.reader-3.inside.ends c.reader-3.inside.rest.items c.reader-3.inside.names.items
      c.new-reader.result c.take_lines.new.self c.leave_waiting.new.self (c.reader-3.view_is ∙ c.trim.ensures) c.in_ok-leave_waiting.ensures c.in_ok-take_lines.ensures c.new-reader.ensures c.behind_first.ensures;
}
