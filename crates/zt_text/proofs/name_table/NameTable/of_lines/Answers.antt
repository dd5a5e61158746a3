use Rattle.std.proofs.Common.{◌≡◌, length, arith}
use Rattle.std.proofs.lemmas.Bool.Decides.{nat_tests}
use Rattle.zt_text.specs.declared.name_lines.Subject.TheVariants.{Object, Handle}
use Rattle.zt_text.proofs.NoteLemmas.{name_more, names_all}
use Rattle.zt_text.proofs.name_table.NameTable.of_lines.Goals as goal

pub lines-preserved : goal.lines-preserved
lines-preserved c = record {
  objects = λ koid. name_more (Object koid) _ _ _ _ _ _ (c.lines.invariant.objects koid) c.next_line.ensures.lines (c.in_ok-add_line.ensures.objects koid);
  handles = λ process handle. name_more (Handle process handle) _ _ _ _ _ _ (c.lines.invariant.handles process handle) c.next_line.ensures.lines (c.in_ok-add_line.ensures.handles process handle);
}

pub returns : goal.returns
returns c =
    let none : length c.lines.left.now ≡ 0 = grind (arith, nat_tests, c.is_empty.ensures, c.lines-test.false) in (
      λ koid. names_all (Object koid) _ _ c.lines.left.now (c.lines.invariant.objects koid) none,
      λ process handle. names_all (Handle process handle) _ _ c.lines.left.now (c.lines.invariant.handles process handle) none,
    )
