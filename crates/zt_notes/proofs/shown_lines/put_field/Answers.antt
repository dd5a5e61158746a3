use Rattle.std.proofs.Common.{List, ℕ, map, refl, ◌∙◌}
use Rattle.zt_notes.specs.Annotations.{annotated_element, shown_element, shown_field}
use Rattle.zt_notes.proofs.PartLaws.{IsCutAt, shown_on}
use Rattle.zt_notes.proofs.shown_lines.put_field.Goals as goal

pub loop-left-preserved : goal.loop-left-preserved
loop-left-preserved c =
    let cut : IsCutAt 44 c.in-Some.bytes.now c.cut.result.0.now c.cut.result.1 = record { before = c.cut.ensures.before; behind = c.cut.ensures.behind } in
    let all : List (List ℕ) → List ℕ = λ elements. shown_field (map (annotated_element c.args.notes.now c.process-process.result c.field-field.result) elements) in
    shown_on 44 all all (shown_element (annotated_element c.args.notes.now c.process-process.result c.field-field.result c.cut.result.0.now)) c.in-Some.bytes.now c.cut.result.0.now c.cut.result.1
    c.loop-left.lines.items c.put_element.new.lines.items c.put_separator.new.lines.items cut c.in_ok-put_element.ensures c.in_ok-put_separator.ensures refl refl (λ next later. refl)
    ∙ (rw c.in-Some.is at c.loop-left.invariant)
