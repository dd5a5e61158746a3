use Rattle.std.proofs.Common.{List, ℕ, map, refl, ◌∙◌}
use Rattle.zt_notes.specs.Annotations.{annotated_line, shown_line, shown_text}
use Rattle.zt_notes.proofs.PartLaws.{IsCutAt, shown_on}
use Rattle.zt_notes.proofs.shown_lines.shown.Goals as goal

pub loop-left-preserved : goal.loop-left-preserved
loop-left-preserved c =
    let cut : IsCutAt 10 c.in-Some.bytes.now c.cut.result.0.now c.cut.result.1 = record { before = c.cut.ensures.before; behind = c.cut.ensures.behind } in
    let all : List (List ℕ) → List ℕ = λ lines. shown_text (map (annotated_line c.args.notes.now c.args.shape) lines) in
    shown_on 10 all all (shown_line (annotated_line c.args.notes.now c.args.shape c.cut.result.0.now)) c.in-Some.bytes.now c.cut.result.0.now c.cut.result.1
    c.loop-left.lines.items c.put_line.new.lines.items c.put_separator.new.lines.items cut c.in_ok-put_line.ensures c.in_ok-put_separator.ensures refl refl (λ next later. refl)
    ∙ (rw c.in-Some.is at c.loop-left.invariant)
