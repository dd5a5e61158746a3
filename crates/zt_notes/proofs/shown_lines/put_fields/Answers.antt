use Rattle.std.proofs.Common.{◌≡◌, List, ℕ, refl, ◌∙◌}
use Rattle.zt_notes.specs.Annotations.{annotated_field, annotated_fields, shown_field, shown_fields}
use Rattle.zt_notes.specs.Walks.{behind}
use Rattle.zt_notes.proofs.PartLaws.{IsCutAt, shown_on}
use Rattle.zt_notes.proofs.shown_lines.put_fields.Goals as goal

pub loop-left-preserved : goal.loop-left-preserved
loop-left-preserved c =
    let cut : IsCutAt 32 c.in-Some.bytes.now c.cut.result.0.now c.cut.result.1 = record { before = c.cut.ensures.before; behind = c.cut.ensures.behind } in
    let all : List (List ℕ) → List ℕ = λ words. shown_fields (annotated_fields c.args.notes.now c.loop-left.walk words) in
    let others : List (List ℕ) → List ℕ = λ words. shown_fields (annotated_fields c.args.notes.now (behind c.loop-left.walk c.cut.result.0.now) words) in
    let after : c.behind-walk.result ≡ behind c.loop-left.walk c.cut.result.0.now = c.behind-walk.ensures in
    rw after
    (shown_on 32 all others (shown_field (annotated_field c.args.notes.now c.loop-left.walk c.cut.result.0.now)) c.in-Some.bytes.now c.cut.result.0.now c.cut.result.1
    c.loop-left.lines.items c.put_field.new.lines.items c.put_separator.new.lines.items cut c.in_ok-put_field.ensures c.in_ok-put_separator.ensures refl refl (λ next later. refl)
    ∙ (rw c.in-Some.is at c.loop-left.invariant))
