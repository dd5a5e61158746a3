use Rattle.std.proofs.Common.{◌≡◌, sym, ◌∙◌}
use Rattle.zt_text.specs.Fields.{parts_of}
use Rattle.zt_text.specs.ProofsOnly.Cut.{parts_left}
use Rattle.zt_notes.specs.Walks.{behind}
use Rattle.zt_notes.proofs.PartLaws.{IsCutAt, parts_are}
use Rattle.zt_notes.proofs.WalkLaws.{at_moment, passes_on}
use Rattle.zt_notes.proofs.walks.moment_shown.Goals as goal

pub returns-in-Moment : goal.returns-in-Moment
returns-in-Moment c =
    let cut : IsCutAt 32 c.in-Some.bytes.now c.cut.result.0.now c.cut.result.1 = record { before = c.cut.ensures.before; behind = c.cut.ensures.behind } in
    let parts = parts_are 32 c.in-Some.bytes.now c.cut.result.0.now c.cut.result.1 cut in
    c.moment.ensures
    ∙ sym (at_moment c.loop-left.walk c.field.result (parts_of 32 c.in-Some.bytes.now) (parts_left 32 c.cut.result.1) c.cut.result.0.now parts c.field.ensures c.in-Moment.is)
    ∙ (rw c.in-Some.is at c.loop-left.invariant)

pub loop-left-preserved : goal.loop-left-preserved
loop-left-preserved c =
    let cut : IsCutAt 32 c.in-Some.bytes.now c.cut.result.0.now c.cut.result.1 = record { before = c.cut.ensures.before; behind = c.cut.ensures.behind } in
    let parts = parts_are 32 c.in-Some.bytes.now c.cut.result.0.now c.cut.result.1 cut in
    let after : c.behind-walk.result ≡ behind c.loop-left.walk c.cut.result.0.now = c.behind-walk.ensures in
    rw after
    (sym (passes_on c.loop-left.walk c.field.result (parts_of 32 c.in-Some.bytes.now) (parts_left 32 c.cut.result.1) c.cut.result.0.now parts c.field.ensures c.in_default-field.not-Moment)
    ∙ (rw c.in-Some.is at c.loop-left.invariant))
