use Rattle.std.proofs.Common.{refl, ap, ◌∙◌, arith}
use Rattle.zt_cells.specs.ProofsOnly.MarkedNumbers.{mark}
use Rattle.zt_cells.proofs.MarkLaws.{above-grown, mark-word}
use Rattle.zt_cells.proofs.cells.mark_levels.MarkLevels.grow.Goals as goal

pub invariant_of-self : goal.invariant_of-self
invariant_of-self c =
    let low = c.self.invariant.0 in
    let high = c.self.invariant.1 in
    (low, above-grown c.self.inside.groups c.self.inside.words c.grow.new.self c.self.inside.words high c.grow.ensures.same (λ k. refl) (omega (arith, high.room)))

pub invariant_of-self-in_err-grow-2 : goal.invariant_of-self-in_err-grow-2
invariant_of-self-in_err-grow-2 c =
    let low = c.self.invariant.0 in
    let high = c.self.invariant.1 in
    (above-grown c.self.inside.words c.self.inside.numbers c.grow-2.new.self c.self.inside.numbers low c.grow-2.ensures.same (λ k. refl) (omega (arith, low.room)), above-grown c.self.inside.groups c.self.inside.words c.grow.new.self c.grow-2.new.self high c.grow.ensures.same c.grow-2.ensures.same (omega (arith, high.room, c.in_ok-grow.ensures.ok)))

pub invariant_of-self-2 : goal.invariant_of-self-2
invariant_of-self-2 c =
    let low = c.self.invariant.0 in
    let high = c.self.invariant.1 in
    (above-grown c.self.inside.words c.self.inside.numbers c.grow-2.new.self c.grow-3.new.self low c.grow-2.ensures.same c.grow-3.ensures.same (omega (arith, low.room, c.in_ok-grow-2.ensures.ok)), above-grown c.self.inside.groups c.self.inside.words c.grow.new.self c.grow-2.new.self high c.grow.ensures.same c.grow-2.ensures.same (omega (arith, high.room, c.in_ok-grow.ensures.ok)))

pub returns-clause-same : goal.returns-clause-same
returns-clause-same c =
    λ n. mark-word c.grow-3.new.self c.self.inside.numbers n (c.grow-3.ensures.same _) ∙ ap (λ t. mark t n) c.self.view_is
