use Rattle.std.proofs.Common.{◌≡◌, ◌<◌, ℕ, Bool, Some, refl, sym, ◌∙◌, subst, length, length-set}
use Rattle.zt_index.specs.Chains.{IsNext}
use Rattle.zt_index.specs.Criteria.{is_on, waits_where}
use Rattle.zt_index.proofs.ChainLaws.{in-below}
use Rattle.zt_index.proofs.IndexLaws.{moved-start, moved-end, moved-set, left-shorter, none-next}
use Rattle.zt_index.proofs.index.move_all.Goals as goal

pub waits-init : goal.waits-init
waits-init c =
    let q : ℕ → Bool = waits_where c.args.cells.now.state (is_on c.args.process c.args.handle) in
    record { moved = moved-start q c.args.bucket c.args.objects.now; length = refl }

pub waits-smaller : goal.waits-smaller
waits-smaller c =
    let q : ℕ → Bool = waits_where c.args.cells.now.state (is_on c.args.process c.args.handle) in
    let next : IsNext q c.waits.low (Some c.in-Some.number) = subst (IsNext q c.waits.low) c.in-Some.is c.next_on.ensures in
    left-shorter (length c.args.handles.now) c.waits.low c.in-Some.number next.0.0 (in-below c.args.handles.now _ c.in-Some.number (c.requires.all c.in-Some.number next.0.1))

pub waits-preserved : goal.waits-preserved
waits-preserved c =
    let q : ℕ → Bool = waits_where c.args.cells.now.state (is_on c.args.process c.args.handle) in
    let next : IsNext q c.waits.low (Some c.in-Some.number) = subst (IsNext q c.waits.low) c.in-Some.is c.next_on.ensures in
    let there : c.in-Some.number < length c.waits.objects = subst (λ n. c.in-Some.number < n) (sym c.waits.invariant.length) (c.requires.room c.in-Some.number next.0.1) in
    record {
      moved = moved-set q c.args.bucket c.args.objects.now c.waits.objects c.set.new.self c.waits.low c.in-Some.number c.set.ensures there next c.waits.invariant.moved;
      length = subst (λ all. length all ≡ length c.args.objects.now) (sym c.set.ensures) (length-set c.waits.objects c.in-Some.number c.args.bucket ∙ c.waits.invariant.length);
    }

pub returns : goal.returns
returns c =
    let q : ℕ → Bool = waits_where c.args.cells.now.state (is_on c.args.process c.args.handle) in
    record {
      moved = moved-end q c.args.bucket c.args.objects.now c.waits.objects c.waits.low (none-next q c.waits.low c.next_on.result (λ n e. c.in_default.not-Some n e) c.next_on.ensures) c.waits.invariant.moved;
      length = c.waits.invariant.length;
    }
