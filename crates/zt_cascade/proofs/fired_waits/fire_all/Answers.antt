use Rattle.std.proofs.Common.{◌≡◌, refl, sym, ap, ◌∙◌, subst}
use Rattle.std.specs.List.{fold}
use Rattle.std.proofs.lemmas.List.Sorted.{IsNonDecreasingBy-from_sort}
use Rattle.zt_rows.specs.Reads.{waits}
use Rattle.zt_rows.specs.Settle.{fire}
use Rattle.zt_cascade.specs.PacketRoom.{FiresWithin}
use Rattle.zt_cascade.specs.ProofsOnly.RaisedWaits.{HasMet, fire_number}
use Rattle.zt_cascade.proofs.ListLaws.{fold-all}
use Rattle.zt_cascade.proofs.FiredLaws.{fired_by_number, fires-nothing}
use Rattle.zt_cascade.proofs.FiringLaws.{room-numbers}
use Rattle.zt_cascade.proofs.fired_waits.fire_all.Goals as goal

pub fire_number-requires : goal.fire_number-requires
fire_number-requires c =
    let S = c.args.step.now.current in
    let B = c.args.step.now.beginning in
    let met : HasMet B S c.in_ok-numbers.numbers.items = subst (λ t. HasMet t.beginning t.current c.in_ok-numbers.numbers.items) c.take_numbers-list.ensures.same c.in_ok-numbers.ensures in
    let all : fold (fire_number B) S c.deref-number-items.result.now ≡ fold (fire B) S (waits S) =
    ap (fold (fire_number B) S) c.deref-number-items.ensures.value
    ∙ fired_by_number B S c.in_ok-numbers.numbers.items c.sort_unstable.new.self.items met c.sort_unstable.ensures.permutation
    (IsNonDecreasingBy-from_sort (λ x. x) c.sort_unstable.new.self.items c.sort_unstable.ensures.sorted) in
    room-numbers B c.loop-number.step.beginning S c.loop-number.step.current c.deref-number-items.result.now c.loop-number.number-index _ _ c.loop-number.invariant.ahead.beginning
    (subst (FiresWithin B S) (sym all) c.requires.room) c.loop-number-test.true refl c.loop-number.invariant.current

pub returns-clause-ok : goal.returns-clause-ok
returns-clause-ok c =
    let S = c.args.step.now.current in
    let B = c.args.step.now.beginning in
    let met : HasMet B S c.in_ok-numbers.numbers.items = subst (λ t. HasMet t.beginning t.current c.in_ok-numbers.numbers.items) c.take_numbers-list.ensures.same c.in_ok-numbers.ensures in
    ap (λ t. t.current) c.keep_numbers.ensures
    ∙ c.loop-number.invariant.current
    ∙ fold-all (fire_number B) S c.deref-number-items.result.now c.loop-number.number-index c.loop-number-test.false
    ∙ ap (fold (fire_number B) S) c.deref-number-items.ensures.value
    ∙ fired_by_number B S c.in_ok-numbers.numbers.items c.sort_unstable.new.self.items met c.sort_unstable.ensures.permutation
    (IsNonDecreasingBy-from_sort (λ x. x) c.sort_unstable.new.self.items c.sort_unstable.ensures.sorted)

pub returns-then-not-ever_had_waits-clause-ok : goal.returns-then-not-ever_had_waits-clause-ok
returns-then-not-ever_had_waits-clause-ok c = sym (fires-nothing c.args.step.now.beginning c.args.step.now.current (rw c.store.ensures at (c.ever_had_waits.ensures.none c.if-not-ever_had_waits.true)))
