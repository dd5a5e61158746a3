use Rattle.std.proofs.Common.{length, ap, sym, ◌∙◌, arith}
use Rattle.zt_store.proofs.BeforeImageLaws.{length-firsts}
use Rattle.zt_store.proofs.before_images.BeforeImages.widen.Goals as goal

pub returns-clause-ok : goal.returns-clause-ok
returns-clause-ok c =
    let even = ap length c.reserve-2.ensures.items ∙ c.self.invariant ∙ sym (ap length c.reserve.ensures.items) in
    omega (arith, length-firsts _ _ even, even, c.in_ok-reserve.ensures.ok, c.in_ok-reserve-2.ensures.ok, c.reserve.new.self.ok, c.reserve-2.new.self.ok, ap length c.reserve.ensures.items, ap length c.reserve-2.ensures.items)
