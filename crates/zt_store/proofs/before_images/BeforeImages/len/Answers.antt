use Rattle.std.proofs.Common.{length, ap, arith}
use Rattle.zt_store.proofs.BeforeImageLaws.{length-firsts}
use Rattle.zt_store.proofs.before_images.BeforeImages.len.Goals as goal

pub returns-clause-count : goal.returns-clause-count
returns-clause-count c = omega (arith, c.len.ensures, c.self.inside.keys.ok, length-firsts _ _ c.self.invariant, ap (λ f. length f.rows) c.self.view_is)
