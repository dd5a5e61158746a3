use Rattle.std.proofs.Common.{◌≡◌, length, ap, sym, ◌∙◌, arith}
use Rattle.zt_shared.specs.Accounts.{known_of, somes}
use Rattle.zt_shared.proofs.AccountLaws.{noted-cells, sides-same}
use Rattle.zt_shared.proofs.account.LockSide.agree.Goals as goal

pub compare_all-requires : goal.compare_all-requires
compare_all-requires g c =
    let many : length c.self.inside.notes.items ≡ length c.side.inside.notes.items = omega (arith, c.self.invariant.2, c.side.invariant.3, c.audit.ensures.whole (c.side.invariant.1 ∙ sym c.side.invariant.2)) in
    record {
      many = many;
      cells = noted-cells g.N.Naming.cells c.self.inside.notes.items c.side.inside.notes.items (somes (known_of c.self.inside.notes.items)) c.side.inside.rows.items c.self.invariant.1 c.side.invariant.0 many;
    }

pub invariant_of-self : goal.invariant_of-self
invariant_of-self g c = rw c.compare_all.ensures.ours (c.self.invariant.0, c.self.invariant.1, c.audit.ensures.total ∙ c.self.invariant.2)

pub invariant_of-side : goal.invariant_of-side
invariant_of-side g c = rw c.compare_all.ensures.theirs (c.side.invariant.0, c.audit.ensures.parts ∙ c.side.invariant.1, c.side.invariant.2, c.audit.ensures.amount ∙ c.side.invariant.3)

pub returns-clause-same : goal.returns-clause-same
returns-clause-same g c =
    let many : length c.self.inside.notes.items ≡ length c.side.inside.notes.items = omega (arith, c.self.invariant.2, c.side.invariant.3, c.audit.ensures.whole (c.side.invariant.1 ∙ sym c.side.invariant.2)) in
    sym (ap (λ v. v.rows) c.self.view_is) ∙ (sides-same g.N.Naming.cells c.self.inside.notes.items c.side.inside.notes.items (somes (known_of c.self.inside.notes.items)) c.side.inside.rows.items c.self.invariant.1 c.side.invariant.0 many c.compare_all.ensures.all ∙ ap (λ v. v.rows) c.side.view_is)
