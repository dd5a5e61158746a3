use Rattle.std.proofs.Common.{false, cond, ap, ◌∙◌}
use Rattle.std.specs.BTreeSet.{contains}
use Rattle.std.specs.Ordering.{nat_cmp}
use Rattle.zt_jobs.proofs.BelowLaws.{at-same, none-there, not-less}
use Rattle.zt_jobs.proofs.MemberLaws.{list-start, list-next, list-end}
use Rattle.zt_jobs.proofs.found_koids.by_koid.Goals as goal

pub koids-init : goal.koids-init
koids-init c = list-start c.new-list.result.items (contains nat_cmp c.args.set) c.new-list.ensures.items

pub koids-preserved : goal.koids-preserved
koids-preserved c =
    list-next c.koids.list.items c.push.new.self.items (contains nat_cmp c.koids.left) (contains nat_cmp c.pop_first.new.self) (contains nat_cmp c.args.set) c.in-Some.koid
    c.koids.invariant c.in_ok-push-in-Some.ensures.items c.in-Some.ensures.member (λ x h. not-less c.in-Some.koid x (c.in-Some.ensures.least x h))
    (λ x. c.in-Some.ensures.updates.0 x ∙ ap (λ b. cond b false (contains nat_cmp c.koids.left x)) (at-same c.in-Some.koid x))

pub returns-in-None-clause-members : goal.returns-in-None-clause-members
returns-in-None-clause-members c =
    list-end c.koids.list.items (contains nat_cmp c.koids.left) (contains nat_cmp c.args.set) c.koids.invariant
    (none-there c.koids.left.keys c.in-None.ensures.variant.1)
