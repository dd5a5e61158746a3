use Rattle.std.proofs.Common.{◌≡◌, ◌≤◌, ◌<◌, sym, ◌∙◌, arith}
use Rattle.zt_jobs.proofs.ChainLaws.{followed-none, followed-end, followed-more, followed-all}
use Rattle.zt_jobs.proofs.task_tree.depth.Goals as goal

pub links-init : goal.links-init
links-init c = record { within = omega arith; followed = followed-none c.args.step.now.current c.args.koid }

pub returns-then-eq : goal.returns-then-eq
returns-then-eq c =
    let v : c.koid.inside.0 ≡ c.args.koid = c.koid.view_is in
    let le : c.links.above ≤ c.koid.inside.0 = c.links-test.true in
    followed-end c.args.step.now.current c.args.koid c.links.above c.links.at c.link_of-at.result (omega arith)
    c.links.invariant.followed c.link_of-at.ensures (sym c.eq.ensures ∙ c.if-eq.true)

pub links-preserved : goal.links-preserved
links-preserved c =
    let v : c.koid.inside.0 ≡ c.args.koid = c.koid.view_is in
    let le : c.links.above ≤ c.koid.inside.0 = c.links-test.true in
    record {
      within = omega arith;
      followed = followed-more c.args.step.now.current c.args.koid c.links.above c.links.at c.link_of-at.result (omega arith)
          c.links.invariant.followed c.link_of-at.ensures (sym c.eq.ensures ∙ c.if-eq.false);
    }

pub returns : goal.returns
returns c =
    let v : c.koid.inside.0 ≡ c.args.koid = c.koid.view_is in
    let past : c.koid.inside.0 < c.links.above = c.links-test.false in
    followed-all c.args.step.now.current c.args.koid c.links.above c.links.at (omega arith) c.links.invariant.followed

pub overflow_add-above : goal.overflow_add-above
overflow_add-above c =
    let v : c.koid.inside.0 ≡ c.args.koid = c.koid.view_is in
    let le : c.links.above ≤ c.koid.inside.0 = c.links-test.true in
    let more = followed-more c.args.step.now.current c.args.koid c.links.above c.links.at c.link_of-at.result (omega arith)
    c.links.invariant.followed c.link_of-at.ensures (sym c.eq.ensures ∙ c.if-eq.false) in
    let few = c.requires in
    omega (arith, more, few)
