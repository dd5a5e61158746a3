use Rattle.std.proofs.Common.{◌≢◌, sym, ◌∙◌, arith}
use Rattle.zt_jobs.proofs.ChainLaws.{sought-start, sought-end, sought-found, sought-none, sought-more}
use Rattle.zt_jobs.proofs.task_tree.has_above.Goals as goal

pub links-init : goal.links-init
links-init c = sought-start c.args.step.now.current c.args.koid c.args.job c.koid.inside.0 c.koid.view_is

pub returns-then-eq : goal.returns-then-eq
returns-then-eq c =
    sought-end c.args.step.now.current c.args.koid c.args.job c.links.left c.links.at c.link_of-at.result c.links.invariant c.link_of-at.ensures
    (sym c.eq.ensures ∙ c.if-eq.true)

pub returns-then-eq-2 : goal.returns-then-eq-2
returns-then-eq-2 c =
    sought-found c.args.step.now.current c.args.koid c.args.job c.links.left c.links.at c.link_of-at.result c.links.invariant c.link_of-at.ensures
    (sym c.eq.ensures ∙ c.if-eq.false) (sym c.eq-in-links.ensures ∙ c.if-eq-2.true)

pub returns-then-left-eq0 : goal.returns-then-left-eq0
returns-then-left-eq0 c =
    sought-none c.args.step.now.current c.args.koid c.args.job c.links.left c.links.at c.link_of-at.result c.links.invariant c.link_of-at.ensures
    (sym c.eq.ensures ∙ c.if-eq.false) (sym c.eq-in-links.ensures ∙ c.if-eq-2.false) c.if-left-eq0.true

pub links-preserved : goal.links-preserved
links-preserved c =
    let some : c.links.left ≢ 0 = c.if-left-eq0.false in
    sought-more c.args.step.now.current c.args.koid c.args.job c.links.left c.links.at c.link_of-at.result c.links.invariant c.link_of-at.ensures _
    (sym c.eq.ensures ∙ c.if-eq.false) (sym c.eq-in-links.ensures ∙ c.if-eq-2.false) (omega arith)
