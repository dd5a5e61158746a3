use Rattle.std.proofs.Common.{sym, ◌∙◌}
use Rattle.zt_cascade.proofs.ReleasingLaws.{on_ok_three, covers-gone, covers-same, looked-same, missing-stays}
use Rattle.zt_cascade.proofs.worklist.look_at.Goals as goal

pub returns-in-Some-clause-covered : goal.returns-in-Some-clause-covered
returns-in-Some-clause-covered c =
    on_ok_three c.take_out.result
    (covers-gone c.args.koid c.args.step.now.current c.take_out.new.step.current c.args.list.now.items c.take_out.new.list.items)
    c.take_out.ensures.ok c.take_out.ensures.noted c.take_out.ensures.grown

pub returns-in-None-clause-ok : goal.returns-in-None-clause-ok
returns-in-None-clause-ok c =
    let S = c.args.step.now.current in
    looked-same S c.args.koid (missing-stays S c.args.koid (sym c.unsupported.ensures ∙ c.in-None.is))

pub returns-in-None-clause-covered : goal.returns-in-None-clause-covered
returns-in-None-clause-covered c =
    let S = c.args.step.now.current in
    covers-same c.args.koid S c.args.list.now.items (missing-stays S c.args.koid (sym c.unsupported.ensures ∙ c.in-None.is))
