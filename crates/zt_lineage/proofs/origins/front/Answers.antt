use Rattle.std.proofs.Common.{sym}
use Rattle.zt_rows.proofs.ReadLaws.{message-row}
use Rattle.zt_queues.proofs.FrontLaws.{first-none, first-some, front-there}
use Rattle.zt_lineage.proofs.origins.front.Goals as goal

pub returns-in_err-number : goal.returns-in_err-number
returns-in_err-number c = rw c.from_residual.ensures (sym (first-none c.args.store.now.state c.args.endpoint c.in_err-number.ensures.first))

pub returns-in_err-message : goal.returns-in_err-message
returns-in_err-message c =
    absurd (front-there c.args.store.now.state c.args.endpoint c.in_ok-number.number c.in_ok-number.ensures.first c.in_ok-number.ensures.suited (sym c.in_err-message.ensures))

pub returns : goal.returns
returns c =
    sym (first-some c.args.store.now.state c.args.endpoint c.in_ok-number.number c.in_ok-message.message.now c.in_ok-number.ensures.first
    (message-row c.args.store.now.state c.args.endpoint c.in_ok-number.number c.in_ok-message.message.now (sym c.in_ok-message.ensures)))
