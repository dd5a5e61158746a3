use Rattle.std.proofs.Common.{sym}
use Rattle.zt_rows.proofs.ReadLaws.{message-row}
use Rattle.zt_queues.proofs.FrontLaws.{first-none, first-some, front-there}
use Rattle.zt_queues.proofs.queue_front.front.Goals as goal

pub returns-in_err-number : goal.returns-in_err-number
returns-in_err-number c = rw c.from_residual.ensures (sym (first-none c.args.step.now.current c.args.endpoint (rw c.store-store.ensures at c.in_err-number.ensures.first)))

pub returns-in_err-message : goal.returns-in_err-message
returns-in_err-message c =
    absurd (front-there c.args.step.now.current c.args.endpoint c.in_ok-number.number (rw c.store-store.ensures at c.in_ok-number.ensures.first) (rw c.store-store.ensures at c.in_ok-number.ensures.suited) (sym (rw c.store-store.ensures at c.in_err-message.ensures)))

pub returns : goal.returns
returns c =
    sym (first-some c.args.step.now.current c.args.endpoint c.in_ok-number.number c.in_ok-message.message.now (rw c.store-store.ensures at c.in_ok-number.ensures.first)
    (message-row c.args.step.now.current c.args.endpoint c.in_ok-number.number c.in_ok-message.message.now (sym (rw c.store-store.ensures at c.in_ok-message.ensures))))
