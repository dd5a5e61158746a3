-- The call of the moment is one more.
use Rattle.std.proofs.Common.{sym}
use Rattle.zt_look.proofs.CountLaws.{call-one-ok}
use Rattle.zt_look.proofs.call_counts.count_call.Goals as goal

pub returns-in-Some-reply_of : goal.returns-in-Some-reply_of
returns-in-Some-reply_of c =
    call-one-ok c.args.history.now.tree.made c.args.moment c.count_one.result c.in-Some.caller.0 c.in-Some.caller.1.now c.in-Some-reply_of.reply.now c.status.result
    c.args.counts.now c.count_one.new.counts (sym c.in-Some.ensures) (sym c.in-Some-reply_of.ensures) c.status.ensures c.count_one.ensures
