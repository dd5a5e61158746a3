-- They are those of the list, if there is one.
use Rattle.std.proofs.lemmas.Result.{IfOk-weaker}
use Rattle.zt_logs.specs.Members.{field}
use Rattle.zt_logs.specs.ProofsOnly.Tokens.{data_at, items_at}
use Rattle.zt_logs.specs.LineCalls.{AreDispositions, AreDispositionsIn}
use Rattle.zt_logs.proofs.ListedLaws.{sent_at}
use Rattle.zt_logs.proofs.dispositions.dispositions.Goals as goal

pub returns-in-Some : goal.returns-in-Some
returns-in-Some c =
    let there = field c.args.name (data_at c.args.args.now.value) in
    IfOk-weaker c.dispositions_in.result (λ sent. AreDispositions (items_at c.in-Some.list) sent.items) (λ sent. AreDispositionsIn there sent.items)
    (λ sent are. sent_at there c.in_ok-list.field-0 c.in-Some.list sent.items c.in_ok-list.ensures c.in-Some.is are) c.dispositions_in.ensures
