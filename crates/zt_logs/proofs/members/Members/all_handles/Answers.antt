-- The handles are those of the list, if there is one.
use Rattle.std.proofs.lemmas.Result.{IfOk-weaker}
use Rattle.zt_logs.specs.Members.{field}
use Rattle.zt_logs.specs.ProofsOnly.Tokens.{data_at, items_at}
use Rattle.zt_logs.specs.LoggedCalls.{AreNumbers, AreHandles}
use Rattle.zt_logs.proofs.ListedLaws.{handles_at}
use Rattle.zt_logs.proofs.members.Members.all_handles.Goals as goal

pub returns-in-Some : goal.returns-in-Some
returns-in-Some c =
    let there = field c.args.name (data_at c.args.self.now.value) in
    IfOk-weaker c.handles_in.result (λ handles. AreNumbers (items_at c.in-Some.list) handles.items) (λ handles. AreHandles there handles.items)
    (λ handles are. handles_at there c.in_ok-list.field-0 c.in-Some.list handles.items c.in_ok-list.ensures c.in-Some.is are) c.handles_in.ensures
