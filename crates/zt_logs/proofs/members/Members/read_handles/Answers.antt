-- The handles are those of the list, if there is one.
use Rattle.std.proofs.lemmas.Result.{IfOk-weaker}
use Rattle.zt_logs.specs.Members.{field}
use Rattle.zt_logs.specs.ProofsOnly.Tokens.{data_at, items_at}
use Rattle.zt_logs.specs.Answered.{AreReadHandles, AreReadNumbers}
use Rattle.zt_logs.proofs.ListedLaws.{read_at}
use Rattle.zt_logs.proofs.members.Members.read_handles.Goals as goal

pub returns-in-Some : goal.returns-in-Some
returns-in-Some c =
    let there = field c.args.name (data_at c.args.self.now.value) in
    IfOk-weaker c.read_handles_in.result (λ handles. AreReadNumbers (items_at c.in-Some.list) handles.items) (λ handles. AreReadHandles there handles.items)
    (λ handles are. read_at there c.in_ok-list.field-0 c.in-Some.list handles.items c.in_ok-list.ensures c.in-Some.is are) c.read_handles_in.ensures
