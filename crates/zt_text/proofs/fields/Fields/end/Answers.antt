use Rattle.std.proofs.Common.{sym, ◌∙◌}
use Rattle.zt_text.proofs.FieldLemmas.{ended_surplus, ended_none}
use Rattle.zt_text.proofs.fields.Fields.end.Goals as goal

pub returns-in-Ok : goal.returns-in-Ok
returns-in-Ok c =
    rw c.fault.ensures (ended_surplus c.args.self (c.in-Ok.surplus, c.in-Ok.field-0-1) (sym c.in-Ok.is ∙ c.next.ensures))

pub returns-in-Err : goal.returns-in-Err
returns-in-Err c = ended_none c.args.self c.in-Err.field-0 (sym c.in-Err.is ∙ c.next.ensures)
