-- A text is JSON where it reads as a value.
use Rattle.std.proofs.Common.{Err, ap}
use Rattle.zt_logs.proofs.ReadLaws.{json_read, json_refused}
use Rattle.zt_logs.proofs.json_lines.json_of.Goals as goal

pub returns-in-Ok : goal.returns-in-Ok
returns-in-Ok c = json_read c.args.text.now c.in-Ok.tape c.utf8.text c.in-Ok.ensures.ok c.in-Ok.ensures.value

pub refused-requires : goal.refused-requires
refused-requires c =
    rw c.as_bytes.ensures.value (json_refused c.args.text.now (λ _. c.in-Err-Invalid.ensures.invalid (ap Err c.in-Err-Invalid.field-0-is)))
