-- A line that is not UTF-8 is not JSON.
use Rattle.zt_logs.proofs.ReadLaws.{json_refused}
use Rattle.zt_logs.proofs.json_lines.json_in.Goals as goal

pub refused-requires : goal.refused-requires
refused-requires c = json_refused c.args.line.now (λ utf8. absurd (c.in-Err.ensures.cases.0 utf8))
