use Rattle.std.proofs.Common.{arith}
use Rattle.zt_text.proofs.NumberLemmas.{unsigned_code}
use Rattle.zt_text.proofs.numbers.code.Goals as goal

pub returns-in_default : goal.returns-in_default
returns-in_default c = unsigned_code c.args.bytes.now c.unsigned.result c.unsigned.ensures c.in_default.len_at_least (λ sign. omega arith)
