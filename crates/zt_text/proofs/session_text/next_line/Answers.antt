use Rattle.zt_text.proofs.LineLemmas.{cut_alone, cut_first}
use Rattle.zt_text.proofs.session_text.next_line.Goals as goal

pub returns-in-Some-clause-lines : goal.returns-in-Some-clause-lines
returns-in-Some-clause-lines c =
    cut_first c.args.bytes.now c.cut.result.0.now c.cut.result.1 c.in-Some.left c.cut.ensures c.in-Some.is

pub returns-in-None-clause-lines : goal.returns-in-None-clause-lines
returns-in-None-clause-lines c =
    cut_alone c.args.bytes.now c.cut.result.0.now c.cut.result.1 c.cut.ensures c.in-None.is c.requires
