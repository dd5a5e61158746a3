use Rattle.std.proofs.Common.{arith}
use Rattle.std.proofs.lemmas.Bool.Decides.{nat_tests}
use Rattle.zt_text.proofs.CutLemmas.{cut_at}
use Rattle.zt_text.proofs.FrontLemmas.{uncut}
use Rattle.zt_text.proofs.Places.{first_place}
use Rattle.zt_text.proofs.separator.cut_at.Goals as goal

pub returns-then-end-bytes-clause-cut : goal.returns-then-end-bytes-clause-cut
returns-then-end-bytes-clause-cut c = uncut c.args.separator c.args.bytes.now c.args.end c.requires.others (omega arith)

pub returns-then-bytes-end-clause-cut : goal.returns-then-bytes-end-clause-cut
returns-then-bytes-end-clause-cut c =
    cut_at c.args.separator c.args.bytes.now c.args.end (omega arith)
    (first_place c.args.separator c.args.bytes.now c.args.end (omega arith) c.requires.others (grind (arith, nat_tests)))
