use Rattle.std.proofs.Common.{refl}
use Rattle.zt_text.proofs.CutLemmas.{cut_none, cut_at}
use Rattle.zt_text.proofs.separator.cut.Goals as goal

pub returns-in-Some : goal.returns-in-Some
returns-in-Some c = cut_at c.args.separator c.args.bytes.now c.in-Some.place c.in-Some.ensures.inside c.in-Some.ensures.at

pub returns-in-None : goal.returns-in-None
returns-in-None c = (cut_none c.args.separator c.args.bytes.now c.in-None.ensures.at, refl)
