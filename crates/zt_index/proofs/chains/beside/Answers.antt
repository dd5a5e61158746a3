use Rattle.std.proofs.Common.{ℕ, Bool, Option, sym, subst}
use Rattle.zt_index.specs.Chains.{IsNext}
use Rattle.zt_index.specs.ProofsOnly.Chains.{buckets, is_in}
use Rattle.zt_index.proofs.ChainLaws.{besides-from}
use Rattle.zt_index.proofs.chains.beside.Goals as goal

pub returns : goal.returns
returns c =
    let q : ℕ → Bool = is_in (buckets c.args.links.now) c.args.bucket in
    let from : Option ℕ = c.at_or_below.result in
    besides-from q c.args.low from c.next_of.result c.at_or_below.ensures
    (subst (IsNext q from) (sym c.next_of.ensures) (c.requires.nexts c.args.bucket from c.at_or_below.ensures.0))
