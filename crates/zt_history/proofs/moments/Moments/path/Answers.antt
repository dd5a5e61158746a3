-- What is beyond the opening, the first first, is the whole path.
use Rattle.std.proofs.Common.{◌∙◌, ap, reverse}
use Rattle.zt_history.proofs.ForkLaws.{above-opening, turned-path}
use Rattle.zt_history.proofs.moments.Moments.path.Goals as goal

pub beyond-requires-clause-above : goal.beyond-requires-clause-above
beyond-requires-clause-above c = above-opening c.args.self.now.made c.args.moment

pub returns : goal.returns
returns c =
    turned-path c.args.self.now.made c.args.moment c.in_ok-way.way.items c.reverse.new.self _ c.in_ok-way.way.len
    c.in_ok-way.ensures (c.reverse.ensures.after ∙ ap reverse c.as_mut_slice.ensures.value) c.in_ok-way.way.ok.0
