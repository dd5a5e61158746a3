-- Each moment of the tree has its record.
use Rattle.std.proofs.Common.{sym, ◌∙◌, ap}
use Rattle.std.specs.Option.{option_copied}
use Rattle.zt_look.proofs.UnleakedLaws.{turn-there}
use Rattle.zt_look.proofs.unleaked_set.back_over.Goals as goal

pub step_back-requires-clause-kept : goal.step_back-requires-clause-kept
step_back-requires-clause-kept c = sym c.record_of.ensures ∙ ap option_copied c.in-Some.is

pub unreachable-requires : goal.unreachable-requires
unreachable-requires c =
    turn-there c.args.history.now.tree c.args.moment c.args.history.now.position c.limits.ensures.tree c.requires.made c.requires.there
    (sym c.record_of.ensures ∙ ap option_copied c.in-None.is)
