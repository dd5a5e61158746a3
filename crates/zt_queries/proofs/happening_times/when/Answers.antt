-- Found where the object is known at the moment, and refused where it is not.
use Rattle.std.proofs.Common.{sym, ◌∙◌}
use Rattle.zt_queries.specs.ProofsOnly.RowHappenings.{happening_of}
use Rattle.zt_queries.proofs.WhenLaws.{shown-is, when-known, when-unknown}
use Rattle.zt_queries.proofs.happening_times.when.Goals as goal

pub returns-then-not-is_known-clause-refused : goal.returns-then-not-is_known-clause-refused
returns-then-not-is_known-clause-refused c =
    when-unknown c.args.history.now.tree.made c.args.at c.args.koid (happening_of c.args.what) (sym c.is_known.ensures ∙ c.if-not-is_known.true)

pub returns-clause-ok : goal.returns-clause-ok
returns-clause-ok c =
    when-known c.args.history.now.tree.made c.args.at c.args.koid (happening_of c.args.what) c.last_shown.result (sym c.is_known.ensures ∙ c.if-not-is_known.false)
    (c.last_shown.ensures ∙ shown-is c.args.what c.args.koid c.args.history.now.tree.made c.args.at)
