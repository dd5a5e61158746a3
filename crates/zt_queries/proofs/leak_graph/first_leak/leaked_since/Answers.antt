-- Found where the object is known at the moment, and refused where it is not; what was found tells when the object is leaked.
use Rattle.std.proofs.Common.{None, sym, subst, ◌∙◌}
use Rattle.zt_rows.specs.declared.calls.Happening.TheVariants as happening
use Rattle.zt_queries.specs.ProofsOnly.NameSearch.{IsToldBy}
use Rattle.zt_queries.proofs.StayLaws.{found-tells}
use Rattle.zt_queries.proofs.WhenLaws.{when-known, when-unknown}
use Rattle.zt_queries.proofs.leak_graph.first_leak.leaked_since.Goals as goal

pub returns-then-not-is_known-clause-refused : goal.returns-then-not-is_known-clause-refused
returns-then-not-is_known-clause-refused c =
    when-unknown c.args.history.now.tree.made c.args.at c.args.koid happening.Leaked (sym c.is_known.ensures ∙ c.if-not-is_known.true)

pub returns-in-Known-clause-ok : goal.returns-in-Known-clause-ok
returns-in-Known-clause-ok c =
    when-known c.args.history.now.tree.made c.args.at c.args.koid happening.Leaked c.in-Known.found (sym c.is_known.ensures ∙ c.if-not-is_known.false) (sym (subst (IsToldBy c.args.history.now.tree.made c.args.at c.args.koid) c.in-Known.is c.in_ok-told.ensures))

pub returns-in-Known-clause-tells : goal.returns-in-Known-clause-tells
returns-in-Known-clause-tells c =
    found-tells c.args.history.now.tree.made c.args.at c.args.koid c.in-Known.found c.is_never_leaked.ensures.tree.moments c.requires.there (returns-in-Known-clause-ok c)

pub returns-clause-ok : goal.returns-clause-ok
returns-clause-ok c =
    when-known c.args.history.now.tree.made c.args.at c.args.koid happening.Leaked c.in_ok-found.found (sym c.is_known.ensures ∙ c.if-not-is_known.false) c.in_ok-found.ensures.found

pub returns-clause-tells : goal.returns-clause-tells
returns-clause-tells c =
    found-tells c.args.history.now.tree.made c.args.at c.args.koid c.in_ok-found.found c.is_never_leaked.ensures.tree.moments c.requires.there (returns-clause-ok c)

pub returns-then-is_never_leaked-clause-tells : goal.returns-then-is_never_leaked-clause-tells
returns-then-is_never_leaked-clause-tells c =
    found-tells c.args.history.now.tree.made c.args.at c.args.koid None c.is_never_leaked.ensures.tree.moments c.requires.there
    (when-known c.args.history.now.tree.made c.args.at c.args.koid happening.Leaked None (sym c.is_known.ensures ∙ c.if-not-is_known.false)
    (sym (c.is_never_leaked.ensures.never c.if-is_never_leaked.true)))
