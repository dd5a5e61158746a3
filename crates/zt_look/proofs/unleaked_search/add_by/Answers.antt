-- What the row names in any case comes first.
use Rattle.std.proofs.Common.{sym, ◌∙◌, ap}
use Rattle.zt_look.specs.ProofsOnly.UnleakedSearch.{in_set}
use Rattle.zt_look.proofs.SearchLaws.{named-owned, named-unowned}
use Rattle.zt_look.proofs.unleaked_search.add_by.Goals as goal

pub returns-in_ok-add_named : goal.returns-in_ok-add_named
returns-in_ok-add_named c =
    named-owned c.args.store.now.state c.args.kept.now c.args.search.now c.add_begun.new.search c.add_named.new.search c.args.key c.in_ok-add_begun.ensures
    (ap (in_set c.add_begun.new.search) (sym c.owner-koid.ensures) ∙ sym c.has.ensures ∙ c.if-has.true) c.in_ok-add_named.ensures

pub returns-else-has : goal.returns-else-has
returns-else-has c =
    named-unowned c.args.store.now.state c.args.kept.now c.args.search.now c.add_begun.new.search c.args.key c.in_ok-add_begun.ensures
    (ap (in_set c.add_begun.new.search) (sym c.owner-koid.ensures) ∙ sym c.has.ensures ∙ c.if-has.false)
