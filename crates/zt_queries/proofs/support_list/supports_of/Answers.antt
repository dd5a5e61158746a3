-- The four kinds of supports, one after another.
use Rattle.std.proofs.Common.{ap, ◌∙◌}
use mir.Val.{bool_byte}
use Rattle.zt_queries.proofs.HoldLaws.{all_parts}
use Rattle.zt_queries.proofs.support_list.supports_of.Goals as goal

pub returns : goal.returns
returns c =
    all_parts c.args.koid c.args.store.now.state c.args.found.now c.new-list.result.items c.add_supports.new.list.items c.add_supports-2.new.list.items
    c.add_children.new.list.items c.add_itself.new.list.items c.count.result c.from.result c.saturating_sub-others.result c.without_children-named.result c.requires c.new-list.ensures.items
    c.count.ensures (c.from.ensures ∙ ap bool_byte c.keeps_itself.ensures) c.saturating_sub-others.ensures c.without_children-named.ensures
    c.in_ok-add_supports.ensures c.in_ok-add_supports-2.ensures c.in_ok-add_children.ensures c.in_ok-add_itself.ensures
