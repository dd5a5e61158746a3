-- The four kinds of supports, one after another.
use Rattle.zt_queries.proofs.HoldLaws.{parts_listed}
use Rattle.zt_queries.proofs.support_list.frozen_supports.Goals as goal

pub returns : goal.returns
returns c =
    parts_listed c.args.koid c.args.frozen.now.state c.args.found.now c.rows-rows.result.now c.new-list.result.items c.add_listed.new.list.items c.add_listed-2.new.list.items
    c.add_listed_children.new.list.items c.add_itself.new.list.items c.requires c.rows-rows.ensures c.new-list.ensures.items
    c.in_ok-add_listed.ensures c.in_ok-add_listed-2.ensures c.in_ok-add_listed_children.ensures c.in_ok-add_itself.ensures
