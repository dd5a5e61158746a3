use Rattle.std.proofs.Common.{◌∙◌}
use Rattle.zt_text.proofs.NoteLemmas.{handle_added}
use Rattle.zt_text.proofs.name_table.NameTable.add.Goals as goal

pub returns-in_ok-insert-in-Handle-clause-handles :
    goal.returns-in_ok-insert-in-Handle-clause-handles
returns-in_ok-insert-in-Handle-clause-handles c process handle =
    handle_added c.args.subject c.in-Handle.process c.in-Handle.handle c.process.inside.0 c.handle.inside.0 process handle c.args.text.now _ _ _
    c.in-Handle.is c.process.view_is c.handle.view_is (c.new-copied.ensures ∙ c.in_ok-from_slice.ensures.items)
    (c.in_ok-insert-in-Handle.ensures.updates.0 (process, handle))
