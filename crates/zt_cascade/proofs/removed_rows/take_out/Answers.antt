use Rattle.std.proofs.Common.{ap, ◌∙◌}
use Rattle.zt_rows.specs.Tests.{among}
use Rattle.zt_cascade.proofs.TakingLaws.{taken-out, taken-noted}
use Rattle.zt_cascade.proofs.removed_rows.take_out.Goals as goal

pub returns-clause-ok : goal.returns-clause-ok
returns-clause-ok c =
    taken-out c.args.koid c.args.step.now.current c.take_row.new.step.current c.take_messages.new.step.current c.take_packets.new.step.current c.take_waits.new.step.current
    c.in_ok-take_row.ensures.partly c.in_ok-take_row.ensures.objects
    c.in_ok-take_messages.ensures.partly c.in_ok-take_messages.ensures.gone
    c.in_ok-take_packets.ensures.partly c.in_ok-take_packets.ensures.gone
    c.in_ok-take_waits.ensures.partly c.in_ok-take_waits.ensures.waits

pub returns-clause-noted : goal.returns-clause-noted
returns-clause-noted c = λ y h.
    ap (λ l. among l y) c.in_ok-push.ensures.items
    ∙ taken-noted c.args.koid c.args.step.now.current c.take_row.new.step.current c.take_messages.new.step.current c.args.found.now
    c.args.list.now.items c.take_messages.new.list.items c.requires.there c.in_ok-take_row.ensures.messages
    c.in_ok-take_messages.ensures.noted c.in_ok-take_messages.ensures.gone y h
