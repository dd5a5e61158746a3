use Rattle.std.proofs.Common.{string_bytes, rules}
use Rattle.zt_look.specs.Names.{shown_bits}
use Rattle.zt_look.proofs.NameLaws.{last-written, more-written, rest-written}
use Rattle.zt_look.proofs.lines.names.put_bits.Goals as goal

pub returns-then-bits-eq0 : goal.returns-then-bits-eq0
unfolding shown_bits
returns-then-bits-eq0 c = search rules

pub returns-then-left-eq0 : goal.returns-then-left-eq0
returns-then-left-eq0 c =
    last-written c.args.names.now c.loop-bit.bit-index _ c.loop-bit.left c.saturating_sub-left.result c.args.bits (string_bytes c.args.text.now) (string_bytes c.loop-bit.text) (string_bytes c.push_str-in-loop-bit.new.self)
    c.loop-bit-test.true c.if-bits-eq0.false c.if-left-bit-eq0.false c.saturating_sub-left.ensures c.if-left-eq0.true c.loop-bit.invariant.same c.in_ok-push_str.ensures.bytes

pub loop-bit-preserved : goal.loop-bit-preserved
loop-bit-preserved c =
    let more = more-written c.args.names.now c.loop-bit.bit-index _ c.loop-bit.left c.saturating_sub-left.result c.args.bits (string_bytes c.args.text.now) (string_bytes c.loop-bit.text) (string_bytes c.push_str-in-loop-bit.new.self) (string_bytes c.push_str-in-loop-bit-2.new.self) c.loop-bit-test.true c.if-left-bit-eq0.false c.saturating_sub-left.ensures c.if-left-eq0.false c.loop-bit.invariant.same c.in_ok-push_str.ensures.bytes c.in_ok-push_str-2.ensures.bytes in
    record { some = more.0; same = more.1 }

pub returns : goal.returns
returns c =
    rest-written c.put_mask.result c.args.names.now c.loop-bit.bit-index c.loop-bit.left c.args.bits (string_bytes c.args.text.now) (string_bytes c.loop-bit.text) (string_bytes c.put_mask.new.text)
    c.loop-bit-test.false c.if-bits-eq0.false c.loop-bit.invariant.some c.loop-bit.invariant.same c.put_mask.ensures
