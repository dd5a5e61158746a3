use Rattle.std.proofs.Common.{◌≡◌, None, Some, arith}
use Rattle.zt_text.specs.Numbers.{handle_of}
use Rattle.zt_text.proofs.ListLemmas.{listed_goes_on, is_listed_bad, is_listed_full, is_listed_whole}
use Rattle.zt_text.proofs.lists.is_listed.Goals as goal

pub returns-in-None : goal.returns-in-None
returns-in-None c =
    let reads : None ≡ handle_of c.cut.result.0.now = c.in-None.ensures in
    is_listed_bad c.args.field.now c.cut.result.0.now c.cut.result.1 c.loop-left.left c.in-Some.elements c.loop-left.count
    c.loop-left.invariant.so_far c.in-Some.is c.cut.ensures reads

pub returns-then-count-eq-MESSAGE_HANDLES : goal.returns-then-count-eq-MESSAGE_HANDLES
returns-then-count-eq-MESSAGE_HANDLES c =
    let reads : Some c.in-Some-handle.field-0 ≡ handle_of c.cut.result.0.now = c.in-Some-handle.ensures in
    is_listed_full c.args.field.now c.cut.result.0.now c.cut.result.1 c.loop-left.left c.in-Some.elements c.in-Some-handle.field-0 c.loop-left.count
    c.loop-left.invariant.so_far c.in-Some.is c.cut.ensures reads c.if-count-eq-MESSAGE_HANDLES.true

pub loop-left-preserved : goal.loop-left-preserved
loop-left-preserved c =
    let reads : Some c.in-Some-handle.field-0 ≡ handle_of c.cut.result.0.now = c.in-Some-handle.ensures in
    record {
      so_far = listed_goes_on c.args.field.now c.cut.result.0.now c.cut.result.1 c.loop-left.left c.in-Some.elements c.in-Some-handle.field-0 c.loop-left.count
          c.loop-left.invariant.so_far c.in-Some.is c.cut.ensures reads;
      few = omega arith;
    }

pub returns : goal.returns
returns c = is_listed_whole c.args.field.now c.loop-left.left c.loop-left.count c.loop-left.invariant.so_far c.in_default.is c.loop-left.invariant.few
