-- One more.
use Rattle.std.proofs.Common.{◌++◌, sym, ◌∙◌, ap, arith}
use Rattle.std.specs.Option.{option_to_list}
use Rattle.zt_logs.specs.LineCalls.{copy_of}
use Rattle.zt_logs.proofs.PartLaws.{copies_next, copies_all}
use Rattle.zt_logs.proofs.dispositions.copies_of.Goals as goal

pub loop-place-init : goal.loop-place-init
loop-place-init c = grind arith

pub loop-place-preserved : goal.loop-place-preserved
loop-place-preserved c =
    c.in_ok-push_copy.ensures ∙ ap (λ xs. xs ++ option_to_list (copy_of c.loop-place.place c.index-dispositions-place.result)) c.loop-place.invariant
    ∙ sym (copies_next c.args.dispositions.now c.loop-place.place c.index-dispositions-place.result c.loop-place-test.true c.index-dispositions-place.is)

pub returns : goal.returns
returns c = c.loop-place.invariant ∙ copies_all c.args.dispositions.now c.loop-place.place (omega (arith, c.loop-place-test.false))
