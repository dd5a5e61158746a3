-- One close more.
use Rattle.std.proofs.Common.{[], ◌∷◌, ◌++◌, sym, ◌∙◌, ap, arith}
use Rattle.zt_rows.specs.declared.calls.Call.TheVariants as call
use Rattle.zt_logs.specs.LineCalls.{alone}
use Rattle.zt_logs.proofs.PartLaws.{closes_next}
use Rattle.zt_logs.proofs.line_calls.closes_of.Goals as goal

pub loop-place-init : goal.loop-place-init
loop-place-init c = grind arith

pub loop-place-preserved : goal.loop-place-preserved
loop-place-preserved c =
    c.in_ok-push_part.ensures ∙ ap (λ xs. xs ++ alone (call.HandleClose c.index-handles-place.result) ∷ []) c.loop-place.invariant
    ∙ sym (closes_next c.args.handles.now c.loop-place.place c.index-handles-place.result c.loop-place-test.true c.index-handles-place.is)
