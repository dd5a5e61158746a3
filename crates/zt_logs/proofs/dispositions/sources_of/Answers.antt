-- One more.
use Rattle.std.proofs.Common.{[], ◌∷◌, ◌++◌, sym, ◌∙◌, ap, arith}
use Rattle.zt_logs.specs.declared.dispositions.Disposition.{Disposition}
use Rattle.zt_logs.proofs.PartLaws.{sources_next, sources_all}
use Rattle.zt_logs.proofs.dispositions.sources_of.Goals as goal

pub loop-place-init : goal.loop-place-init
loop-place-init c = grind arith

pub loop-place-preserved : goal.loop-place-preserved
loop-place-preserved c =
    c.in_ok-push_handle.ensures ∙ ap (λ (sent : Disposition). c.loop-place.handles.items ++ sent.handle ∷ []) (sym c.index-dispositions-place.is)
    ∙ ap (λ xs. xs ++ c.index-dispositions-place.result.handle ∷ []) c.loop-place.invariant
    ∙ sym (sources_next c.args.dispositions.now c.loop-place.place c.index-dispositions-place.result c.loop-place-test.true c.index-dispositions-place.is)

pub returns : goal.returns
returns c = c.loop-place.invariant ∙ sources_all c.args.dispositions.now c.loop-place.place (omega (arith, c.loop-place-test.false))
