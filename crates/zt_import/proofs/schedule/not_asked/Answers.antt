-- One call more.
use Rattle.std.proofs.Common.{◌≡◌, ◌+◌, ◌++◌, [], ◌∷◌, suc, length, map, take, Some, refl, sym, ◌∙◌, ap, arith}
use Rattle.std.specs.Prelude.{slice_get}
use Rattle.std.proofs.lemmas.List.{map-append}
use Rattle.std.proofs.lemmas.Option.{slice_get_read}
use Rattle.zt_logs.specs.declared.logged.LoggedCall.{LoggedCall}
use Rattle.zt_import.specs.Trails.{not_asked}
use Rattle.zt_import.proofs.ComparedLaws.{take-all}
use Rattle.zt_import.proofs.TextLaws.{take-none, take-next}
use Rattle.zt_import.proofs.schedule.not_asked.Goals as goal

pub loop-place-init : goal.loop-place-init
loop-place-init c =
    c.in_ok-asked.ensures.items ∙ sym (ap (map not_asked) (take-none c.args.calls.now))

pub loop-place-preserved : goal.loop-place-preserved
loop-place-preserved c =
    let next : c.loop-place.place + 1 ≡ suc c.loop-place.place = omega arith in
    let found : slice_get c.args.calls.now c.loop-place.place ≡ Some c.index-calls-place.result =
    slice_get_read c.args.calls.now (length c.args.calls.now) c.loop-place.place c.index-calls-place.result refl c.loop-place-test.true c.index-calls-place.is in
    c.in_ok-push_call.ensures ∙ ap (λ (logged : LoggedCall). c.loop-place.asked.items ++ not_asked logged ∷ []) (sym c.index-calls-place.is)
    ∙ ap (λ xs. xs ++ not_asked c.index-calls-place.result ∷ []) c.loop-place.invariant
    ∙ sym (ap (λ n. map not_asked (take n c.args.calls.now)) next ∙ ap (map not_asked) (take-next c.args.calls.now c.loop-place.place c.index-calls-place.result found)
    ∙ map-append not_asked (take c.loop-place.place c.args.calls.now) (c.index-calls-place.result ∷ []))

pub returns : goal.returns
returns c = c.loop-place.invariant ∙ ap (map not_asked) (take-all c.loop-place.place c.args.calls.now (omega (arith, c.loop-place-test.false)))
