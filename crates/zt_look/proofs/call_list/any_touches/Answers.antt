-- One key settles it, or all were gone over.
use Rattle.std.proofs.Common.{◌≡◌, Bool, true, List, map, sym, ◌∙◌, ap}
use Rattle.std.specs.List.{list_any}
use Rattle.std.proofs.lemmas.List.{take_all}
use Rattle.std.proofs.lemmas.List.Folds.{list_any_at}
use Rattle.zt_rows.specs.declared.keys.RowKey.{RowKey}
use Rattle.zt_look.specs.declared.changes.Change.{Change}
use Rattle.zt_look.specs.CallList.{touches}
use Rattle.zt_look.specs.ProofsOnly.RecordSides.{change_under}
use Rattle.zt_look.proofs.CallLaws.{any-mapped}
use Rattle.zt_look.proofs.call_list.any_touches.Goals as goal

pub returns-then-touches : goal.returns-then-touches
returns-then-touches c =
    let change : RowKey → Change = change_under c.args.kept.now c.args.store.now.state in
    let test : RowKey → Bool = λ k. touches c.args.koid (change k) in
    let keys : List RowKey = map (λ e. e.0) c.args.kept.now in
    let here : test c.key-item.result ≡ true = sym c.touches.ensures ∙ c.if-touches.true in
    sym (
    any-mapped (touches c.args.koid) change keys
    ∙ ap (list_any test) (sym c.keys-key-items.ensures)
    ∙ list_any_at test c.keys-key-items.result.now c.loop-key.key-index c.key-item.result c.loop-key-test.true (ap test (sym c.key-item.is) ∙ here)
    )

pub returns : goal.returns
returns c =
    let change : RowKey → Change = change_under c.args.kept.now c.args.store.now.state in
    let test : RowKey → Bool = λ k. touches c.args.koid (change k) in
    let keys : List RowKey = map (λ e. e.0) c.args.kept.now in
    sym (
    any-mapped (touches c.args.koid) change keys
    ∙ ap (list_any test) (sym c.keys-key-items.ensures)
    ∙ ap (list_any test) (sym (take_all c.loop-key.key-index c.keys-key-items.result.now c.loop-key-test.false))
    ∙ c.loop-key.invariant
    )
