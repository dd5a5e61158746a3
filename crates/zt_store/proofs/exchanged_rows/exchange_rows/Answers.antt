use Rattle.std.proofs.Common.{◌≡◌, length, sym, ap, subst, ◌∙◌}
use Rattle.std.specs.List.{IsDistinct, zip}
use Rattle.std.specs.Vec.{with_items}
use Rattle.zt_rows.specs.Change.{exchange}
use Rattle.zt_rows.specs.Keys.{rowkey_eq}
use Rattle.zt_store.specs.Places.{fits}
use Rattle.zt_store.specs.ProofsOnly.KeptRows.{pairs_of, rows_of}
use Rattle.zt_store.specs.ProofsOnly.StoreView.{AllSuit}
use Rattle.zt_store.proofs.SlotLaws.{rows_of-lent, rows_of-written}
use Rattle.zt_store.proofs.Exchanges.{keys_of}
use Rattle.zt_store.proofs.exchanged_rows.exchange_rows.Goals as goal

pub exchange_each-requires-clause-distinct : goal.exchange_each-requires-clause-distinct
exchange_each-requires-clause-distinct c =
    subst (λ R. IsDistinct rowkey_eq (keys_of R)) (rows_of-lent _ _ _ _ _ _ c.firsts.view_is c.as_slice.ensures.value c.as_mut_slice.ensures.value) c.requires.distinct

pub exchange_each-requires-clause-suited : goal.exchange_each-requires-clause-suited
exchange_each-requires-clause-suited c = subst AllSuit (rows_of-lent _ _ _ _ _ _ c.firsts.view_is c.as_slice.ensures.value c.as_mut_slice.ensures.value) c.requires.suited

pub exchange_each-requires-clause-placed : goal.exchange_each-requires-clause-placed
exchange_each-requires-clause-placed c =
    sym (ap (fits c.args.store.now.places) (rows_of-lent _ _ _ _ _ _ c.firsts.view_is c.as_slice.ensures.value c.as_mut_slice.ensures.value)) ∙ c.requires.placed

now : (c : goal.After-firsts-1) → rows_of (zip c.firsts.inside.keys.items (with_items c.firsts.inside.rows c.exchange_each.new.rows).items) ≡ pairs_of c.as_slice.result.now c.exchange_each.new.rows
now c =
    rows_of-written c.firsts.inside.keys.items c.firsts.inside.rows c.exchange_each.new.rows (c.exchange_each.auto.rows ∙ ap length c.as_mut_slice.ensures.value)
    ∙ ap (λ ks. pairs_of ks c.exchange_each.new.rows) (sym c.as_slice.ensures.value)

pub returns-clause-exchanged : goal.returns-clause-exchanged
returns-clause-exchanged c =
    (λ j. (c.exchange_each.new.store.state, now c j)) ∙ c.exchange_each.ensures.exchanged
    ∙ sym (ap (exchange c.args.store.now.state) (rows_of-lent _ _ _ _ _ _ c.firsts.view_is c.as_slice.ensures.value c.as_mut_slice.ensures.value))

pub returns-clause-suited : goal.returns-clause-suited
returns-clause-suited c = subst AllSuit (sym (now c)) c.exchange_each.ensures.suited

pub returns-clause-fits : goal.returns-clause-fits
returns-clause-fits c = ap (fits c.exchange_each.new.store.places) (now c) ∙ c.exchange_each.ensures.fits
