use Rattle.std.proofs.Common.{◌∷◌, ◌++◌, [], length, ap, ◌∙◌, arith}
use Rattle.zt_rows.specs.State.{row}
use Rattle.zt_store.specs.ProofsOnly.KeptRows.{rows_of}
use Rattle.zt_store.proofs.SlotLaws.{rows_of-last}
use Rattle.zt_store.proofs.BeforeImageLaws.{length-firsts}
use Rattle.zt_store.proofs.exchanged_rows.exchange_behind.Goals as goal

pub push_reserved-requires : goal.push_reserved-requires
push_reserved-requires c =
    omega (arith, c.requires.room, ap (λ f. f.room) c.firsts.view_is, ap (λ f. length f.rows) c.firsts.view_is, length-firsts _ _ c.firsts.invariant, c.firsts.inside.keys.ok)

pub push_reserved-requires-2 : goal.push_reserved-requires-2
push_reserved-requires-2 c =
    omega (arith, c.requires.room, ap (λ f. f.room) c.firsts.view_is, ap (λ f. length f.rows) c.firsts.view_is, length-firsts _ _ c.firsts.invariant, c.firsts.invariant, c.firsts.inside.rows.ok)

pub returns-clause-behind : goal.returns-clause-behind
returns-clause-behind c =
    rows_of-last _ _ _ _ _ _ _ _ _ c.firsts.invariant c.push_reserved.ensures.items c.push_reserved-2.ensures.items (omega arith) c.exchange.ensures.was
    ∙ ap (λ f. rows_of f.rows ++ (c.args.key.now, row c.args.store.now.state c.args.key.now) ∷ []) c.firsts.view_is
