use Rattle.std.proofs.Common.{sym, ◌∙◌, arith}
use Rattle.zt_store.proofs.TouchedIndexLaws.{looking-start, looking-end, number-within, number-linked, number-mixed, number-falls, number-next, number-found}
use Rattle.zt_store.proofs.touched_index.chained_place.Goals as goal

pub chain-init : goal.chain-init
chain-init c =
    looking-start c.args.last.now c.args.links.now c.args.keys.now c.args.key.now c.bucket.result c.requires.chained
    (c.bucket.ensures.bucket c.args.key.now c.mixed-mixed.ensures) c.bucket.ensures.below

pub bounds-links-place : goal.bounds-links-place
bounds-links-place c = number-linked c.args.last.now c.args.links.now c.args.keys.now c.args.key.now c.chain.number c.requires.chained c.chain-test.true c.chain.invariant

pub bounds-keys-place : goal.bounds-keys-place
bounds-keys-place c = number-within c.args.last.now c.args.links.now c.args.keys.now c.args.key.now c.chain.number c.requires.chained c.chain-test.true c.chain.invariant

pub is_same-requires-clause-link : goal.is_same-requires-clause-link
is_same-requires-clause-link c =
    number-mixed c.args.last.now c.args.links.now c.args.keys.now c.args.key.now c.chain.number c.requires.chained c.chain-test.true c.chain.invariant _ c.index-keys-place.is _

pub chain-preserved : goal.chain-preserved
chain-preserved c =
    number-next c.args.last.now c.args.links.now c.args.keys.now c.args.key.now c.chain.number c.requires.chained c.chain-test.true c.chain.invariant _ c.index-keys-place.is _
    (sym c.is_same.ensures ∙ c.if-is_same.false)

pub chain-smaller : goal.chain-smaller
chain-smaller c =
    number-falls c.args.last.now c.args.links.now c.args.keys.now c.args.key.now c.chain.number c.requires.chained c.chain-test.true c.chain.invariant c.index-keys-place.result c.index-keys-place.is _

pub returns-then-is_same : goal.returns-then-is_same
returns-then-is_same c =
    number-found c.args.last.now c.args.links.now c.args.keys.now c.args.key.now c.chain.number c.requires.chained c.chain-test.true c.chain.invariant _ c.index-keys-place.is
    (sym c.is_same.ensures ∙ c.if-is_same.true)

pub returns : goal.returns
returns c = looking-end _ c.args.keys.now c.args.key.now c.chain.number c.chain.invariant (omega arith)
