-- One record is another, which is what the store had.
use Rattle.std.proofs.Common.{◌<◌, ◌-◌, length, ◌∙◌, ap, refl, arith}
use Rattle.zt_store.specs.RecordRows.{all_fit}
use Rattle.zt_history.specs.ProofsOnly.MomentNodes.{Chronicle}
use Rattle.zt_history.proofs.NodeLaws.{record_fits, turned_at}
use Rattle.zt_history.proofs.ListedLaws.{listed-set, listed-within}
use Rattle.zt_history.proofs.moments.Moments.exchange_record.Goals as goal

pub index_mut-requires : goal.index_mut-requires
index_mut-requires c =
    let within : c.moment.inside.0 - 1 < length c.self.inside.records.items =
    listed-within c.self.inside.nodes.list c.self.inside.shortcuts.items c.self.inside.records.items c.args.self.now (c.moment.inside.0 - 1) c.args.moment
    c.self.view_is (ap (λ n. n - 1) c.moment.view_is) c.requires.some c.requires.there c.self.invariant in
    omega (arith, within, c.self.inside.records.ok.0)

pub swap-requires : goal.swap-requires
swap-requires c =
    record_fits c.args.store.now.places c.self.inside.records.items (c.moment.inside.0 - 1) c.index_mut.result.now (within c) c.index_mut.ensures.value
    (ap (λ (h : Chronicle). all_fit c.args.store.now.places h.records) c.self.view_is ∙ c.requires.fit)
  where
    within : (c : goal.After-index_mut) → c.moment.inside.0 - 1 < length c.self.inside.records.items
    within c =
        listed-within c.self.inside.nodes.list c.self.inside.shortcuts.items c.self.inside.records.items c.args.self.now (c.moment.inside.0 - 1) c.args.moment
        c.self.view_is (ap (λ n. n - 1) c.moment.view_is) c.requires.some c.requires.there c.self.invariant

pub invariant_of-self : goal.invariant_of-self
invariant_of-self c =
    listed-set c.self.inside.nodes.list c.self.inside.shortcuts.items c.self.inside.records.items (c.moment.inside.0 - 1) c.swap.new.kept c.self.invariant

pub returns : goal.returns
returns c =
    let within : c.moment.inside.0 - 1 < length c.self.inside.records.items =
    listed-within c.self.inside.nodes.list c.self.inside.shortcuts.items c.self.inside.records.items c.args.self.now (c.moment.inside.0 - 1) c.args.moment
    c.self.view_is (ap (λ n. n - 1) c.moment.view_is) c.requires.some c.requires.there c.self.invariant in
    turned_at c.self.inside.nodes.list c.self.inside.records.items c.index_mut.result.now c.swap.new.kept c.args.self.now _ c.args.store.now c.swap.new.self (c.moment.inside.0 - 1) (c.args.moment - 1)
    within c.index_mut.ensures.value c.self.view_is refl (ap (λ n. n - 1) c.moment.view_is)
    c.swap.ensures.exchanged c.swap.ensures.places c.swap.ensures.fits
