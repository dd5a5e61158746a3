-- The keys come one after another, until there are so many supports or no key is left.
use Rattle.std.proofs.Common.{◌≡◌, Some, refl, sym, ◌∙◌, ap, subst}
use Rattle.zt_rows.specs.Room.{next_key}
use Rattle.zt_queries.proofs.HoldLaws.{fewer_keys, walk-begins, walk-first, walk-goes}
use Rattle.zt_queries.proofs.KeyLaws.{IsWalkedTo, walked-on}
use Rattle.zt_queries.proofs.support_list.add_supports.Goals as goal

pub keys-init : goal.keys-init
keys-init c =
    let S = c.args.store.now.state in
    let first = ap (next_key S) c.rows_before-low.ensures in
    record {
      walked = walk-first c.args.part c.args.koid S (next_key S c.rows_before-low.result) first;
      so_far = walk-begins c.args.part c.args.koid S c.args.list.now.items (next_key S c.rows_before-low.result) first;
    }

pub keys-smaller : goal.keys-smaller
keys-smaller c =
    let S = c.args.store.now.state in
    fewer_keys S (next_key S c.keys.low) (next_key S (Some c.in-Some.key)) c.in-Some.key (sym c.after.ensures ∙ c.in-Some.is) c.keys.invariant.walked refl

pub keys-preserved : goal.keys-preserved
keys-preserved c =
    let S = c.args.store.now.state in
    let key = c.in-Some.key in
    let next = next_key S (Some key) in
    let here : next_key S c.keys.low ≡ Some key = sym c.after.ensures ∙ c.in-Some.is in
    record {
      walked = walked-on S key next (subst (IsWalkedTo S) here c.keys.invariant.walked) refl;
      so_far = walk-goes c.args.part c.args.koid S c.keys.list.items c.add_under.new.list.items _ (next_key S c.keys.low) next key
          here c.keys.invariant.walked refl c.in_ok-add_under.ensures c.keys.invariant.so_far;
    }
