-- Each number from the first to the last that was given out.
use Rattle.std.proofs.Common.{◌+◌, ◌++◌, Some, ◌∙◌, ap, arith}
use Rattle.zt_rows.specs.State.{row}
use Rattle.zt_look.specs.ProofsOnly.RowWalk.{is_owned, key_of, under}
use Rattle.zt_look.proofs.RowWalkLaws.{walk-more}
use Rattle.zt_look.proofs.ObjectRowLaws.{owned-first, owned-passes, owned-gap, owned-last}
use Rattle.zt_look.proofs.object_rows.owned_from.Goals as goal

pub loop-number-init : goal.loop-number-init
loop-number-init c =
    owned-first c.args.store.now.state c.args.owned c.args.koid c.args.first c.new-list.result.items c.requires.first c.new-list.ensures.items

pub loop-number-preserved : goal.loop-number-preserved
loop-number-preserved c =
    walk-more c.args.store.now.state (is_owned c.args.owned c.args.koid) (key_of c.args.owned c.args.koid c.loop-number.number)
    (Some (key_of c.args.owned c.args.koid (c.loop-number.number + 1))) c.loop-number.list.items c.push_row.new.list.items c.loop-number.invariant
    (c.in_ok-push_row.ensures ∙ ap (λ k. c.loop-number.list.items ++ under k (row c.args.store.now.state k)) c.key_of.ensures)
    (λ r e. owned-passes c.args.owned c.args.koid c.loop-number.number r) (owned-gap c.args.store.now.state c.args.owned c.args.koid c.loop-number.number)

pub returns : goal.returns
returns c =
    owned-last c.args.store.now.state c.args.owned c.args.koid c.loop-number.number c.loop-number.list.items c.requires.sound
    (omega (arith, c.loop-number-test.false, c.next_of-end.ensures)) c.loop-number.invariant
