use Rattle.std.proofs.Common.{◌≡◌, ◌≤◌, ◌-◌, suc, drop, length, ap, sym, ◌∙◌, arith}
use Rattle.zt_text.specs.ProofsOnly.Notes.{end_after}
use Rattle.zt_text.proofs.PieceLemmas.{ends_ascend, end_within, piece_cut}
use Rattle.zt_text.proofs.notes.piece.Goals as goal

pub split_at-requires : goal.split_at-requires
split_at-requires c =
    rw c.after-end.ensures (end_within 0 c.args.ends.now (length c.args.bytes.now) c.args.number c.requires.ascend)

pub split_at-requires-2 : goal.split_at-requires-2
split_at-requires-2 c =
    let next : suc (c.args.number - 1) ≡ c.args.number = (let some = c.requires.some in omega arith) in
    let ascend : end_after (c.args.number - 1) 0 c.args.ends.now ≤ end_after c.args.number 0 c.args.ends.now =
    rw next at (ends_ascend 0 c.args.ends.now (length c.args.bytes.now) (c.args.number - 1) c.requires.ascend) in
    let from : c.after-from.result ≡ end_after (c.args.number - 1) 0 c.args.ends.now = c.after-from.ensures in
    let end : c.after-end.result ≡ end_after c.args.number 0 c.args.ends.now = c.after-end.ensures in
    let long : length c.split_at.result.0.now ≡ c.after-end.result = c.split_at.ensures.front_len in
    omega arith

pub returns : goal.returns
returns c =
    let next : suc (c.args.number - 1) ≡ c.args.number = (let some = c.requires.some in omega arith) in
    let inside = c.requires.inside in
    let some = c.requires.some in
    c.split_at-2.ensures.back ∙ ap (drop c.after-from.result) c.split_at.ensures.front
    ∙ piece_cut c.args.ends.now c.args.bytes.now (c.args.number - 1) c.after-from.result c.after-end.result (omega arith) c.requires.ascend c.after-from.ensures (c.after-end.ensures ∙ ap (λ n. end_after n 0 c.args.ends.now) (sym next))
