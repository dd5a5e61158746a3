-- The lock is free for the first time, and each client has its pass.
use Rattle.once_cell.specs.declared.race.note.Note.{Note}
use Rattle.zt_rows.specs.declared.saved.Saved.{Saved}
use Rattle.std.proofs.Common.{◌≡◌, ap, ◌∙◌, sym}
use Rattle.once_cell.specs.Once.{cell_name}
use Rattle.zt_shared.specs.Sharing.{begun}
use Rattle.zt_shared.proofs.OpeningLaws.{noted-begun, handed-all, opened-locked}
use Rattle.zt_shared.proofs.opened_book.hand_over.Goals as goal

pub invariant_of-locked : goal.invariant_of-locked
invariant_of-locked g c =
    let told = c.again-begins.ensures.0 ∙ (c.hand_out-4.ensures.told ∙ (c.hand_out-3.ensures.told ∙ (c.hand_out-2.ensures.told ∙ c.hand_out.ensures.told))) in
    let note = c.requires.told in
    opened-locked c.what_was_loaded_is_loaded_again.ensures
    g.A.Beginning.base g.A.Beginning.clients (cell_name c.blanks.inside.base) c.args.blanks.clients c.again-begins.new.self c.args.book
    _ _ _ _ (ap (λ b. b.base) c.blanks.view_is ∙ c.requires.base.0) c.requires.base.1 c.requires.fresh c.log_replays.ensures
    (ap (λ n. n.cell) told ∙ (note.0 ∙ sym (ap (λ b. b.base) c.blanks.view_is))) (ap (λ n. n.known) told ∙ note.1)
    c.open-first.ensures.lock c.open-second.ensures.lock c.open-third.ensures.lock c.open-fourth.ensures.lock

pub returns-clause-passes : goal.returns-clause-passes
returns-clause-passes g c =
    let told = c.args.told in
    let known = c.requires.told.1 in
    let two = c.hand_out.ensures.told in
    let three = c.hand_out-2.ensures.told ∙ two in
    let four = c.hand_out-3.ensures.told ∙ three in
    let clients = c.blanks.inside.clients in
    let many : clients ≡ c.args.blanks.clients = ap (λ b. b.clients) c.blanks.view_is in
    let base : begun clients told.known ≡ c.args.book.session =
    noted-begun c.what_was_loaded_is_loaded_again.ensures c.args.blanks.clients clients c.args.book told.known (sym many) c.requires.fresh c.log_replays.ensures known in
    let at = λ (n : Note Saved). begun clients n.known in
    handed-all clients c.args.blanks.clients c.args.book.session _ _ _ _ _ _ _ _ _ many c.blanks.invariant
    c.requires.empty.0 c.hand_out.ensures.passes c.hand_out-2.ensures.passes c.hand_out-3.ensures.passes c.hand_out-4.ensures.passes
    base (ap at two ∙ base) (ap at three ∙ base) (ap at four ∙ base)

pub returns-clause-base : goal.returns-clause-base
returns-clause-base g c =
    let told = c.again-begins.ensures.1 ∙ (c.hand_out-4.ensures.told ∙ (c.hand_out-3.ensures.told ∙ (c.hand_out-2.ensures.told ∙ c.hand_out.ensures.told))) in
    ap (λ (n : Note Saved). begun g.A.Beginning.clients n.known) told
    ∙ noted-begun c.what_was_loaded_is_loaded_again.ensures c.args.blanks.clients g.A.Beginning.clients c.args.book c.args.told.known c.requires.base.1 c.requires.fresh c.log_replays.ensures c.requires.told.1
