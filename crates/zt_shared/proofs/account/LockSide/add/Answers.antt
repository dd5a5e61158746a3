use Rattle.std.proofs.Common.{◌≡◌, ◌<◌, ◌∷◌, ◌++◌, [], length, get_or, Some, refl, sym, ◌∙◌, ap, arith}
use Rattle.std.proofs.lemmas.List.{length_push}
use Rattle.zt_shared.specs.declared.account.NoteSlot.{NoteSlot}
use Rattle.zt_shared.specs.Accounts.{most, known_of, somes}
use Rattle.zt_shared.proofs.AccountLaws.{noted-length, noted-more, lock-more, somes-more, name-at}
use Rattle.zt_shared.proofs.account.LockSide.add.Goals as goal

pub push_reserved-requires : goal.push_reserved-requires
push_reserved-requires g c = c.in-Ok.ensures.room_of_ours

pub push_reserved-requires-2 : goal.push_reserved-requires-2
push_reserved-requires-2 g c = c.in-Ok.ensures.room_of_theirs

pub push_reserved-requires-3 : goal.push_reserved-requires-3
push_reserved-requires-3 g c = c.in-Ok.ensures.room_of_rows

pub invariant_of-self-2 : goal.invariant_of-self-2
invariant_of-self-2 g c =
    let before = c.self.inside.notes.items in
    let rows = somes (known_of before) in
    let note_slot : NoteSlot g.row.T.Denot = record { number = c.len-at.result; note = c.again.result } in
    let many : length before ≡ length rows = noted-length g.N.Naming.cells before rows c.self.invariant.1 in
    let at : c.len-at.result ≡ length rows = c.len-at.ensures ∙ (c.room.new.ours.ok.0 ∙ (ap length c.room.ensures.ours ∙ many)) in
    let room : length rows < most = rw (ap (λ v. v.rows) c.self.view_is) c.requires.room in
    let within : c.len-at.result < length g.N.Naming.cells = omega (arith, at, room, c.self.invariant.1.full) in
    let cell : c.again.result.cell ≡ get_or g.N.Naming.cells (length rows) 0 =
    ap (λ n. n.cell) c.again.ensures.1 ∙ (c.in-Some.ensures.0 ∙ (name-at c.self.inside.cells.items g.N.Naming.cells c.len-at.result c.index.result.now c.self.invariant.0 within c.index.ensures ∙ ap (λ i. get_or g.N.Naming.cells i 0) at)) in
    let known : c.again.result.known ≡ Some c.args.shown.value = ap (λ n. n.known) c.again.ensures.1 ∙ c.in-Some.ensures.1 in
    let grown : c.push_reserved.new.self.items ≡ before ++ note_slot ∷ [] = c.push_reserved.ensures.items ∙ ap (λ w. w ++ note_slot ∷ []) c.room.ensures.ours in
    rw grown (
      c.self.invariant.0,
      lock-more g.N.Naming.cells before note_slot c.args.shown.value c.self.invariant.1 room cell known,
      omega (arith, c.add.ensures.total, c.audit.ensures.total, c.self.invariant.2, length_push before note_slot),
    )

pub invariant_of-side-2 : goal.invariant_of-side-2
invariant_of-side-2 g c =
    let before = c.side.inside.notes.items in
    let rows = c.side.inside.rows.items in
    let ours = c.self.inside.notes.items in
    let note_slot : NoteSlot g.row.T.Denot = record { number = c.len-at.result; note = c.again.new.self } in
    let same : length ours ≡ length before = omega (arith, c.self.invariant.2, c.side.invariant.3, c.audit.ensures.whole (c.side.invariant.1 ∙ sym c.side.invariant.2)) in
    let our-many : length ours ≡ length (somes (known_of ours)) = noted-length g.N.Naming.cells ours (somes (known_of ours)) c.self.invariant.1 in
    let many : length before ≡ length rows = noted-length g.N.Naming.cells before rows c.side.invariant.0 in
    let at : c.len-at.result ≡ length rows = c.len-at.ensures ∙ (c.room.new.ours.ok.0 ∙ (ap length c.room.ensures.ours ∙ (same ∙ many))) in
    let our-room : length (somes (known_of ours)) < most = rw (ap (λ v. v.rows) c.self.view_is) c.requires.room in
    let room : length rows < most = omega (arith, our-room, our-many, same, many) in
    let within : c.len-at.result < length g.N.Naming.cells = omega (arith, at, room, c.side.invariant.0.full) in
    let cell : c.again.new.self.cell ≡ get_or g.N.Naming.cells (length rows) 0 =
    ap (λ n. n.cell) c.again.ensures.0 ∙ (c.in-Some.ensures.0 ∙ (name-at c.self.inside.cells.items g.N.Naming.cells c.len-at.result c.index.result.now c.self.invariant.0 within c.index.ensures ∙ ap (λ i. get_or g.N.Naming.cells i 0) at)) in
    let known : c.again.new.self.known ≡ Some c.args.row = ap (λ n. n.known) c.again.ensures.0 ∙ (c.in-Some.ensures.1 ∙ ap Some c.requires.equal) in
    let grown : c.push_reserved-2.new.self.items ≡ before ++ note_slot ∷ [] = c.push_reserved-2.ensures.items ∙ ap (λ w. w ++ note_slot ∷ []) c.room.ensures.theirs in
    let rows-grown : c.push_reserved-3.new.self.items ≡ rows ++ c.args.row ∷ [] = c.push_reserved-3.ensures.items ∙ ap (λ w. w ++ c.args.row ∷ []) c.room.ensures.rows in
    rw (grown, rows-grown) (
      noted-more g.N.Naming.cells before rows note_slot c.args.row c.side.invariant.0 room cell known,
      c.add.ensures.parts ∙ (c.audit.ensures.parts ∙ c.side.invariant.1),
      c.side.invariant.2,
      omega (arith, c.add.ensures.amount, c.audit.ensures.amount, c.side.invariant.3, length_push before note_slot),
    )

pub returns-clause-lock : goal.returns-clause-lock
returns-clause-lock g c =
    let before = c.self.inside.notes.items in
    let note_slot : NoteSlot g.row.T.Denot = record { number = c.len-at.result; note = c.again.result } in
    let known : c.again.result.known ≡ Some c.args.shown.value = ap (λ n. n.known) c.again.ensures.1 ∙ c.in-Some.ensures.1 in
    let grown : c.push_reserved.new.self.items ≡ before ++ note_slot ∷ [] = c.push_reserved.ensures.items ∙ ap (λ w. w ++ note_slot ∷ []) c.room.ensures.ours in
    ap (λ w. somes (known_of w)) grown ∙ (somes-more before note_slot c.args.shown.value known ∙ rw (ap (λ v. v.rows) c.self.view_is, c.requires.equal) refl)
