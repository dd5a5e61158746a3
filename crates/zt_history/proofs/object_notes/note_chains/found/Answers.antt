-- Each note of the object is looked at once, the last first.
use Rattle.std.proofs.Common.{◌≡◌, ◌-◌, ◌<◌, ◌&&◌, true, false, suc, length, refl, sym, ap, subst, ◌∙◌, arith}
use Rattle.std.specs.Prelude.{slice_get, Some}
use Rattle.std.proofs.lemmas.Option.{slice_get_read}
use Rattle.zt_rows.specs.Tests.{among}
use Rattle.zt_history.specs.Tree.{path}
use Rattle.zt_history.specs.ProofsOnly.ObjectNotes.{note_as, tells}
use Rattle.zt_history.proofs.NoteListLaws.{IsSearched, last_of-early, on_path, searched-found, searched-less, searched-next, searched-none, searched-start}
use Rattle.zt_history.proofs.object_notes.note_chains.found.Goals as goal
use Rattle.zt_history.proofs.object_notes.note_chains.found.Goals.{else-tells-via-then-tells+else-eq, else-tells-via-else-tells}

pub loop-next-init : goal.loop-next-init
loop-next-init c = searched-start c.args.list.now.items c.args.moments.now.made c.args.what c.args.koid c.args.at c.end_of-next.result (c.end_of-next.ensures ∙ c.requires.chained.ends c.args.koid)

pub index-note-requires : goal.index-note-requires
index-note-requires c =
    omega (
      arith,
      c.loop-next-test.true,
      c.loop-next.invariant.next_is,
      c.loop-next.invariant.within,
      last_of-early c.args.koid c.args.list.now.items c.loop-next.invariant.n,
      c.args.list.now.ok,
    )

pub returns-then-eq : goal.returns-then-eq
returns-then-eq c =
    let within : c.loop-next.next - 1 < length c.args.list.now.items =
    omega (arith, c.loop-next-test.true, c.loop-next.invariant.next_is, c.loop-next.invariant.within, last_of-early c.args.koid c.args.list.now.items c.loop-next.invariant.n) in
    let place : c.loop-next.next ≡ suc (c.loop-next.next - 1) = omega (arith, c.loop-next-test.true) in
    let there : slice_get c.args.list.now.items (c.loop-next.next - 1) ≡ Some c.index-note.result.now =
    slice_get_read c.args.list.now.items (length c.args.list.now.items) (c.loop-next.next - 1) c.index-note.result.now refl within c.index-note.ensures in
    let on : among (path c.args.moments.now.made c.args.at) c.index-note.result.now.moment ≡ true =
    on_path c.args.list.now.items c.args.moments.now.made c.limits.ensures.falls c.requires.rising c.args.at (c.loop-next.next - 1) c.index-note.result.now there c.no_later.result
    c.no_later.ensures.early c.no_later.ensures.same
    ∙ sym c.eq.ensures ∙ c.if-eq.true in
    searched-found c.args.list.now.items c.args.moments.now.made c.args.what c.args.koid c.args.at c.loop-next.next c.requires.chained.earlier c.loop-next.invariant (c.loop-next.next - 1)
    c.index-note.result.now place there (λ i. (sym c.tells.ensures ∙ c.if-tells.true) i && on i)

pub loop-next-preserved : goal.loop-next-preserved
loop-next-preserved c =
    let within : c.loop-next.next - 1 < length c.args.list.now.items =
    omega (arith, c.loop-next-test.true, c.loop-next.invariant.next_is, c.loop-next.invariant.within, last_of-early c.args.koid c.args.list.now.items c.loop-next.invariant.n) in
    let place : c.loop-next.next ≡ suc (c.loop-next.next - 1) = omega (arith, c.loop-next-test.true) in
    let there : slice_get c.args.list.now.items (c.loop-next.next - 1) ≡ Some c.index-note.result.now =
    slice_get_read c.args.list.now.items (length c.args.list.now.items) (c.loop-next.next - 1) c.index-note.result.now refl within c.index-note.ensures in
    let passed : (tells c.args.what (note_as c.index-note.result.now) && among (path c.args.moments.now.made c.args.at) c.index-note.result.now.moment) ≡ false =
    elim c.else-tells.branch [
      | else-tells-via-then-tells+else-eq w ↦
          let off : among (path c.args.moments.now.made c.args.at) c.index-note.result.now.moment ≡ false =
          on_path c.args.list.now.items c.args.moments.now.made c.limits.ensures.falls c.requires.rising c.args.at (c.loop-next.next - 1) c.index-note.result.now there w.no_later.result
          w.no_later.ensures.early w.no_later.ensures.same
          ∙ sym w.eq.ensures ∙ w.if-eq.false in
          (λ i. (sym c.tells.ensures ∙ w.if-tells.true) i && off i)
      | else-tells-via-else-tells w ↦
          ap (λ b. b && among (path c.args.moments.now.made c.args.at) c.index-note.result.now.moment) (sym c.tells.ensures ∙ w.if-tells.false)
    ] in
    searched-next c.args.list.now.items c.args.moments.now.made c.args.what c.args.koid c.args.at c.loop-next.next c.requires.chained.earlier c.loop-next.invariant (c.loop-next.next - 1)
    c.index-note.result.now place there passed

pub loop-next-smaller : goal.loop-next-smaller
loop-next-smaller c =
    let within : c.loop-next.next - 1 < length c.args.list.now.items =
    omega (arith, c.loop-next-test.true, c.loop-next.invariant.next_is, c.loop-next.invariant.within, last_of-early c.args.koid c.args.list.now.items c.loop-next.invariant.n) in
    let place : c.loop-next.next ≡ suc (c.loop-next.next - 1) = omega (arith, c.loop-next-test.true) in
    let there : slice_get c.args.list.now.items (c.loop-next.next - 1) ≡ Some c.index-note.result.now =
    slice_get_read c.args.list.now.items (length c.args.list.now.items) (c.loop-next.next - 1) c.index-note.result.now refl within c.index-note.ensures in
    searched-less c.args.list.now.items c.args.moments.now.made c.args.what c.args.koid c.args.at c.loop-next.next c.requires.chained.earlier c.loop-next.invariant (c.loop-next.next - 1)
    c.index-note.result.now place there

pub returns : goal.returns
returns c =
    let none : c.loop-next.next ≡ 0 = omega (arith, c.loop-next-test.false) in
    searched-none c.args.list.now.items c.args.moments.now.made c.args.what c.args.koid c.args.at
    (subst (λ n. IsSearched c.args.list.now.items c.args.moments.now.made c.args.what c.args.koid c.args.at n) none c.loop-next.invariant)
