-- The note is the object's last one.
use Rattle.std.proofs.Common.{length, refl, ap, arith}
use Rattle.zt_history.proofs.NoteListLaws.{chained-pushed, same-chained}
use Rattle.zt_history.proofs.object_notes.note_chains.NoteChains.push.Goals as goal

pub invariant_of-self-2 : goal.invariant_of-self-2
invariant_of-self-2 c =
    chained-pushed c.self.inside.list.items c.push_reserved.new.self.items _ c.cover.new.last.items c.in_ok-number.number c.in_ok-number.number c.in_ok-end.end
    (rw c.reserve.ensures.items at c.push_reserved.ensures.items) refl refl (
    omega (
      arith,
      c.in_ok-end.ensures.same,
      c.len.ensures,
      c.push_reserved.ensures.len,
      ap length c.reserve.ensures.items,
      c.reserve.new.self.ok,
      c.push_reserved.new.self.ok,
      c.self.inside.list.ok,
    )
    )
    c.in_ok-cover.ensures.ok c.index.ensures
    (same-chained c.self.inside.list.items c.self.inside.last.items c.cover.new.last.items c.cover.ensures.same c.self.invariant)
