-- The object's last note is then its earlier one.
use Rattle.std.proofs.Common.{◌<◌, length, refl, arith, ap, ◌∙◌}
use Rattle.zt_history.specs.ProofsOnly.Branches.{without_last}
use Rattle.zt_history.proofs.NoteListLaws.{chained-popped, popped-notes}
use Rattle.zt_history.proofs.object_notes.note_chains.NoteChains.drop_last.Goals as goal

pub index_mut-requires : goal.index_mut-requires
index_mut-requires c =
    let within : c.in-Some.note.koid < length c.self.inside.last.items =
    (chained-popped c.self.inside.list.items c.pop.new.self.items c.in-Some.note c.self.inside.last.items c.in-Some.note.koid c.in-Some.note.earlier c.in-Some.ensures.items
    refl refl c.self.invariant).0 in
    omega (arith, within, c.self.inside.last.ok)

pub invariant_of-self : goal.invariant_of-self
invariant_of-self c =
    (chained-popped c.self.inside.list.items c.pop.new.self.items c.in-Some.note c.self.inside.last.items c.in-Some.note.koid c.in-Some.note.earlier c.in-Some.ensures.items
    refl refl c.self.invariant).1

pub returns : goal.returns
returns c = popped-notes c.self.inside.list.items c.pop.new.self.items c.in-Some.note c.in-Some.ensures.items ∙ ap without_last c.self.view_is
