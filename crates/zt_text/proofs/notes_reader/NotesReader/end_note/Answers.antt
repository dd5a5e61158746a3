use Rattle.std.proofs.Common.{◌≡◌, List, ℕ, ◌∷◌, [], ◌++◌, length, sym, ap, subst, ◌∙◌}
use Rattle.zt_text.specs.ProofsOnly.Notes.{AreEnds}
use Rattle.zt_text.proofs.PieceLemmas.{ends_and_last}
use Rattle.zt_text.proofs.NoteLemmas.{note_ended}
use Rattle.zt_text.proofs.notes_reader.NotesReader.end_note.Goals as goal

pub invariant_of-self-2 : goal.invariant_of-self-2
invariant_of-self-2 c =
    let notes = c.self.inside.notes.items in
    let ends = c.self.inside.ends in
    let at : c.push.new.self ≡ ends ++ (length notes ∷ []) = c.in_ok-push.ensures.pushed ∙ ap (λ n. ends ++ (n ∷ [])) (c.len.ensures ∙ c.self.inside.notes.ok.0) in
    let P : List ℕ → Type 0 = λ es. AreEnds 0 es (length notes) in
    subst P (sym at) (ends_and_last 0 ends (length notes) c.self.invariant)

pub returns : goal.returns
returns c =
    let notes = c.self.inside.notes.items in
    let ends = c.self.inside.ends in
    let at : c.push.new.self ≡ ends ++ (length notes ∷ []) = c.in_ok-push.ensures.pushed ∙ ap (λ n. ends ++ (n ∷ [])) (c.len.ensures ∙ c.self.inside.notes.ok.0) in
    rw (← c.self.view_is) (note_ended notes ends c.self.inside.rest.items c.self.inside.names.items c.push.new.self at)
