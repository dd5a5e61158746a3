use Rattle.std.proofs.Common.{◌≡◌, ◌++◌, length}
use Rattle.zt_text.specs.Answers.{as_line}
use Rattle.zt_text.proofs.PieceLemmas.{ends_more}
use Rattle.zt_text.proofs.NoteLemmas.{note_longer, on_put}
use Rattle.zt_text.proofs.notes_reader.NotesReader.keep_waiting.Goals as goal

pub invariant_of-self : goal.invariant_of-self
invariant_of-self c =
    ends_more 0 c.self.inside.ends (length c.self.inside.notes.items) (length c.put_line.new.bytes.items) c.self.invariant c.put_line.ensures.longer

pub returns : goal.returns
returns c =
    on_put c.put_line.result (c.put_line.new.bytes.items ≡ c.self.inside.notes.items ++ as_line c.args.line.now) _
    (λ put. rw (← c.self.view_is)
    (note_longer c.self.inside.notes.items c.self.inside.ends c.self.inside.rest.items c.self.inside.names.items c.put_line.new.bytes.items (as_line c.args.line.now)
    c.self.invariant put))
    c.put_line.ensures.put
