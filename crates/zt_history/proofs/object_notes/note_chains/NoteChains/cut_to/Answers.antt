-- The last note goes while there are more.
use Rattle.std.proofs.Common.{arith}
use Rattle.zt_history.proofs.NoteListLaws.{first-all, first-left}
use Rattle.zt_history.proofs.object_notes.note_chains.NoteChains.cut_to.Goals as goal

pub loop-self-preserved : goal.loop-self-preserved
loop-self-preserved c =
    first-left c.args.self.now c.loop-self.self c.drop_last.new.self c.args.count (omega (arith, c.loop-self-test.true, c.len.ensures)) c.drop_last.ensures c.loop-self.invariant

pub returns : goal.returns
returns c = first-all c.args.self.now c.loop-self.self c.args.count (omega (arith, c.loop-self-test.false, c.len.ensures)) c.loop-self.invariant
