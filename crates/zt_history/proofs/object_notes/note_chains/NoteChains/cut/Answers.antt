-- The last note is one of the moment, and goes.
use Rattle.std.proofs.Common.{sym, ◌∙◌}
use Rattle.zt_history.proofs.NoteListLaws.{ends-some, gone-cut, gone-next, gone-none}
use Rattle.zt_history.proofs.object_notes.note_chains.NoteChains.cut.Goals as goal

pub loop-moment-init : goal.loop-moment-init
loop-moment-init c = gone-none c.args.self.now c.args.moment

pub drop_last-requires : goal.drop_last-requires
drop_last-requires c = ends-some c.args.moment c.loop-moment.self (sym c.ends_at.ensures ∙ c.loop-moment-test.true)

pub loop-moment-preserved : goal.loop-moment-preserved
loop-moment-preserved c =
    gone-next c.args.self.now c.loop-moment.self c.drop_last.new.self c.args.moment (sym c.ends_at.ensures ∙ c.loop-moment-test.true) c.drop_last.ensures c.loop-moment.invariant

pub returns : goal.returns
returns c = gone-cut c.args.self.now c.loop-moment.self c.args.moment c.loop-moment.invariant (sym c.ends_at.ensures ∙ c.loop-moment-test.false)
