use Rattle.zt_text.proofs.SavedLemmas.{cursors_put}
use Rattle.zt_text.proofs.printed_saved.put_cursors.Goals as goal

pub loop-place-preserved : goal.loop-place-preserved
loop-place-preserved c =
    cursors_put c.args.text.now.items c.loop-place.text.items c.put_cursor.new.text.items c.args.cursors.now c.loop-place.place c.index-cursors-place.result
    c.loop-place.invariant c.in_ok-put_cursor.ensures c.loop-place-test.true c.index-cursors-place.is
