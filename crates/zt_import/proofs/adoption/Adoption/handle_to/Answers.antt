-- An object is made, and duplicates of its handle.
use Rattle.zt_import.proofs.TrailLaws.{aside_both}
use Rattle.zt_import.proofs.adoption.Adoption.handle_to.Goals as goal

pub returns : goal.returns
returns c =
    aside_both c.args.taken.now c.make.new.taken c.duplicate.new.taken c.in_ok-handle.ensures c.in_ok-duplicate.ensures
