-- What a message has is made, and it is written.
use Rattle.zt_import.proofs.TrailLaws.{aside_after}
use Rattle.zt_import.proofs.adoption.Adoption.write_outside.Goals as goal

pub returns-in_ok-handles-in-Some-copied : goal.returns-in_ok-handles-in-Some-copied
returns-in_ok-handles-in-Some-copied c =
    aside_after c.write.result c.args.taken.now c.made.new.taken c.write.new.taken c.in_ok-handles-in-Some-copied.ensures c.write.ensures
