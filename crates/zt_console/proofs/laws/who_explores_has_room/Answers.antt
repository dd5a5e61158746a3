-- The book that is asked has room.
use Rattle.zt_console.proofs.ExploredLaws.{never-full}
use Rattle.zt_console.proofs.laws.who_explores_has_room.Goals as goal

pub returns : goal.returns
returns c = never-full
