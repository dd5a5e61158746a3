-- A call that the log does not have is asked.
use Rattle.zt_import.proofs.TrailLaws.{aside_ok}
use Rattle.zt_import.proofs.taken.Taken.ask_aside.Goals as goal

pub returns : goal.returns
returns c = aside_ok c.ask.result c.args.self.now c.ask.new.self c.args.origin c.requires c.ask.ensures.one
