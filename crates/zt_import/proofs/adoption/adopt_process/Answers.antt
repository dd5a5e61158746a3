-- The process that was made stands for the log's.
use Rattle.std.specs.Option.{option_copied}
use Rattle.zt_import.proofs.TrailLaws.{adopting-one}
use Rattle.zt_import.proofs.adoption.adopt_process.Goals as goal

pub returns : goal.returns
returns c =
    adopting-one c.args.taken.now c.ask.new.self c.args.numbers.now.processes c.learn_process.new.self.processes c.args.number c.in_ok-moment.moment
    (option_copied c.reply.result) c.in_ok-moment.ensures.one c.reply.ensures c.in_ok-learn_process.ensures
