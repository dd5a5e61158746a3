-- The calls of all lines, whose processes have their numbers.
use Rattle.zt_logs.specs.Entries.{entries_of}
use Rattle.zt_logs.proofs.ReadLaws.{read_all_calls, same_but_processes}
use Rattle.zt_logs.proofs.json_lines.read_log.Goals as goal

pub returns-clause-calls : goal.returns-clause-calls
returns-clause-calls c =
    same_but_processes (entries_of c.args.text.now) c.take_lines.new.log.calls.items c.finish.new.log.calls.items c.in-Ok-finish.ensures.calls
    (rw c.without_mark.ensures at (read_all_calls c.without_mark.result.now c.take_lines.new.log.lines c.take_lines.new.log.calls.items c.in_ok-take_lines.ensures))
