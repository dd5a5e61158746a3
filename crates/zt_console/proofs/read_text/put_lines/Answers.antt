-- The calls are loaded, where all that are left are.
use Rattle.std.proofs.Common.{◌∙◌, ap, sym}
use Rattle.zt_text.specs.SessionCalls.{LinesLeft}
use Rattle.zt_console.specs.ProofsOnly.LoadedText.{with_left}
use Rattle.zt_console.proofs.ReadLaws.{loaded_where}
use Rattle.zt_console.proofs.read_text.put_lines.Goals as goal

pub returns : goal.returns
returns c =
    loaded_where c.args.lines.now c.args.row.now c.put_calls.new.row c.of_lines.result c.put_calls.result c.is_ok.result c.of_lines.ensures c.is_ok.ensures.value
    c.put_calls.ensures.ok
