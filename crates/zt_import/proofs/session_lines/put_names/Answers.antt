-- The names of processes and those of handles are skipped.
use Rattle.std.proofs.Common.{[], string_bytes}
use Rattle.zt_import.proofs.TextLaws.{writes-behind}
use Rattle.zt_import.proofs.session_lines.put_names.Goals as goal

pub returns : goal.returns
returns c =
    writes-behind (string_bytes c.args.text.now) (string_bytes c.put_process_names.new.text) (string_bytes c.put_handle_names.new.text) []
    c.in_ok-put_process_names.ensures c.in_ok-put_handle_names.ensures
