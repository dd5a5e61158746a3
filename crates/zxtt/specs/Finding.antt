-- The calls among which a text is looked for.
use Rattle.std.specs.Prelude.{None, false}
use Rattle.zt_rows.specs.Room.{most_calls}
use Rattle.zt_look.specs.declared.call_list.CallFilter.{CallFilter}

-- every call of a path
abbrev pub every_call : CallFilter
every_call = record { first = 1; last = most_calls; failed = false; process = None; object = None }
