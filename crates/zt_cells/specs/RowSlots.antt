-- Rows that keep also that there is none, in the bytes of a row. Counters stand under their own key alone, and always do: so
-- under any other key a row of counters stands for none.
use Rattle.std.specs.Prelude.{Option, None, Some}
use Rattle.zt_rows.specs.declared.keys.RowKey.{RowKey}
use Rattle.zt_rows.specs.declared.keys.RowKey.TheVariants as key
use Rattle.zt_rows.specs.declared.rows.Row.{Row}
use Rattle.zt_rows.specs.declared.rows.Row.TheVariants as rows

-- what a row stands for under another key than that of the counters
abbrev pub row_in : Row → Option Row
row_in (rows.Counters _) = None
row_in row = Some row

-- what a row stands for under a key
abbrev pub decode_slot : RowKey → Row → Option Row
decode_slot key.Counters row = Some row
decode_slot _ row = row_in row
