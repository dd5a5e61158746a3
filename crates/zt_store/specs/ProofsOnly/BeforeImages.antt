-- The before-images of a step, each under its key, and for how many there is room. Used by proofs only.
use Rattle.std.specs.Prelude.{ℕ, List}
use Rattle.zt_rows.specs.declared.keys.RowKey.{RowKey}
use Rattle.zt_rows.specs.declared.rows.Row.{Row}

pub record Firsts : Type 0 where
  pub rows : List (RowKey × Row)
  pub room : ℕ
