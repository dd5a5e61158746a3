-- What fits a store: each of some records.
use Rattle.std.specs.Prelude.{Bool, true, ◌&&◌, List, [], ◌∷◌, Option}
use Rattle.zt_rows.specs.declared.keys.RowKey.{RowKey}
use Rattle.zt_rows.specs.declared.rows.Row.{Row}
use Rattle.zt_store.specs.Places.{Places, fits}

-- each of the records fits
abbrev pub all_fit : Places → List (List (RowKey × Option Row)) → Bool
all_fit p [] = true
all_fit p (R ∷ Rs) = fits p R && all_fit p Rs
