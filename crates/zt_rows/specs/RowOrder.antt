-- Each row under its key changed, or taken out: the rows stay in the order of their keys.
use Rattle.std.specs.Prelude.{List, [], ◌∷◌, Option, None, Some}
use Rattle.zt_rows.specs.declared.keys.RowKey.{RowKey}
use Rattle.zt_rows.specs.declared.rows.Row.{Row}

abbrev pub kept : RowKey → Option Row → List (RowKey × Row) → List (RowKey × Row)
kept k (Some r) es = (k, r) ∷ es
kept k None es = es

-- each row r under a key k becomes f k r, or goes
abbrev pub changed_rows : (RowKey → Row → Option Row) → List (RowKey × Row) → List (RowKey × Row)
changed_rows f [] = []
changed_rows f (e ∷ es) = kept e.0 (f e.0 e.1) (changed_rows f es)
