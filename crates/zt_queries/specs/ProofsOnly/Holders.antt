-- What keeps an object, as it is gathered: row by row, each kind of support for itself. This project's own.
-- Used by proofs only.
use Rattle.std.specs.Prelude.{◌≡◌, ◌<◌, ◌++◌, ◌-◌, ◌^◌, ℕ, List, [], ◌∷◌, Option, None, Some, cond, length}
use Rattle.std.specs.List.{filter_map, flat_map}
use Rattle.std.specs.Ordering.{is_eq}
use Rattle.zt_rows.specs.declared.keys.RowKey.{RowKey}
use Rattle.zt_rows.specs.declared.keys.RowKey.TheVariants as key
use Rattle.zt_rows.specs.declared.rows.Row.{Row}
use Rattle.zt_rows.specs.declared.supports.Support.{Support}
use Rattle.zt_rows.specs.Change.{keys}
use Rattle.zt_rows.specs.Keys.{rowkey_cmp}
use Rattle.zt_rows.specs.State.{State}
use Rattle.zt_rows.specs.Support.{entry_support, message_supports, child_support}
use Rattle.zt_queries.specs.declared.support_list.Source.{Source}
use Rattle.zt_queries.specs.declared.support_list.Source.TheVariants as part

-- the supports of this kind that one row gives x
abbrev pub supports_by : Source → ℕ → RowKey × Row → List Support
supports_by part.Entries x e = filter_map (entry_support x) (e ∷ [])
supports_by part.Messages x e = message_supports x e
supports_by part.Children x e = filter_map (child_support x) (e ∷ [])

-- the supports of this kind that the row under a key gives x, none where there is no row
abbrev pub supports_at : Source → ℕ → RowKey → Option Row → List Support
supports_at which x k (Some r) = supports_by which x (k, r)
supports_at which x k None = []

-- the supports of this kind that all rows give x
abbrev pub supports_in : Source → ℕ → State → List Support
supports_in which x S = flat_map (supports_by which x) S.rows

-- the key behind which the rows begin that may give supports of this kind
abbrev pub rows_before : Source → Option RowKey
rows_before part.Entries = Some (key.Object (2 ^ 64 - 1))
rows_before part.Messages = Some (key.Entry (2 ^ 64 - 1) (2 ^ 32 - 1))
rows_before part.Children = None

-- the supports were put behind the old ones, all of them or at least so many that there are `most`
pub record AddsUpTo (old part : List Support) (most : ℕ) (new : List Support) : Type 0 where
  pub left : List Support
  pub whole : new ++ left ≡ old ++ part
  pub ended : length new < most → left ≡ []

-- the keys from this one on
abbrev pub keys_from : RowKey → List RowKey → List RowKey
keys_from k [] = []
keys_from k (q ∷ qs) = cond (is_eq (rowkey_cmp k q)) (q ∷ qs) (keys_from k qs)

-- the keys of S from the next one on
abbrev pub keys_left : State → Option RowKey → List RowKey
keys_left S (Some k) = keys_from k (keys S)
keys_left S None = []
