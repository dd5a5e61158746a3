-- A store that stands at another state, and rows that suit their keys. Used by proofs only.
use Rattle.std.specs.Prelude.{List, [], ◌∷◌, Option, ⊤}
use Rattle.zt_rows.specs.declared.keys.RowKey.{RowKey}
use Rattle.zt_rows.specs.declared.rows.Row.{Row}
use Rattle.zt_rows.specs.State.{State}
use Rattle.zt_rows.specs.Room.{SuitsKey}
use Rattle.zt_store.specs.StoreView.{Stored}

-- the store stands at another state, with the same places
abbrev pub standing : Stored → State → Stored
standing s T = record { state = T; places = s.places }

-- each row, or none, suits its key
abbrev pub AllSuit : List (RowKey × Option Row) → Type 0
AllSuit [] = ⊤
AllSuit (e ∷ es) = SuitsKey e.0 e.1 × AllSuit es
