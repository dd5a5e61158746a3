-- A path of states, the records of its steps, and the way back over it. This project's own.
use Rattle.std.specs.Prelude.{List, [], ◌∷◌, Option}
use Rattle.zt_rows.specs.declared.keys.RowKey.{RowKey}
use Rattle.zt_rows.specs.declared.rows.Row.{Row}
use Rattle.zt_rows.specs.State.{State}
use Rattle.zt_rows.specs.Change.{before, exchange}

-- the record of each step of a path that begins at S
abbrev pub records_of : State → List State → List (List (RowKey × Option Row))
records_of S [] = []
records_of S (T ∷ Ts) = before S T ∷ records_of T Ts

-- the state at the end of a path that begins at S
abbrev pub end_of : State → List State → State
end_of S [] = S
end_of S (T ∷ Ts) = end_of T Ts

-- the state and the records after each record exchanged its rows with the state's, from the last to the first
abbrev pub exchange_back : State → List (List (RowKey × Option Row)) → State × List (List (RowKey × Option Row))
exchange_back S [] = (S, [])
exchange_back S (R ∷ Rs) =
    ((exchange (exchange_back S Rs).0 R).0, (exchange (exchange_back S Rs).0 R).1 ∷ (exchange_back S Rs).1)

-- the state and the records after each record exchanged its rows with the state's, from the first to the last
abbrev pub exchange_forth : State → List (List (RowKey × Option Row)) → State × List (List (RowKey × Option Row))
exchange_forth S [] = (S, [])
exchange_forth S (R ∷ Rs) =
    ((exchange_forth (exchange S R).0 Rs).0, (exchange S R).1 ∷ (exchange_forth (exchange S R).0 Rs).1)

-- the records that lead forth again over a path that begins at S
abbrev pub forth_of : State → List State → List (List (RowKey × Option Row))
forth_of S [] = []
forth_of S (T ∷ Ts) = before T S ∷ forth_of T Ts
