-- The calls of a path with their moments. This project's own form.
use Rattle.std.specs.Prelude.{ℕ, List, Option}
use Rattle.std.specs.Option.{option_map}
use Rattle.std.specs.List.{filter_map}
use Rattle.zt_rows.specs.declared.calls.Call.{Call}
use Rattle.zt_history.specs.Tree.{Made, call_at, path}

-- the call of a moment with its process, behind the moment's number
abbrev pub numbered_call : List Made → ℕ → Option (ℕ × (ℕ × Call))
numbered_call made moment = option_map (λ call. (moment, call)) (call_at made moment)

-- those of all moments on the path to this one
abbrev pub numbered_calls_to : List Made → ℕ → List (ℕ × (ℕ × Call))
numbered_calls_to made moment = filter_map (numbered_call made) (path made moment)
