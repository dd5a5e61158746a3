-- What lines behind the first of a session text read as, whatever stands behind them.
use Rattle.std.specs.Prelude.{◌≡◌, ℕ, ◌==◌, ◌&&◌, Bool, not, nat_lt, List, [], ◌++◌, length, Option, Some, None, Ok}
use Rattle.std.specs.List.{list_all, flat_map}
use Rattle.std.specs.Option.{option_to_list}
use Rattle.zt_rows.specs.declared.calls.Call.{Call}
use Rattle.zt_history.specs.Tree.{Made, call_at}
use Rattle.zt_text.specs.Lines.{lines_of}
use Rattle.zt_text.specs.Session.{calls_in}
use Rattle.zt_import.specs.declared.trail.TrailStep.{TrailStep}

-- these bytes read as these calls, and behind them what follows
abbrev pub ReadsAs : List ℕ → List (ℕ × Call) → Type 0
ReadsAs bytes calls =
    (rest : List ℕ) (behind : List (ℕ × Call)) → ((number : ℕ) → calls_in number (lines_of rest) ≡ Ok behind)
    → (number : ℕ) → calls_in number (lines_of (bytes ++ rest)) ≡ Ok (calls ++ behind)

-- what is written now is what was written before, with bytes behind it that read as these calls
pub record Writes (old new : List ℕ) (calls : List (ℕ × Call)) : Type 0 where
  pub bytes : List ℕ
  pub behind : new ≡ old ++ bytes
  pub reads : ReadsAs bytes calls

-- the call of a step
abbrev pub moment_calls : List Made → Option ℕ → List (ℕ × Call)
moment_calls made None = []
moment_calls made (Some moment) = option_to_list (call_at made moment)

abbrev pub step_calls : List Made → TrailStep → List (ℕ × Call)
step_calls made step = moment_calls made step.moment

abbrev pub calls_by : List Made → List TrailStep → List (ℕ × Call)
calls_by made trail = flat_map (step_calls made) trail

-- it stands in one line behind a `#`
abbrev pub is_no_feed : ℕ → Bool
is_no_feed byte = not (byte == 10)

abbrev pub fits : List ℕ → Bool
fits comment = nat_lt (length comment) 140000 && list_all is_no_feed comment
