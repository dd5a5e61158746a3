-- What happens to an object between one state and the next: that it is made, that it ends, that its peer is
-- closed, that it is leaked; and the paths over which such moments are looked for. Signals as in Fuchsia's
-- reference of the channel and event pair objects; the four happenings are this project's own.
use Rattle.std.specs.Prelude.{◌≡◌, ℕ, Bool, true, not, ◌&&◌, if◌then◌else◌, ⊤, List, [], ◌∷◌, Option, None}
use Rattle.std.specs.List.{last_or}
use Rattle.zt_rows.specs.declared.calls.Call.{Call}
use Rattle.zt_rows.specs.State.{State}
use Rattle.zt_rows.specs.Reads.{object, is_live, on_object, has_live_process}
use Rattle.zt_rows.specs.Tests.{exists}
use Rattle.zt_rows.specs.Step.{IsCall, step}
use Rattle.zt_history.specs.RowHappenings.{is_cut_off}
use Rattle.zt_queries.specs.Leaks.{is_leaked}

-- ---- tests of one state

-- it exists and has not ended; what is no process or job has not ended as long as it exists
abbrev pub lives : State → ℕ → Bool
lives S x = on_object (λ o. is_live o.life) (object S x)

-- it is an endpoint on which the signal stands that its peer is closed
abbrev pub lacks_peer : State → ℕ → Bool
lacks_peer S x = on_object is_cut_off (object S x)

-- ---- what happens to the object x between S and T

-- it did not exist, and now does
abbrev pub made : ℕ → State → State → Bool
made x S T = not (exists S x) && exists T x

-- it existed and had not ended, and now it has ended or is gone
abbrev pub ended : ℕ → State → State → Bool
ended x S T = lives S x && not (lives T x)

-- no signal said that its peer is closed, and now one does
abbrev pub peer_closed : ℕ → State → State → Bool
peer_closed x S T = not (lacks_peer S x) && lacks_peer T x

-- it was not leaked, and now is
abbrev pub leaked : ℕ → State → State → Bool
leaked x S T = not (is_leaked S x) && is_leaked T x

-- ---- paths

-- T is what a call of a process that runs makes of S
pub record IsCallStep (S T : State) : Type 0 where
  pub process : ℕ
  pub call : Call
  pub live : has_live_process S process ≡ true
  pub is : IsCall call
  pub gives : T ≡ (step S process call).0

-- a path that begins at S: its moments as they rise, each with its state, which is what a call makes of the one
-- before it
abbrev pub IsCallPath : State → List (ℕ × State) → Type 0
IsCallPath S [] = ⊤
IsCallPath S ((n, T) ∷ path) = IsCallStep S T × IsCallPath T path

-- the moments of a path that begins at S at which it happens
abbrev pub moments : (State → State → Bool) → State → List (ℕ × State) → List ℕ
moments happens S [] = []
moments happens S ((n, T) ∷ path) =
    let rest = moments happens T path in
    if happens S T then n ∷ rest else rest

-- the last of these moments, if there is one
abbrev pub last_moment : (State → State → Bool) → State → List (ℕ × State) → Option ℕ
last_moment happens S path = last_or None (moments happens S path)
