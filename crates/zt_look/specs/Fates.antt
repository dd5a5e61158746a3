-- What became of the objects of a path by its end, and since when. This project's own.
use Rattle.std.specs.Prelude.{◌≡◌, ℕ, Bool, true, if◌then◌else◌, List, map, Some}
use Rattle.std.specs.List.{AllByRecursion}
use Rattle.std.specs.List.Sorted.{IsStrictlyIncreasing}
use Rattle.std.specs.Option.{unwrap_or}
use Rattle.zt_rows.specs.declared.calls.Happening.{Happening}
use Rattle.zt_rows.specs.declared.calls.Happening.TheVariants as happening
use Rattle.zt_rows.specs.State.{State}
use Rattle.zt_rows.specs.Tests.{among, exists, kind_at}
use Rattle.zt_history.specs.Tree.{Made, state_at}
use Rattle.zt_queries.specs.Happenings.{lives}
use Rattle.zt_queries.specs.HappeningTimes.{happens, last_on}
use Rattle.zt_queries.specs.LaterMoments.{leads_to}
use Rattle.zt_queries.specs.Leaks.{is_leaked}
use Rattle.zt_look.specs.declared.fates.Fate.{Fate}
use Rattle.zt_look.specs.declared.fates.Fate.TheVariants as fates
use Rattle.zt_look.specs.declared.fates.ObjectFate.{ObjectFate}

-- what is leaked is told as leaked, though it has ended
abbrev pub fate_by : Bool → Bool → Fate
fate_by leaked lives = if leaked then fates.Leaked else if lives then fates.Alive else fates.Dead

abbrev pub fate_at : State → ℕ → Fate
fate_at S x = fate_by (is_leaked S x) (lives S x)

-- what happened at the moment since which it is so
abbrev pub happening_since : Fate → Happening
happening_since fates.Alive = happening.Made
happening_since fates.Leaked = happening.Leaked
happening_since fates.Dead = happening.Ended

-- what became of the object by this moment, and since when: the last moment on the path at which it happened, or else the
-- opening. Its kind is the one that it has at a moment of the path.
pub record IsFate (made : List Made) (at : ℕ) (f : ObjectFate) : Type 0 where
  pub fate : f.fate ≡ fate_at (state_at made at) f.koid
  pub since : f.since ≡ unwrap_or (last_on (happens (happening_since f.fate) f.koid) made at) 0
  pub moment : ℕ
  pub upto : leads_to made moment at ≡ true
  pub kind : kind_at (state_at made moment) f.koid ≡ Some f.kind

abbrev pub koids : List ObjectFate → List ℕ
koids list = map (λ f. f.koid) list

-- the list has each object that is there at some moment of the path, once, by rising koid, and no others
pub record AreFates (made : List Made) (at : ℕ) (list : List ObjectFate) : Type 0 where
  pub each : AllByRecursion (IsFate made at) list
  pub rising : IsStrictlyIncreasing (koids list)
  pub all : (m x : ℕ) → leads_to made m at ≡ true → exists (state_at made m) x ≡ true → among (koids list) x ≡ true
