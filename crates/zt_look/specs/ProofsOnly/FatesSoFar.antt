-- What the events of a path tell of each object, and what became of it by that.
use Rattle.std.specs.Prelude.{◌≡◌, ℕ, ◌≤◌, Bool, true, false, ◌==◌, ◌&&◌, if◌then◌else◌, List, [], ◌∷◌, length, Option, None, Some, is_some, slice_index_or}
use Rattle.std.specs.Option.{option_map, unwrap_or}
use Rattle.zt_bits.specs.declared.kinds.Kind.{Kind}
use Rattle.zt_rows.specs.declared.calls.Happening.{Happening}
use Rattle.zt_rows.specs.declared.calls.Happening.TheVariants as happening
use Rattle.zt_rows.specs.declared.rows.ObjectRow.{ObjectRow}
use Rattle.zt_rows.specs.Reads.{counters, is_live, object}
use Rattle.zt_rows.specs.State.{State}
use Rattle.zt_look.specs.declared.event_list.HappeningSet.{HappeningSet}
use Rattle.zt_look.specs.declared.event_list.ObjectEvent.{ObjectEvent}
use Rattle.zt_look.specs.declared.fates.Fate.{Fate}
use Rattle.zt_look.specs.declared.fates.Fate.TheVariants as fates
use Rattle.zt_look.specs.declared.fates.ObjectFate.{ObjectFate}
use Rattle.zt_look.specs.declared.fates.FateTimes.{FateTimes}
use Rattle.zt_look.specs.EventList.{happening_number}
use Rattle.zt_look.specs.Fates.{fate_by, happening_since}
use Rattle.zt_look.specs.ProofsOnly.NumbersBelow.{told_below}

-- the happenings that fates are told by
abbrev pub of_fates : HappeningSet
of_fates = record { made = true; ended = true; peer_closed = false; leaked = true }

abbrev pub no_fate_times : FateTimes
no_fate_times = record { kind = None; made = None; ended = None; leaked = None }

-- ---- one event more

abbrev pub turned_by : Happening → Kind → ℕ → FateTimes → FateTimes
turned_by happening.Made k m t = record { kind = Some k; made = Some m; ended = t.ended; leaked = t.leaked }
turned_by happening.Ended k m t = record { kind = Some k; made = t.made; ended = Some m; leaked = t.leaked }
turned_by happening.Leaked k m t = record { kind = Some k; made = t.made; ended = t.ended; leaked = Some m }
turned_by happening.PeerClosed k m t = record { kind = Some k; made = t.made; ended = t.ended; leaked = t.leaked }

abbrev pub turned : ObjectEvent → FateTimes → FateTimes
turned e t = turned_by e.what e.kind e.moment t

-- ---- all events

-- what the last event that passes tells, or else this
abbrev pub latest : {A : Type 0} → (ObjectEvent → Bool) → (ObjectEvent → A) → Option A → List ObjectEvent → Option A
latest passes tells found [] = found
latest passes tells found (e ∷ es) = latest passes tells (if passes e then Some (tells e) else found) es

abbrev pub is_at : ℕ → ObjectEvent → Bool
is_at x e = e.koid == x

-- the event since which it is so
abbrev pub is_turn : Fate → ℕ → ObjectEvent → Bool
is_turn f x e = (e.koid == x) && (happening_number e.what == happening_number (happening_since f))

abbrev pub told : Fate → ℕ → List ObjectEvent → Option ℕ
told f x es = latest (is_turn f x) (λ e. e.moment) None es

abbrev pub kind_told : ℕ → List ObjectEvent → Option Kind
kind_told x es = latest (is_at x) (λ e. e.kind) None es

abbrev pub fate_times : ℕ → List ObjectEvent → FateTimes
fate_times x es = record { kind = kind_told x es; made = told fates.Alive x es; ended = told fates.Dead x es; leaked = told fates.Leaked x es }

-- at the place of each koid stands what the events tell of it
abbrev pub AreFateTimes : List ObjectEvent → List FateTimes → Type 0
AreFateTimes es ts = (x : ℕ) → slice_index_or ts x no_fate_times ≡ fate_times x es

-- ---- what became of each

abbrev pub moment_in : Fate → FateTimes → Option ℕ
moment_in fates.Alive t = t.made
moment_in fates.Leaked t = t.leaked
moment_in fates.Dead t = t.ended

abbrev pub fate_told : ℕ → Kind → Fate → FateTimes → ObjectFate
fate_told x k f t = record { koid = x; kind = k; fate = f; since = unwrap_or (moment_in f t) 0 }

abbrev pub fate_shown : ℕ → Option ObjectRow → FateTimes → Option ObjectFate
fate_shown x (Some o) t = Some (fate_told x o.kind (fate_by (is_some t.leaked) (is_live o.life)) t)
fate_shown x None t = option_map (λ k. fate_told x k fates.Dead t) t.kind

abbrev pub shown : State → List FateTimes → ℕ → Option ObjectFate
shown S ts x = fate_shown x (object S x) (slice_index_or ts x no_fate_times)

-- the list tells of all koids that were given out or that events tell of
pub record AreFatesUpTo (S : State) (ts : List FateTimes) (list : List ObjectFate) : Type 0 where
  pub end : ℕ
  pub known : (counters S).next_koid ≤ end
  pub timed : length ts ≤ end
  pub is : list ≡ told_below (shown S ts) end
