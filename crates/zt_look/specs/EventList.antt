-- What happened to objects in the calls of a path, as a list. This project's own.
use Rattle.std.specs.Prelude.{◌≡◌, ◌⊎◌, ℕ, ◌<◌, nat_lt, nat_le, Bool, true, ◌==◌, ◌&&◌, ⊤, List, [], ◌∷◌, take, drop, Option, None, Some}
use Rattle.std.specs.List.{AllByRecursion, list_any, position_or_len}
use Rattle.zt_bits.specs.declared.kinds.Kind.{Kind}
use Rattle.zt_rows.specs.declared.calls.Happening.{Happening}
use Rattle.zt_rows.specs.declared.calls.Happening.TheVariants as happening
use Rattle.zt_rows.specs.Tests.{among, kind_at}
use Rattle.zt_history.specs.Tree.{Made, parent_at, state_at}
use Rattle.zt_queries.specs.HappeningTimes.{at_moment, happens}
use Rattle.zt_look.specs.declared.event_list.HappeningSet.{HappeningSet}
use Rattle.zt_look.specs.declared.event_list.ObjectEvent.{ObjectEvent}

-- ---- what is asked

abbrev pub is_asked : HappeningSet → Happening → Bool
is_asked asked happening.Made = asked.made
is_asked asked happening.Ended = asked.ended
is_asked asked happening.PeerClosed = asked.peer_closed
is_asked asked happening.Leaked = asked.leaked

-- the moments of a path up to this one, which need not be on it
abbrev pub up_to : ℕ → List ℕ → List ℕ
up_to last way = take (position_or_len (λ m. nat_lt last m) way) way

-- those from one to another
abbrev pub between : ℕ → ℕ → List ℕ → List ℕ
between first last way = let part = up_to last way in drop (position_or_len (λ m. nat_le first m) part) part

-- ---- one event

-- the second where there is no first
abbrev pub kind_or : Option Kind → Option Kind → Option Kind
kind_or (Some k) other = Some k
kind_or None other = other

-- the object's kind after the moment's call, or before it where the object is gone then
abbrev pub kind_by : List Made → ℕ → ℕ → Option Kind
kind_by made m x = kind_or (kind_at (state_at made m) x) (kind_at (state_at made (parent_at made m)) x)

-- it happened so in the call of a moment of the way, and is asked for
pub record IsEvent (made : List Made) (asked : HappeningSet) (way : List ℕ) (e : ObjectEvent) : Type 0 where
  pub moment : among way e.moment ≡ true
  pub wanted : is_asked asked e.what ≡ true
  pub happened : at_moment (happens e.what e.koid) made e.moment ≡ true
  pub kind : kind_by made e.moment e.koid ≡ Some e.kind

-- ---- their order

-- the happenings in their order
abbrev pub happening_number : Happening → ℕ
happening_number happening.Made = 0
happening_number happening.Ended = 1
happening_number happening.PeerClosed = 2
happening_number happening.Leaked = 3

-- by moment, then koid, then happening
abbrev pub ComesBefore : ObjectEvent → ObjectEvent → Type 0
ComesBefore a b = (a.moment < b.moment)
    ⊎ ((a.moment ≡ b.moment) × (a.koid < b.koid))
    ⊎ ((a.moment ≡ b.moment) × (a.koid ≡ b.koid) × (happening_number a.what < happening_number b.what))

-- each comes before all that stand behind it
abbrev pub AreInOrder : List ObjectEvent → Type 0
AreInOrder [] = ⊤
AreInOrder (e ∷ es) = AllByRecursion (ComesBefore e) es × AreInOrder es

-- ---- all events

abbrev pub is_told : ℕ → ℕ → Happening → ObjectEvent → Bool
is_told m x what e = (e.moment == m) && (e.koid == x) && (happening_number e.what == happening_number what)

-- the list has what happened in the calls of the way's moments and is asked for, and nothing else, in order
pub record AreEvents (made : List Made) (asked : HappeningSet) (way : List ℕ) (list : List ObjectEvent) : Type 0 where
  pub each : AllByRecursion (IsEvent made asked way) list
  pub ordered : AreInOrder list
  pub all : (m x : ℕ) (what : Happening) → among way m ≡ true → is_asked asked what ≡ true → at_moment (happens what x) made m ≡ true
      → list_any (is_told m x what) list ≡ true
