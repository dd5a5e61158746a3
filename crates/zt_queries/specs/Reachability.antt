-- What can be reached by handles: the objects that entries of processes name, and those that messages name
-- which wait at an endpoint that can be reached. A message at an endpoint that nothing reaches can never be
-- read, and what only such messages name is out of reach. This project's own.
use Rattle.std.specs.Prelude.{◌≡◌, ℕ, zero, suc, Bool, true, if◌then◌else◌, List, [], ◌∷◌, map, length, Some}
use Rattle.std.specs.List.{flat_map, AllByRecursion}
use Rattle.zt_rows.specs.declared.keys.RowKey.{RowKey}
use Rattle.zt_rows.specs.declared.keys.RowKey.TheVariants as key
use Rattle.zt_rows.specs.declared.rows.Held.{Held}
use Rattle.zt_rows.specs.declared.rows.Row.{Row}
use Rattle.zt_rows.specs.declared.rows.Row.TheVariants as rows
use Rattle.zt_rows.specs.Contents.{MessageContent}
use Rattle.zt_rows.specs.State.{State}
use Rattle.zt_rows.specs.Reads.{entry, message, messages}
use Rattle.zt_rows.specs.Tests.{among}

-- the koids that a row names: an entry names one; a message names those of its handles, where its endpoint is
-- known to be reached
abbrev pub named : List ℕ → RowKey × Row → List ℕ
named known (key.Entry p h, rows.Entry held) = held.koid ∷ []
named known (key.Msg e n, rows.Msg m) = if among known e then map (λ held. held.koid) m.handles else []
named known _ = []

-- what is found in so many rounds, each of which looks into the queues of what the round before it found
unfoldable pub found : ℕ → State → List ℕ
found zero S = []
found (suc n) S = let known = found n S in flat_map (named known) S.rows

-- the koids of what can be reached. Each round but the first opens a queue, or none after it finds more: one
-- round more than there are messages finds all.
unfoldable pub reached : State → List ℕ
reached S = found (suc (length (messages S))) S

-- the set has what entries name, and what messages name that wait at its members
pub record HoldsAllNamed (S : State) (set : ℕ → Bool) : Type 0 where
  pub entries : (p h : ℕ) (held : Held) → entry S p h ≡ Some held → set held.koid ≡ true
  pub messages : (e n : ℕ) (m : MessageContent) → message S e n ≡ Some m → set e ≡ true → AllByRecursion (λ held. set held.koid ≡ true) m.handles
