-- The calls on a path, and which of them are asked for. This project's own.
use Rattle.std.specs.Prelude.{◌≡◌, ℕ, Bool, true, false, not, ◌==◌, ◌&&◌, ◌||◌, nat_le, if◌then◌else◌, List, filter, Option, None, Some, is_some, Result, Ok}
use Rattle.std.specs.List.{filter_map, list_any}
use Rattle.std.specs.Option.{option_map}
use Rattle.zt_bits.specs.declared.statuses.Status.TheVariants as status
use Rattle.zt_rows.specs.declared.calls.Reply.{Reply}
use Rattle.zt_rows.specs.declared.calls.Reply.TheVariants as reply
use Rattle.zt_rows.specs.declared.keys.RowKey.{RowKey}
use Rattle.zt_rows.specs.declared.keys.RowKey.TheVariants as key
use Rattle.zt_rows.specs.declared.refusals.Refusal.{Refusal}
use Rattle.zt_rows.specs.Reads.{names}
use Rattle.zt_history.specs.HistoryRefusals.{moment_on, ◌>>=◌}
use Rattle.zt_history.specs.Tree.{Made, Tree, made_at, path}
use Rattle.zt_look.specs.declared.call_list.CallFilter.{CallFilter}
use Rattle.zt_look.specs.declared.call_list.CallMade.{CallMade}
use Rattle.zt_look.specs.declared.changes.Change.{Change}
use Rattle.zt_look.specs.Changes.{changes_at}

-- ---- the calls

abbrev pub call_made : ℕ → Made → CallMade
call_made m e = record { moment = m; process = e.process; call = e.call; reply = e.reply }

-- the call that made a moment
abbrev pub call_of : List Made → ℕ → Option CallMade
call_of made m = option_map (call_made m) (made_at made m)

-- ---- what a call changed of an object

-- the key of the object, or of what it owns: entries of a process, messages of an endpoint, packets of a port
abbrev pub is_of : ℕ → RowKey → Bool
is_of x (key.Object y) = y == x
is_of x (key.Entry y h) = y == x
is_of x (key.Msg y n) = y == x
is_of x (key.Packet y n) = y == x
is_of x _ = false

-- the row is the object's, or before or after the call that of a handle that names it
abbrev pub touches : ℕ → Change → Bool
touches x c = is_of x c.key || names x c.before || names x c.after

-- the call of the moment changed such a row
abbrev pub touched : ℕ → List Made → ℕ → Bool
touched x made m = list_any (touches x) (changes_at made m)

-- ---- what is asked

abbrev pub is_within : CallFilter → ℕ → Bool
is_within asked m = nat_le asked.first m && nat_le m asked.last

-- the status is not ok
abbrev pub is_failed : Reply → Bool
is_failed (reply.Status status.Ok) = false
is_failed (reply.Status _) = true
is_failed (reply.TooSmall _ _) = true
is_failed _ = false

abbrev pub is_by : Option ℕ → ℕ → Bool
is_by (Some p) q = p == q
is_by None q = true

abbrev pub is_about : Option ℕ → List Made → ℕ → Bool
is_about (Some x) made m = touched x made m
is_about None made m = true

abbrev pub is_asked : List Made → CallFilter → ℕ → ℕ → Reply → Bool
is_asked made asked m process answered =
    is_within asked m && (not asked.failed || is_failed answered) && is_by asked.process process && is_about asked.object made m

-- the calls of these moments that are asked for
abbrev pub asked_among : List Made → CallFilter → List ℕ → List CallMade
asked_among made asked way = filter (λ c. is_asked made asked c.moment c.process c.reply) (filter_map (call_of made) way)

-- the history stands at the moment, where an object is asked for
abbrev pub StandsFor : CallFilter → ℕ → ℕ → Type 0
StandsFor asked position m = is_some asked.object ≡ true → position ≡ m

-- the first where an object is asked for, or else the second
abbrev pub if_object : {A : Type 0} → CallFilter → A → A → A
if_object asked moved stayed = if is_some asked.object then moved else stayed

-- those on the path to a moment of the tree
abbrev pub calls_on : Tree → ℕ → CallFilter → Result (List CallMade) Refusal
calls_on t at asked = do
  _ ← moment_on t at
  Ok (asked_among t.made asked (path t.made at))
