-- Short questions about a state that the semantics asks again and again: of one object, of the object under a
-- koid, and of all rows at once. This project's own form; kinds as in Fuchsia's reference of kernel objects.
use Rattle.std.specs.Prelude.{ℕ, ◌+◌, ◌-◌, Bool, true, false, ◌==◌, List, [], ◌∷◌, count_by, Option, None, Some, is_some, bit_and}
use Rattle.std.specs.List.{list_any}
use Rattle.std.specs.Option.{option_map}
use Rattle.zt_bits.specs.declared.kinds.Kind.{Kind}
use Rattle.zt_bits.specs.declared.kinds.Kind.TheVariants as kind
use Rattle.zt_bits.specs.declared.statuses.Status.{Status}
use Rattle.zt_bits.specs.declared.statuses.Status.TheVariants as status
use Rattle.zt_rows.specs.declared.calls.Reply.{Reply}
use Rattle.zt_rows.specs.declared.calls.Reply.TheVariants as reply
use Rattle.zt_rows.specs.declared.keys.RowKey.{RowKey}
use Rattle.zt_rows.specs.declared.rows.ObjectRow.{ObjectRow}
use Rattle.zt_rows.specs.declared.rows.Row.{Row}
use Rattle.zt_rows.specs.State.{State}
use Rattle.zt_rows.specs.Reads.{object}

-- ---- kinds

abbrev pub any_kind : Kind → Bool
any_kind _ = true

abbrev pub is_channel : Kind → Bool
is_channel kind.Channel = true
is_channel _ = false

abbrev pub is_port : Kind → Bool
is_port kind.Port = true
is_port _ = false

-- one of two ends that are each other's peer
abbrev pub is_endpoint : Kind → Bool
is_endpoint kind.Channel = true
is_endpoint kind.EventPair = true
is_endpoint _ = false

-- what runs until it is ended
abbrev pub is_task : Kind → Bool
is_task kind.Job = true
is_task kind.Process = true
is_task _ = false

-- ---- replies

-- the status that a reply has: what answers with more than a status went well, but where the message was too long
abbrev pub status_of : Reply → Status
status_of (reply.Status s) = s
status_of (reply.TooSmall _ _) = status.BufferTooSmall
status_of _ = status.Ok

-- ---- sets of bits and lists of numbers

-- every wanted bit is among the bits
abbrev pub has_all : ℕ → ℕ → Bool
has_all bits wanted = bit_and bits wanted == wanted

-- the bits without those of the mask
abbrev pub without_bits : ℕ → ℕ → ℕ
without_bits bits mask = bit_and bits (0xffffffff - mask)

-- the number is in the list
abbrev pub among : List ℕ → ℕ → Bool
among numbers n = list_any (λ m. m == n) numbers

-- the first of a list, if there is one
abbrev pub first : {A : Type 0} → List A → Option A
first [] = None
first (x ∷ xs) = Some x

-- ---- the object of a koid

-- there is one
abbrev pub exists : State → ℕ → Bool
exists S x = is_some (object S x)

abbrev pub kind_at : State → ℕ → Option Kind
kind_at S x = option_map (λ o. o.kind) (object S x)

abbrev pub object_link : Option ObjectRow → ℕ
object_link (Some o) = o.link
object_link None = 0

-- its peer or its parent, 0 for none
abbrev pub link_at : State → ℕ → ℕ
link_at S x = object_link (object S x)

abbrev pub object_next : Option ObjectRow → ℕ
object_next (Some o) = o.next
object_next None = 0

-- the next number of what it owns
abbrev pub next_at : State → ℕ → ℕ
next_at S x = object_next (object S x)

abbrev pub object_signals : Option ObjectRow → ℕ
object_signals (Some o) = o.signals.0
object_signals None = 0

-- all the signals that stand on it
abbrev pub signals_at : State → ℕ → ℕ
signals_at S x = object_signals (object S x)

-- the row after it gave out one more number
abbrev pub raised : ObjectRow → ObjectRow
raised o = record o { next = o.next + 1 }

-- ---- all rows

-- some row passes
unfoldable pub any_row : (RowKey → Row → Bool) → State → Bool
any_row test S = list_any (λ e. test e.0 e.1) S.rows

-- how many rows pass
unfoldable pub count_row : (RowKey → Row → Bool) → State → ℕ
count_row test S = count_by (λ e. test e.0 e.1) S.rows
