-- What calls do with the caller's handles: looking one up, taking entries out, giving new ones, making objects.
-- Checks and their statuses as in Fuchsia's reference of handles and rights; the order of a handle's
-- checks, and that the n-th handle of a process has the value 4n + 3, is this
-- project's own profile.
use Rattle.std.specs.Prelude.{ℕ, ◌+◌, ◌*◌, Bool, true, false, ◌==◌, ◌&&◌, if◌then◌else◌, ⊤, List, [], ◌∷◌, Option, None, Some, Result, Ok, Err, ok_or}
use Rattle.zt_bits.specs.declared.kinds.Kind.{Kind}
use Rattle.zt_bits.specs.declared.kinds.Kind.TheVariants as kind
use Rattle.zt_bits.specs.declared.statuses.Status.{Status}
use Rattle.zt_bits.specs.declared.statuses.Status.TheVariants as status
use Rattle.zt_bits.specs.Tables.{default_rights}
use Rattle.zt_rows.specs.declared.calls.Reply.{Reply}
use Rattle.zt_rows.specs.declared.calls.Reply.TheVariants as reply
use Rattle.zt_rows.specs.declared.keys.RowKey.{RowKey}
use Rattle.zt_rows.specs.declared.keys.RowKey.TheVariants as key
use Rattle.zt_rows.specs.declared.rows.Counters.{Counters}
use Rattle.zt_rows.specs.declared.rows.Held.{Held}
use Rattle.zt_rows.specs.declared.rows.Life.TheVariants as life
use Rattle.zt_rows.specs.declared.rows.ObjectRow.{ObjectRow}
use Rattle.zt_rows.specs.declared.rows.Row.{Row}
use Rattle.zt_rows.specs.declared.rows.Row.TheVariants as rows
use Rattle.zt_rows.specs.State.{State, put, change}
use Rattle.zt_rows.specs.Reads.{counters, object, entry}
use Rattle.zt_rows.specs.Tests.{has_all, raised}

-- ---- checks

-- a call's checks in order: the first status that is not ok ends it
infixl 10 ◌>>=◌
abbrev pub ◌>>=◌ : {A B : Type 0} → Result A Status → (A → Result B Status) → Result B Status
(Ok x) >>= f = f x
(Err e) >>= f = Err e

-- the test holds, or the call has this status
abbrev pub check : Bool → Status → Result ⊤ Status
check true wrong = Ok tt
check false wrong = Err wrong

-- what the caller's handle holds, and the object that it names: bad_handle where the value is not in the
-- table (0 never is), then this status where the object's kind is not wanted, then access_denied where a
-- wanted right is not held
abbrev pub handle_else : Status → State → ℕ → ℕ → (Kind → Bool) → ℕ → Result (Held × ObjectRow) Status
handle_else wrong S p h wanted rights = do
  held ← ok_or (entry S p h) status.BadHandle
  o ← ok_or (object S held.koid) status.BadHandle
  _ ← check (wanted o.kind) wrong
  _ ← check (has_all held.rights.0 rights) status.AccessDenied
  Ok (held, o)

-- what the caller's handle holds, and the object that it names: bad_handle where the value is not in the table, then wrong_type
-- where the object's kind is not wanted, then access_denied where a wanted right is not held
abbrev pub handle : State → ℕ → ℕ → (Kind → Bool) → ℕ → Result (Held × ObjectRow) Status
handle S p h wanted rights = handle_else status.WrongType S p h wanted rights

-- ---- replies

abbrev pub done : Reply
done = reply.Status status.Ok

-- the state and reply of a call whose checks passed, or this state and the status of the first that did not
abbrev pub answered : State → Result (State × Reply) Status → State × Reply
answered S (Ok after) = after
answered S (Err wrong) = (S, reply.Status wrong)

-- ---- taking entries out

abbrev pub taken : ℕ → (ℕ → Bool) → RowKey → Row → Option Row
taken p values (key.Entry q h) (rows.Entry held) = if (q == p) && values h then None else Some (rows.Entry held)
taken p values (key.Wait n) (rows.Wait w) = if (w.process == p) && values w.handle then None else Some (rows.Wait w)
taken p values k r = Some r

-- the entries of p with these values go, and the waits made on them
abbrev pub take_out_all : State → ℕ → (ℕ → Bool) → State
take_out_all S p values = change (taken p values) S

-- the entry of p with this value goes, and the waits made on it
abbrev pub take_out : State → ℕ → ℕ → State
take_out S p h = take_out_all S p (λ g. g == h)

-- ---- new entries

-- the value of the n-th handle that a process receives
abbrev pub value_of : ℕ → ℕ
value_of n = 4 * n + 3

abbrev pub as_caller : Option ObjectRow → ObjectRow
as_caller (Some o) = o
as_caller None = record { kind = kind.Process; signals = record { 0 = 0 }; link = 0; life = life.Killed; next = 0; critical = 0 }

-- the row of the process that calls
abbrev pub caller : State → ℕ → ObjectRow
caller S p = as_caller (object S p)

-- the process with this row receives what is held, by its next value
abbrev pub install : ℕ → ObjectRow → Held → State → State
install p me held S = put (put S (key.Entry p (value_of me.next)) (Some (rows.Entry held))) (key.Object p) (Some (rows.Object (raised me)))

-- the process with this row receives these in order
abbrev pub install_all : ℕ → ObjectRow → List Held → State → State
install_all p me [] S = S
install_all p me (held ∷ rest) S = install_all p (raised me) rest (install p me held S)

-- the values of as many handles as the list has, from the n-th on
abbrev pub values_from : ℕ → List Held → List ℕ
values_from n [] = []
values_from n (held ∷ rest) = value_of n ∷ values_from (n + 1) rest

-- a handle to the object with the rights that its kind begins with
abbrev pub whole : ℕ → Kind → Held
whole x made = record { koid = x; rights = record { 0 = default_rights made } }

-- ---- new objects

-- a new object of this kind, linked so
abbrev pub fresh : Kind → ℕ → ObjectRow
fresh made link = record { kind = made; signals = record { 0 = 0 }; link = link; life = life.Live; next = 0; critical = 0 }

-- the koid of the next object
abbrev pub next_koid : State → ℕ
next_koid S = (counters S).next_koid

-- the object at the next koid of these counters
abbrev pub make : Counters → ObjectRow → State → State
make c o S = put (put S (key.Object c.next_koid) (Some (rows.Object o))) key.Counters (Some (rows.Counters (record c { next_koid = c.next_koid + 1 })))

-- two objects of this kind at the next two koids of these counters, each the other's peer
abbrev pub make_pair : Counters → Kind → State → State
make_pair c made S =
    let k = c.next_koid in
    let one = put S (key.Object k) (Some (rows.Object (fresh made (k + 1)))) in
    let both = put one (key.Object (k + 1)) (Some (rows.Object (fresh made k))) in
    put both key.Counters (Some (rows.Counters (record c { next_koid = k + 2 })))
