-- What holds in every state that a history reaches, as one fact with named parts: what the rows of objects, entries,
-- messages, packets and waits owe each other. Object lifetimes and peers as in Fuchsia's reference of kernel
-- objects; numbers and limits are this project's own profile.
use Rattle.std.specs.Prelude.{◌≡◌, ◌≢◌, ◌⊎◌, ℕ, ◌+◌, ◌*◌, ◌<◌, ◌≤◌, Bool, true, false, not, ◌==◌, ◌&&◌, ◌||◌, Some, bit_and, bit_or}
use Rattle.std.specs.List.{AllByRecursion}
use Rattle.zt_bits.specs.declared.kinds.Kind.{Kind}
use Rattle.zt_bits.specs.declared.kinds.Kind.TheVariants as kind
use Rattle.zt_bits.specs.Tables.{settable_signals}
use Rattle.zt_rows.specs.declared.keys.RowKey.{RowKey}
use Rattle.zt_rows.specs.declared.rows.Held.{Held}
use Rattle.zt_rows.specs.declared.rows.Life.{Life}
use Rattle.zt_rows.specs.declared.rows.Life.TheVariants as life
use Rattle.zt_rows.specs.declared.rows.ObjectRow.{ObjectRow}
use Rattle.zt_rows.specs.declared.rows.Packet.{Packet}
use Rattle.zt_rows.specs.declared.rows.Row.{Row}
use Rattle.zt_rows.specs.declared.rows.Wait.{Wait}
use Rattle.zt_rows.specs.Contents.{MessageContent, IsWithinMessage}
use Rattle.zt_rows.specs.State.{State, row}
use Rattle.zt_rows.specs.Reads.{counters, object, entry, message, packet as packet_at, wait, has_live_process, is_live_job, is_live_process}
use Rattle.zt_rows.specs.Tests.{is_endpoint, exists, kind_at, next_at, without_bits, among}
use Rattle.zt_rows.specs.Room.{suits}
use Rattle.zt_rows.specs.Support.{root_job, is_supported}
use Rattle.zt_rows.specs.Settle.{derived_mask, renewed, observed}
use Rattle.zt_rows.specs.End.{chain, depth}
use Rattle.zt_rows.specs.PortCalls.{pending, most_pending}
use Rattle.zt_rows.specs.JobCalls.{most_depth}

-- ---- an object

-- the link names its peer: another object of its kind, which names it back
pub record IsPeer (S : State) (x : ℕ) (o : ObjectRow) : Type 0 where
  pub peer : ObjectRow
  pub there : object S o.link ≡ Some peer
  pub same_kind : peer.kind ≡ o.kind
  pub back : peer.link ≡ x
  pub apart : o.link ≢ x

-- the link names its parent: a live job with a smaller koid
pub record IsChild (S : State) (x : ℕ) (o : ObjectRow) : Type 0 where
  pub parent : ObjectRow
  pub there : object S o.link ≡ Some parent
  pub live : is_live_job parent ≡ true
  pub smaller : o.link < x

-- a live process, or a live job other than the root job
abbrev pub has_parent : ℕ → ObjectRow → Bool
has_parent x o = is_live_process o || (is_live_job o && not (x == root_job))

-- how an object of the kind may be: a process in any way, a job not exited, everything else live
abbrev pub may_be : Kind → Life → Bool
may_be kind.Process how = true
may_be kind.Job life.Live = true
may_be kind.Job life.Killed = true
may_be _ life.Live = true
may_be _ _ = false

-- the signals that may stand on an object of the kind
abbrev pub possible_signals : Kind → ℕ
possible_signals made = bit_or (derived_mask made) (settable_signals made)

pub record SoundObject (S : State) (x : ℕ) (o : ObjectRow) : Type 0 where
  pub low : root_job ≤ x
  pub high : x < (counters S).next_koid
  pub peers : is_endpoint o.kind ≡ true → (o.link ≡ 0) ⊎ IsPeer S x o
  pub parents : has_parent x o ≡ true → IsChild S x o
  pub alone : is_endpoint o.kind ≡ false → has_parent x o ≡ false → o.link ≡ 0
  pub lives : may_be o.kind o.life ≡ true
  pub signals : without_bits o.signals.0 (possible_signals o.kind) ≡ 0

-- it is critical to no job, or it is a live process and the job is above it
abbrev pub SoundCritical : State → ℕ → ObjectRow → Type 0
SoundCritical S x o = (o.critical ≡ 0) ⊎ ((is_live_process o ≡ true) × (among (chain S x) o.critical ≡ true))

-- ---- what objects own, and what names objects

-- a live process holds it, by a value that it was given, and what it names exists
pub record SoundEntry (S : State) (p h : ℕ) (held : Held) : Type 0 where
  pub owner : has_live_process S p ≡ true
  pub value : (n : ℕ) × (h ≡ 4 * n + 3) × (n < next_at S p)
  pub names : exists S held.koid ≡ true

-- it is queued at an endpoint of a channel, and what its handles name exists
pub record SoundMessage (S : State) (e n : ℕ) (m : MessageContent) : Type 0 where
  pub owner : kind_at S e ≡ Some kind.Channel
  pub number : n < next_at S e
  pub names : AllByRecursion (λ held. exists S held.koid ≡ true) m.handles
  pub within : IsWithinMessage m.bytes m.handles

-- it is queued at a port; the process and handle that a signal packet tells of may be gone
pub record SoundPacket (S : State) (p n : ℕ) : Type 0 where
  pub owner : kind_at S p ≡ Some kind.Port
  pub number : n < next_at S p

-- it is made on an entry that is there, for a port
pub record SoundWait (S : State) (n : ℕ) (w : Wait) : Type 0 where
  pub number : n < (counters S).next_wait
  pub held : Held
  pub there : entry S w.process w.handle ≡ Some held
  pub port : kind_at S w.port ≡ Some kind.Port

-- ---- the whole state

-- what each call's direct change keeps
pub record IsSound (S : State) : Type 0 where
  pub typed : (k : RowKey) (r : Row) → row S k ≡ Some r → suits k r ≡ true
  pub root : kind_at S root_job ≡ Some kind.Job
  pub of_objects : (x : ℕ) (o : ObjectRow) → object S x ≡ Some o → SoundObject S x o
  pub of_entries : (p h : ℕ) (held : Held) → entry S p h ≡ Some held → SoundEntry S p h held
  pub of_messages : (e n : ℕ) (m : MessageContent) → message S e n ≡ Some m → SoundMessage S e n m
  pub of_packets : (p n : ℕ) (k : Packet) → packet_at S p n ≡ Some k → SoundPacket S p n
  pub of_waits : (n : ℕ) (w : Wait) → wait S n ≡ Some w → SoundWait S n w
  pub ports : (x : ℕ) → pending S x ≤ most_pending
  pub depths : (x : ℕ) (o : ObjectRow) → object S x ≡ Some o → is_live_job o ≡ true → depth S x ≤ most_depth
  pub criticals : (x : ℕ) (o : ObjectRow) → object S x ≡ Some o → SoundCritical S x o

-- a sound state at rest: removal, refreshing and firing have nothing left to do
pub record IsConsistent (S : State) : Type 0 where
  pub sound : IsSound S
  pub supported : (x : ℕ) → exists S x ≡ true → is_supported S x ≡ true
  pub agrees : (x : ℕ) (o : ObjectRow) → object S x ≡ Some o → renewed S x o ≡ o.signals.0
  pub waiting : (n : ℕ) (w : Wait) → wait S n ≡ Some w → w.edge ≡ false → bit_and w.signals.0 (observed S w) ≡ 0
