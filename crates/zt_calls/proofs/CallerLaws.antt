-- What is known of the row of the process that calls.
use Rattle.std.proofs.Common.{◌≡◌, ℕ, ◌+◌, ◌-◌, ◌^◌, ◌≤◌, Bool, true, ◌&&◌, Option, None, Some, ap, refl, sym, ◌∙◌, arith}
use Rattle.std.specs.Prelude.{◌==◌}
use Rattle.zt_bits.specs.declared.kinds.Kind.{Kind}
use Rattle.zt_bits.specs.declared.kinds.Kind.TheVariants as kind
use Rattle.zt_rows.specs.declared.rows.ObjectRow.{ObjectRow}
use Rattle.zt_rows.specs.State.{State}
use Rattle.zt_rows.specs.declared.keys.RowKey.TheVariants as key
use Rattle.zt_rows.specs.declared.rows.Held.{Held}
use Rattle.zt_rows.specs.declared.rows.Row.TheVariants as rows
use Rattle.zt_rows.specs.State.{put}
use Rattle.zt_rows.specs.Reads.{as_object, counters, object, has_live_process, is_process, is_live}
use Rattle.zt_rows.specs.Tests.{next_at, object_next, is_endpoint, raised}
use Rattle.zt_rows.specs.Handles.{as_caller, caller, value_of, install, make, make_pair, take_out}
use Rattle.zt_rows.specs.declared.calls.Call.{Call}
use Rattle.zt_rows.specs.declared.calls.Reply.{Reply}
use Rattle.zt_rows.specs.Step.{IsCall, step, direct, completed}
use Rattle.zt_rows.specs.Consistent.{IsSound, IsConsistent}
use Rattle.zt_rows.specs.Room.{HasRoom, NextFits}
use Rattle.zt_rows.proofs.StateLaws.{row-put-same}
use Rattle.zt_rows.proofs.SoundLaws.{has_live_process-some}
use Rattle.zt_rows.proofs.MakeLaws.{others-made}
use Rattle.zt_rows.proofs.PairLaws.{others-paired}
use Rattle.zt_rows.proofs.TakeLaws.{object-taken}
use Rattle.zt_rows.proofs.CallLaws.{sound-direct, step-consistent}

process_fits : (on : Kind) (lives : Bool) (n : ℕ) → NextFits on n → (is_process on && lives) ≡ true → n ≤ 2 ^ 30 - 64
process_fits kind.Process lives n h r = h
process_fits kind.Job lives n h r = cc
process_fits kind.Channel lives n h r = cc
process_fits kind.Event lives n h r = cc
process_fits kind.EventPair lives n h r = cc
process_fits kind.Port lives n h r = cc

-- where there is room, the next handle of a process that runs has a value that fits
pub caller_fits : (S : State) (p : ℕ) (o : ObjectRow) → object S p ≡ Some o → HasRoom S → has_live_process S p ≡ true → o.next ≤ 2 ^ 30 - 64
caller_fits S p o e room r = process_fits o.kind (is_live o.life) o.next (room.owners p o e) (rw e at r)

-- the state that a call of a process that runs leaves is consistent, if the one before is: B is where its step
-- begins, T where it ends
pub consistent_after : (S B T U : State) (p : ℕ) (c : Call) (r : Reply) → B ≡ S → U ≡ T → ◌≡◌ {A = State × Reply} (T, r) (completed B (direct B p c)) → IsConsistent S → has_live_process S p ≡ true → IsCall c → IsConsistent U
unfolding step
consistent_after S B T U p c r from left e before running is_call =
    let is : U ≡ (step S p c).0 = left ∙ ap (λ d. d.0) e ∙ ap (λ b. (step b p c).0) from in rw is (step-consistent S p c before running is_call)

-- the state T that the call itself leaves is sound
pub sound_after : (S T : State) (p : ℕ) (c : Call) (r : Reply) → ◌≡◌ {A = State × Reply} (T, r) (direct S p c) → IsSound S → has_live_process S p ≡ true → IsCall c → IsSound T
sound_after S T p c r e before running is_call =
    let is : T ≡ (direct S p c).0 = ap (λ d. d.0) e in rw is (sound-direct S p c before running is_call)

-- ---- the caller's row while its call goes on

-- the next handle of a process that runs has a value that fits
pub room-installs : (S : State) (p : ℕ) → HasRoom S → has_live_process S p ≡ true → next_at S p ≤ 2 ^ 30 - 64
room-installs S p room live =
    let w = has_live_process-some S p live in
    let e : next_at S p ≡ w.0.next = ap object_next w.1 in
    let fits : w.0.next ≤ 2 ^ 30 - 64 = caller_fits S p w.0 w.1 room live in
    omega arith

-- a state in which the caller's row is the same
module _ (S T : State) (p : ℕ) (same : object T p ≡ object S p) where
  pub caller-same : caller T p ≡ caller S p
  caller-same = ap as_caller same

  pub next-same : next_at T p ≡ next_at S p
  next-same = ap object_next same

pub object-of-made : (S : State) (p : ℕ) (o : ObjectRow) → IsSound S → has_live_process S p ≡ true → object (make (counters S) o S) p ≡ object S p
object-of-made S p o sound live = let w = has_live_process-some S p live in others-made S sound o p w.0 w.1 ∙ sym w.1

pub object-of-paired : (S : State) (p : ℕ) (made : Kind) → IsSound S → is_endpoint made ≡ true → has_live_process S p ≡ true → object (make_pair (counters S) made S) p ≡ object S p
object-of-paired S p made sound ends live = let w = has_live_process-some S p live in others-paired S sound made ends p w.0 w.1 ∙ sym w.1

pub object-of-rest : (S : State) (p h : ℕ) → object (take_out S p h) p ≡ object S p
object-of-rest S p h = object-taken p (λ g. g == h) S p

-- a process that received a handle has given out one more value
pub object-of-installed : (S : State) (p : ℕ) (me : ObjectRow) (held : Held) → object (install p me held S) p ≡ Some (raised me)
object-of-installed S p me held = ap as_object (row-put-same (put S (key.Entry p (value_of me.next)) (Some (rows.Entry held))) (key.Object p) (Some (rows.Object (raised me))))

pub caller-of-installed : (S : State) (p : ℕ) (me : ObjectRow) (held : Held) → caller (install p me held S) p ≡ raised me
caller-of-installed S p me held = ap as_caller (object-of-installed S p me held)

pub next-of-installed : (S : State) (p : ℕ) (me : ObjectRow) (held : Held) → next_at (install p me held S) p ≡ me.next + 1
next-of-installed S p me held = ap object_next (object-of-installed S p me held)

as-caller-next : (o : Option ObjectRow) → (as_caller o).next ≡ object_next o
as-caller-next (Some o) = refl
as-caller-next None = refl

pub caller-next : (S : State) (p : ℕ) → (caller S p).next ≡ next_at S p
caller-next S p = as-caller-next (object S p)
