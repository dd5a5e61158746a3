-- The opening is consistent.
use Rattle.std.proofs.Common.{◌≡◌, ◌≤◌, ℕ, true, ◌⊎◌, inl, inr, refl, sym, ap, subst, arith}
use Rattle.std.specs.Prelude.{None, Some}
use Rattle.zt_bits.specs.declared.kinds.Kind.TheVariants as kind
use Rattle.zt_rows.specs.declared.keys.RowKey.{RowKey}
use Rattle.zt_rows.specs.declared.keys.RowKey.TheVariants as key
use Rattle.zt_rows.specs.declared.rows.Held.{Held}
use Rattle.zt_rows.specs.declared.rows.Life.TheVariants as life
use Rattle.zt_rows.specs.declared.rows.ObjectRow.{ObjectRow}
use Rattle.zt_rows.specs.declared.rows.Packet.{Packet}
use Rattle.zt_rows.specs.declared.rows.Wait.{Wait}
use Rattle.zt_rows.specs.declared.rows.Row.{Row}
use Rattle.zt_rows.specs.declared.rows.Row.TheVariants as rows
use Rattle.zt_rows.specs.Contents.{MessageContent}
use Rattle.zt_rows.specs.State.{row, put}
use Rattle.zt_rows.specs.Reads.{counters, object, is_live_job}
use Rattle.zt_rows.specs.Tests.{any_row, count_row}
use Rattle.zt_rows.specs.Room.{suits}
use Rattle.zt_rows.specs.Support.{is_supported}
use Rattle.zt_rows.specs.PortCalls.{pending}
use Rattle.zt_rows.specs.JobCalls.{most_depth}
use Rattle.zt_rows.specs.Settle.{renewed}
use Rattle.zt_rows.specs.End.{links, chain, depth}
use Rattle.zt_rows.specs.Opening.{opening_rows, opening}
use Rattle.zt_rows.specs.Consistent.{SoundObject, SoundCritical, SoundEntry, IsSound, IsConsistent}
use Rattle.zt_rows.proofs.StateLaws.{rows-state_of}
use Rattle.zt_rows.proofs.RowLaws.{In, row-in}
use Rattle.zt_rows.proofs.ReadLaws.{some-exists, object-row, entry-row, message-row, packet-row, wait-row}
use Rattle.zt_rows.proofs.SupportLaws.{by_itself, kept-supported}

abbrev pub job_row : ObjectRow
job_row = record { kind = kind.Job; signals = record { 0 = 0x10 }; link = 0; life = life.Live; next = 0; critical = 0 }

abbrev pub process_row : ObjectRow
process_row = record { kind = kind.Process; signals = record { 0 = 0 }; link = 1024; life = life.Live; next = 1; critical = 0 }

abbrev held_row : Held
held_row = record { koid = 1024; rights = record { 0 = 0x3d203 } }

in-opening : (k : RowKey) (r : Row) → row opening k ≡ Some r → In (k, r) opening_rows
in-opening k r h = subst (λ es. In (k, r) es) (rows-state_of opening_rows tt) (row-in opening k r h)

-- ---- what is there

pub counters-opening : (counters opening).next_koid ≡ 1026
unfolding row put
counters-opening = refl

object-job : object opening 1024 ≡ Some job_row
unfolding row put
object-job = refl

object-process : object opening 1025 ≡ Some process_row
unfolding row put
object-process = refl

pending-opening : (x : ℕ) → pending opening x ≡ 0
unfolding count_row put
pending-opening x = refl

depth-opening : depth opening 1024 ≡ 0
unfolding chain links row put
depth-opening = refl

job-renewed : renewed opening 1024 job_row ≡ 0x10
unfolding any_row put
job-renewed = refl

process-renewed : renewed opening 1025 process_row ≡ 0
unfolding any_row put
process-renewed = refl

-- ---- what there is

object-cases : (x : ℕ) (o : ObjectRow) → In (key.Object x, rows.Object o) opening_rows → ((x ≡ 1024) × (o ≡ job_row)) ⊎ ((x ≡ 1025) × (o ≡ process_row))
object-cases x o (inl e) = let f : key.Object x ≡ key.Counters = ap (λ (z : RowKey × Row). z.0) e in cc
object-cases x o (inr (inl e)) =
    let f : key.Object x ≡ key.Object 1024 = ap (λ (z : RowKey × Row). z.0) e in
    let g : rows.Object o ≡ rows.Object job_row = ap (λ (z : RowKey × Row). z.1) e in
    inl (cc, cc)
object-cases x o (inr (inr (inl e))) =
    let f : key.Object x ≡ key.Object 1025 = ap (λ (z : RowKey × Row). z.0) e in
    let g : rows.Object o ≡ rows.Object process_row = ap (λ (z : RowKey × Row). z.1) e in
    inr (cc, cc)
object-cases x o (inr (inr (inr (inl e)))) = let f : key.Object x ≡ key.Entry 1025 3 = ap (λ (z : RowKey × Row). z.0) e in cc
object-cases x o (inr (inr (inr (inr e)))) = absurd e

object-opening : (x : ℕ) (o : ObjectRow) → object opening x ≡ Some o → ((x ≡ 1024) × (o ≡ job_row)) ⊎ ((x ≡ 1025) × (o ≡ process_row))
object-opening x o h = object-cases x o (in-opening (key.Object x) (rows.Object o) (object-row opening x o h))

-- a fact of the two objects
pub of_both : (P : ℕ → ObjectRow → Type 0) → P 1024 job_row → P 1025 process_row → (x : ℕ) (o : ObjectRow) → object opening x ≡ Some o → P x o
of_both P job process x o h = elim (object-opening x o h) [
  | inl e ↦ subst (λ z. P z o) (sym e.0) (subst (λ z. P 1024 z) (sym e.1) job)
  | inr e ↦ subst (λ z. P z o) (sym e.0) (subst (λ z. P 1025 z) (sym e.1) process)
]

entry-cases : (p h : ℕ) (held : Held) → In (key.Entry p h, rows.Entry held) opening_rows → (p ≡ 1025) × (h ≡ 3) × (held ≡ held_row)
entry-cases p h held (inl e) = let f : key.Entry p h ≡ key.Counters = ap (λ (z : RowKey × Row). z.0) e in cc
entry-cases p h held (inr (inl e)) = let f : key.Entry p h ≡ key.Object 1024 = ap (λ (z : RowKey × Row). z.0) e in cc
entry-cases p h held (inr (inr (inl e))) = let f : key.Entry p h ≡ key.Object 1025 = ap (λ (z : RowKey × Row). z.0) e in cc
entry-cases p h held (inr (inr (inr (inl e)))) =
    let f : key.Entry p h ≡ key.Entry 1025 3 = ap (λ (z : RowKey × Row). z.0) e in
    let g : rows.Entry held ≡ rows.Entry held_row = ap (λ (z : RowKey × Row). z.1) e in
    (cc, cc, cc)
entry-cases p h held (inr (inr (inr (inr e)))) = absurd e

typed-cases : (k : RowKey) (r : Row) → In (k, r) opening_rows → suits k r ≡ true
typed-cases k r (inl e) = ap (λ (z : RowKey × Row). suits z.0 z.1) e
typed-cases k r (inr (inl e)) = ap (λ (z : RowKey × Row). suits z.0 z.1) e
typed-cases k r (inr (inr (inl e))) = ap (λ (z : RowKey × Row). suits z.0 z.1) e
typed-cases k r (inr (inr (inr (inl e)))) = ap (λ (z : RowKey × Row). suits z.0 z.1) e
typed-cases k r (inr (inr (inr (inr e)))) = absurd e

-- no row of these variants
no_message : (e n : ℕ) (m : MessageContent) → In (key.Msg e n, rows.Msg m) opening_rows → ⊥
no_message e n m (inl f) = let g : key.Msg e n ≡ key.Counters = ap (λ (z : RowKey × Row). z.0) f in cc
no_message e n m (inr (inl f)) = let g : key.Msg e n ≡ key.Object 1024 = ap (λ (z : RowKey × Row). z.0) f in cc
no_message e n m (inr (inr (inl f))) = let g : key.Msg e n ≡ key.Object 1025 = ap (λ (z : RowKey × Row). z.0) f in cc
no_message e n m (inr (inr (inr (inl f)))) = let g : key.Msg e n ≡ key.Entry 1025 3 = ap (λ (z : RowKey × Row). z.0) f in cc
no_message e n m (inr (inr (inr (inr f)))) = f

no_packet : (e n : ℕ) (m : Packet) → In (key.Packet e n, rows.Packet m) opening_rows → ⊥
no_packet e n m (inl f) = let g : key.Packet e n ≡ key.Counters = ap (λ (z : RowKey × Row). z.0) f in cc
no_packet e n m (inr (inl f)) = let g : key.Packet e n ≡ key.Object 1024 = ap (λ (z : RowKey × Row). z.0) f in cc
no_packet e n m (inr (inr (inl f))) = let g : key.Packet e n ≡ key.Object 1025 = ap (λ (z : RowKey × Row). z.0) f in cc
no_packet e n m (inr (inr (inr (inl f)))) = let g : key.Packet e n ≡ key.Entry 1025 3 = ap (λ (z : RowKey × Row). z.0) f in cc
no_packet e n m (inr (inr (inr (inr f)))) = f

no_wait : (n : ℕ) (w : Wait) → In (key.Wait n, rows.Wait w) opening_rows → ⊥
no_wait n w (inl f) = let g : key.Wait n ≡ key.Counters = ap (λ (z : RowKey × Row). z.0) f in cc
no_wait n w (inr (inl f)) = let g : key.Wait n ≡ key.Object 1024 = ap (λ (z : RowKey × Row). z.0) f in cc
no_wait n w (inr (inr (inl f))) = let g : key.Wait n ≡ key.Object 1025 = ap (λ (z : RowKey × Row). z.0) f in cc
no_wait n w (inr (inr (inr (inl f)))) = let g : key.Wait n ≡ key.Entry 1025 3 = ap (λ (z : RowKey × Row). z.0) f in cc
no_wait n w (inr (inr (inr (inr f)))) = f

-- ---- it is sound

job-sound : SoundObject opening 1024 job_row
job-sound = record {
  low = omega arith;
  high = rw counters-opening (omega arith);
  peers = λ e. cc;
  parents = λ e. cc;
  alone = λ e f. refl;
  lives = refl;
  signals = refl;
}

process-sound : SoundObject opening 1025 process_row
process-sound = record {
  low = omega arith;
  high = rw counters-opening (omega arith);
  peers = λ e. cc;
  parents = λ e. record { parent = job_row; there = object-job; live = refl; smaller = omega arith };
  alone = λ e f. cc;
  lives = refl;
  signals = refl;
}

entry-sound : SoundEntry opening 1025 3 held_row
unfolding row put
entry-sound = record { owner = refl; value = (0, refl, omega arith); names = refl }

sound-opening : IsSound opening
sound-opening = record {
  typed = λ k r h. typed-cases k r (in-opening k r h);
  root = ap (λ r. elim r [ Some o ↦ Some o.kind | None ↦ None ]) object-job;
  of_objects = of_both (λ x o. SoundObject opening x o) job-sound process-sound;
  of_entries = λ p h held e.
      let w = entry-cases p h held (in-opening (key.Entry p h) (rows.Entry held) (entry-row opening p h held e)) in
      subst (λ z. SoundEntry opening z h held) (sym w.0) (subst (λ z. SoundEntry opening 1025 z held) (sym w.1) (subst (λ z. SoundEntry opening 1025 3 z) (sym w.2) entry-sound));
  of_messages = λ e n m h. absurd (no_message e n m (in-opening (key.Msg e n) (rows.Msg m) (message-row opening e n m h)));
  of_packets = λ e n m h. absurd (no_packet e n m (in-opening (key.Packet e n) (rows.Packet m) (packet-row opening e n m h)));
  of_waits = λ n w h. absurd (no_wait n w (in-opening (key.Wait n) (rows.Wait w) (wait-row opening n w h)));
  ports = λ x. let e : pending opening x ≡ 0 = pending-opening x in omega arith;
  depths = of_both (λ x o. is_live_job o ≡ true → depth opening x ≤ most_depth) (λ e. let d : depth opening 1024 ≡ 0 = depth-opening in omega arith) (λ e. cc);
  criticals = of_both (λ x o. SoundCritical opening x o) (inl refl) (inl refl);
}

-- every history begins with a consistent state
pub opening-consistent : IsConsistent opening
opening-consistent = record {
  sound = sound-opening;
  supported = λ x e.
      let w = some-exists opening x e in
      of_both (λ x o. is_supported opening x ≡ true) (kept-supported opening 1024 (by_itself job_row object-job refl)) (kept-supported opening 1025 (by_itself process_row object-process refl)) x w.0 w.1;
  agrees = of_both (λ x o. renewed opening x o ≡ o.signals.0) job-renewed process-renewed;
  waiting = λ n w h. absurd (no_wait n w (in-opening (key.Wait n) (rows.Wait w) (wait-row opening n w h)));
}

pub ruleset opening_laws = (opening-consistent)
