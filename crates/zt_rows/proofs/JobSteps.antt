-- The calls on jobs and processes leave a sound state sound, and give out no more than a call gives.
use Rattle.std.proofs.Common.{◌≡◌, ◌<◌, ℕ, Bool, true, false, ◌||◌, inl, inr, refl, sym, ap, ◌∙◌, subst, arith}
use Rattle.std.specs.Prelude.{ℤ, Option, None, Some, Result, Ok, nat_lt, if◌then◌else◌, ◌==◌, ◌&&◌}
use Rattle.std.proofs.lemmas.Bool.{ltb-true}
use Rattle.zt_bits.specs.declared.kinds.Kind.{Kind}
use Rattle.zt_bits.specs.declared.kinds.Kind.TheVariants as kind
use Rattle.zt_bits.specs.declared.statuses.Status.{Status}
use Rattle.zt_bits.specs.declared.statuses.Status.TheVariants as status
use Rattle.zt_rows.specs.declared.calls.Reply.{Reply}
use Rattle.zt_rows.specs.declared.rows.Counters.{Counters}
use Rattle.zt_rows.specs.declared.rows.Held.{Held}
use Rattle.zt_rows.specs.declared.keys.RowKey.TheVariants as key
use Rattle.zt_rows.specs.declared.rows.Life.{Life}
use Rattle.zt_rows.specs.declared.rows.Life.TheVariants as life
use Rattle.zt_rows.specs.declared.rows.Row.TheVariants as rows
use Rattle.zt_rows.specs.declared.rows.ObjectRow.{ObjectRow}
use Rattle.zt_rows.specs.State.{State, put}
use Rattle.zt_rows.specs.Reads.{counters, object, is_job, is_process, is_live, is_live_job, is_live_process, has_live_process}
use Rattle.zt_rows.specs.Tests.{any_kind, is_task as is_task_kind, next_at, object_next, among}
use Rattle.zt_rows.specs.End.{chain, depth, is_live_task, is_under, ends_with, end}
use Rattle.zt_rows.specs.Handles.{◌>>=◌, handle, answered, take_out, install, whole, fresh, next_koid, make}
use Rattle.zt_rows.specs.JobCalls.{most_depth, job_create, argument, child, hand_over, spawn, job_set_critical, task_kill, others, process_exit}
use Rattle.zt_rows.specs.Consistent.{IsSound}
use Rattle.zt_rows.proofs.RowLaws.{and_both, or_left, or_right}
use Rattle.zt_rows.proofs.ReadLaws.{some_one, exists-some}
use Rattle.zt_rows.proofs.GrownLaws.{Kept, sound-install}
use Rattle.zt_rows.proofs.MakeLaws.{object-made, others-made}
use Rattle.zt_rows.proofs.TakeLaws.{object-taken, counters-taken, sound-taken}
use Rattle.zt_rows.proofs.PutLaws.{chain-shaped, sound-shaped}
use Rattle.zt_rows.proofs.AboveLaws.{under-cases}
use Rattle.zt_rows.proofs.StepLaws.{Found, chained, after_check, after_handle, caller-is}
use Rattle.zt_rows.proofs.GivenLaws.{OfKind, spends-spends, spends-object, spends-make, spends-take_out_all, spends-install, Called, spends-called, called-nothing}
use Rattle.zt_rows.proofs.MadeTaskLaws.{sound-task, sound-spawn_bare, spends-spawn_bare, sound-spawn_given, spends-spawn_given}
use Rattle.zt_rows.proofs.EndLaws.{spends-end}
use Rattle.zt_rows.proofs.KillLaws.{sound-kill, sound-exit}

-- ---- a job under a job

pub sound-job_create : (S : State) (p h : ℕ) → IsSound S → has_live_process S p ≡ true → IsSound (job_create S p h).0
sound-job_create S p h sound live =
    let w = caller-is S p live in
    after_handle IsSound S status.WrongType p h is_job 0x10000 _ sound (λ held job found.
    after_check IsSound S (is_live job.life) status.BadState _ sound (λ lives.
    after_check IsSound S (nat_lt (depth S held.koid) most_depth) status.OutOfRange _ sound (λ shallow.
    let o : ObjectRow = fresh kind.Job held.koid in
    let T : State = make (counters S) o S in
    let few : depth S held.koid < most_depth = ltb-true (depth S held.koid) most_depth shallow in
    let made : IsSound T = sound-task S sound held.koid job found.object_there (and_both (is_job job.kind) _ found.of_kind lives) kind.Job refl 0 (λ _. few) in
    subst (λ me. IsSound (install p me (whole (next_koid S) kind.Job) T)) (sym w.3)
    (sound-install T made p w.0 (others-made S sound o p w.0 w.1) w.2 (whole (next_koid S) kind.Job) (exists-some T (next_koid S) o (object-made S sound o))))))

pub called-job_create : (S : State) (p h : ℕ) → IsSound S → has_live_process S p ≡ true → Called S (job_create S p h).0
called-job_create S p h sound live =
    let w = caller-is S p live in
    after_handle (Called S) S status.WrongType p h is_job 0x10000 _ (called-nothing S) (λ held job found.
    after_check (Called S) S (is_live job.life) status.BadState _ (called-nothing S) (λ lives.
    after_check (Called S) S (nat_lt (depth S held.koid) most_depth) status.OutOfRange _ (called-nothing S) (λ shallow.
    let o : ObjectRow = fresh kind.Job held.koid in
    let T : State = make (counters S) o S in
    let U : State = install p w.0 (whole (next_koid S) kind.Job) T in
    subst (λ me. Called S (install p me (whole (next_koid S) kind.Job) T)) (sym w.3)
    (spends-called 1 1 0 S U (omega arith) (omega arith) (omega arith)
    (spends-spends 1 0 0 0 1 0 S T U (spends-make S sound o refl) (spends-install T p w.0 (whole (next_koid S) kind.Job) (others-made S sound o p w.0 w.1) w.2))))))

-- ---- a process under a job

-- a fact of the state that a call leaves, from what the argument of a spawn hands over
after_argument : (P : State → Type 0) (S : State) (p arg : ℕ) (f : Option Held → Result (State × Reply) Status) → P S → P (answered S (f None)).0 → ((held : Held) (o : ObjectRow) → Found S p arg any_kind 0x2 held o → P (answered S (f (Some held))).0) → P (answered S (argument S p arg >>= f)).0
after_argument P S p arg f base none some =
    elim (arg == 0) as (λ b. P (answered S ((if b then Ok None else (handle S p arg any_kind 0x2 >>= (λ w. Ok (Some w.0)))) >>= f)).0) [
      | true ↦ none
      | false ↦ subst (λ r. P (answered S r).0) (sym (chained (handle S p arg any_kind 0x2) (λ w. Ok (Some w.0)) f)) (after_handle P S status.WrongType p arg any_kind 0x2 (λ w. Ok (Some w.0) >>= f) base some)
    ]

-- the state after a spawn, where x is the next koid of these counters and the old state is T
abbrev spawned : ℕ → ObjectRow → ℕ → Option Held → Counters → State → State
spawned p me l given c T = install p me (whole c.next_koid kind.Process) (hand_over given c.next_koid (make c (child given l) T))

pub sound-spawn : (S : State) (p h arg : ℕ) → IsSound S → has_live_process S p ≡ true → IsSound (spawn S p h arg).0
sound-spawn S p h arg sound live =
    let w = caller-is S p live in
    after_handle IsSound S status.WrongType p h is_job 0x20000 _ sound (λ held job found.
    after_argument IsSound S p arg _ sound
    (after_check IsSound S (is_live job.life) status.BadState _ sound (λ lives.
    subst (λ me. IsSound (spawned p me held.koid None (counters S) S)) (sym w.3)
    (sound-spawn_bare S sound p w.0 w.1 w.2 held.koid job found.object_there (and_both (is_job job.kind) _ found.of_kind lives))))
    (λ given o handed. after_check IsSound S (is_live job.life) status.BadState _ sound (λ lives.
    let T : State = take_out S p arg in
    let same : (x : ℕ) → object T x ≡ object S x = object-taken p (λ g. g == arg) S in
    subst (λ me. IsSound (spawned p me held.koid (Some given) (counters S) T)) (sym w.3)
    (subst (λ c. IsSound (spawned p w.0 held.koid (Some given) c T)) (counters-taken p (λ g. g == arg) S)
    (sound-spawn_given T (sound-taken p (λ g. g == arg) S sound) p w.0 (same p ∙ w.1) w.2 held.koid job (same held.koid ∙ found.object_there) (and_both (is_job job.kind) _ found.of_kind lives) given
    (exists-some T given.koid o (same given.koid ∙ handed.object_there)))))))

pub called-spawn : (S : State) (p h arg : ℕ) → IsSound S → has_live_process S p ≡ true → Called S (spawn S p h arg).0
called-spawn S p h arg sound live =
    let w = caller-is S p live in
    after_handle (Called S) S status.WrongType p h is_job 0x20000 _ (called-nothing S) (λ held job found.
    after_argument (Called S) S p arg _ (called-nothing S)
    (after_check (Called S) S (is_live job.life) status.BadState _ (called-nothing S) (λ lives.
    subst (λ me. Called S (spawned p me held.koid None (counters S) S)) (sym w.3)
    (spends-called 1 1 0 S (spawned p w.0 held.koid None (counters S) S) (omega arith) (omega arith) (omega arith)
    (spends-spawn_bare S sound p w.0 w.1 w.2 held.koid job found.object_there (and_both (is_job job.kind) _ found.of_kind lives)))))
    (λ given o handed. after_check (Called S) S (is_live job.life) status.BadState _ (called-nothing S) (λ lives.
    let T : State = take_out S p arg in
    let same : (x : ℕ) → object T x ≡ object S x = object-taken p (λ g. g == arg) S in
    let U : State = spawned p w.0 held.koid (Some given) (counters T) T in
    subst (λ me. Called S (spawned p me held.koid (Some given) (counters S) T)) (sym w.3)
    (subst (λ c. Called S (spawned p w.0 held.koid (Some given) c T)) (counters-taken p (λ g. g == arg) S)
    (spends-called 1 2 0 S U (omega arith) (omega arith) (omega arith)
    (spends-spends 0 0 0 1 2 0 S T U (spends-take_out_all S p (λ g. g == arg))
    (spends-spawn_given T (sound-taken p (λ g. g == arg) S sound) p w.0 (same p ∙ w.1) w.2 held.koid job (same held.koid ∙ found.object_there) (and_both (is_job job.kind) _ found.of_kind lives) given
    (exists-some T given.koid o (same given.koid ∙ handed.object_there)))))))))

-- ---- what is critical

-- a job and a process have different koids, and a process that has the job above it is live
critical-above : (S : State) → IsSound S → (j x : ℕ) (q o : ObjectRow) → object S j ≡ Some q → object S x ≡ Some o → is_job q.kind ≡ true → is_process o.kind ≡ true → is_under S j x ≡ true → (is_live_process o ≡ true) × (among (chain S x) j ≡ true)
critical-above S sound j x q o job process is_one is_other h = elim (under-cases S j x h) [
  | inl same ↦ absurd (one_kind o.kind is_other (ap (λ (z : ObjectRow). is_job z.kind) (some_one o q (sym process ∙ ap (object S) same ∙ job)) ∙ is_one))
  | inr w ↦ (process_lives o.kind (is_live o.life) is_other (ap is_live_task (sym process ∙ w.1) ∙ w.2), w.3)
]
  where
    one_kind : (k : Kind) → is_process k ≡ true → is_job k ≡ true → ⊥
    one_kind kind.Job e f = cc
    one_kind _ e f = cc

    process_lives : (k : Kind) (lives : Bool) → is_process k ≡ true → ((is_job k && lives) || (is_process k && lives)) ≡ true → (is_process k && lives) ≡ true
    process_lives kind.Process lives e t = t
    process_lives _ lives e t = cc

pub sound-job_set_critical : (S : State) (p job process : ℕ) → IsSound S → IsSound (job_set_critical S p job process).0
sound-job_set_critical S p job process sound =
    after_handle IsSound S status.WrongType p job is_job 0x200 _ sound (λ over q named.
    after_handle IsSound S status.WrongType p process is_process 0x4000 _ sound (λ held o found.
    after_check IsSound S (o.critical == 0) status.AlreadyBound _ sound (λ free.
    after_check IsSound S (is_under S over.koid held.koid) status.InvalidArgs _ sound (λ under.
    let w = critical-above S sound over.koid held.koid q o named.object_there found.object_there named.of_kind found.of_kind under in
    let bound : ObjectRow = record o { critical = over.koid } in
    let kept : Kept o bound = record { same = refl; next = omega arith } in
    let possible = (sound.of_objects held.koid o found.object_there).signals in
    let above : among (chain (put S (key.Object held.koid) (Some (rows.Object bound))) held.koid) over.koid ≡ true =
    ap (λ c. among c over.koid) (chain-shaped S sound held.koid o found.object_there bound kept possible (or_right (is_live_job o) _ w.0)) ∙ w.1 in
    sound-shaped S sound held.koid o found.object_there bound kept possible (inr (inr (w.0, above)))))))

pub called-job_set_critical : (S : State) (p job process : ℕ) → Called S (job_set_critical S p job process).0
called-job_set_critical S p job process =
    after_handle (Called S) S status.WrongType p job is_job 0x200 _ (called-nothing S) (λ over q named.
    after_handle (Called S) S status.WrongType p process is_process 0x4000 _ (called-nothing S) (λ held o found.
    after_check (Called S) S (o.critical == 0) status.AlreadyBound _ (called-nothing S) (λ free.
    after_check (Called S) S (is_under S over.koid held.koid) status.InvalidArgs _ (called-nothing S) (λ under.
    let bound : ObjectRow = record o { critical = over.koid } in
    let next : next_at S held.koid ≡ o.next = ap object_next found.object_there in
    spends-called 0 0 0 S (put S (key.Object held.koid) (Some (rows.Object bound))) (omega arith) (omega arith) (omega arith)
    (spends-object S 0 0 held.koid bound (subst (λ r. OfKind r o.kind) (sym found.object_there) refl) (omega arith))))))

-- ---- what ends

-- a job or process by its kind that lives
live_task : (k : Kind) (lives : Bool) → is_task_kind k ≡ true → lives ≡ true → ((is_job k && lives) || (is_process k && lives)) ≡ true
live_task kind.Job lives t e = or_left (true && lives) _ e
live_task kind.Process lives t e = e
live_task _ lives t e = cc

pub sound-task_kill : (S : State) (p h : ℕ) → IsSound S → IsSound (task_kill S p h).0
sound-task_kill S p h sound =
    after_handle IsSound S status.WrongType p h is_task_kind 0x200 _ sound (λ held task found.
    elim (is_live task.life) as (λ b. is_live task.life ≡ b → IsSound (if b then end S (ends_with S held.koid) life.Killed else S)) [
      | true ↦ λ lives. sound-kill S sound held.koid task found.object_there (live_task task.kind (is_live task.life) found.of_kind lives)
      | false ↦ λ lives. sound
    ] refl)

called-end : (S : State) (ending : ℕ → Bool) (how : Life) → Called S (end S ending how)
called-end S ending how = spends-called 0 0 0 S (end S ending how) (omega arith) (omega arith) (omega arith) (spends-end ending how S)

pub called-task_kill : (S : State) (p h : ℕ) → Called S (task_kill S p h).0
called-task_kill S p h =
    after_handle (Called S) S status.WrongType p h is_task_kind 0x200 _ (called-nothing S) (λ held task found.
    elim (is_live task.life) as (λ b. Called S (if b then end S (ends_with S held.koid) life.Killed else S)) [
      | true ↦ called-end S (ends_with S held.koid) life.Killed
      | false ↦ called-nothing S
    ])

pub sound-process_exit : (S : State) (p : ℕ) (code : ℤ) → IsSound S → has_live_process S p ≡ true → IsSound (process_exit S p code).0
sound-process_exit S p code sound live =
    let w = caller-is S p live in
    sound-exit S sound p w.0 w.1 w.2 code

pub called-process_exit : (S : State) (p : ℕ) (code : ℤ) → Called S (process_exit S p code).0
called-process_exit S p code =
    let T : State = end S (λ x. x == p) (life.Exited code) in
    spends-called 0 0 0 S (end T (others S p) life.Killed) (omega arith) (omega arith) (omega arith)
    (spends-spends 0 0 0 0 0 0 S T (end T (others S p) life.Killed) (spends-end (λ x. x == p) (life.Exited code) S) (spends-end (others S p) life.Killed T))
