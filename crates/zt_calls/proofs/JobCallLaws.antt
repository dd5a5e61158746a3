-- What the parts of a call on jobs and processes do one after another is what the call does.
use Rattle.std.proofs.Common.{lit≤, ◌≡◌, ◌≤◌, ℕ, zero, suc, ◌+◌, ◌-◌, ◌^◌, ◌<◌, Bool, true, false, ◌&&◌, ◌||◌, List, length, refl, sym, ap, ◌∙◌, subst, arith}
use Rattle.std.specs.Prelude.{◌==◌, Option, None, Some, Result, Ok, Err, ok_or}
use Rattle.zt_bits.specs.declared.kinds.Kind.{Kind}
use Rattle.zt_bits.specs.declared.kinds.Kind.TheVariants as kind
use Rattle.zt_bits.specs.declared.statuses.Status.{Status}
use Rattle.zt_bits.specs.declared.statuses.Status.TheVariants as status
use Rattle.zt_rows.specs.declared.calls.Reply.{Reply}
use Rattle.zt_rows.specs.declared.calls.Reply.TheVariants as reply
use Rattle.zt_rows.specs.declared.keys.RowKey.TheVariants as key
use Rattle.zt_rows.specs.declared.rows.Counters.{Counters}
use Rattle.zt_rows.specs.declared.rows.Held.{Held}
use Rattle.zt_rows.specs.declared.rows.ObjectRow.{ObjectRow}
use Rattle.zt_rows.specs.declared.rows.Row.TheVariants as rows
use Rattle.zt_rows.specs.State.{State}
use Rattle.zt_rows.specs.Reads.{as_object, counters, object, entry, is_live, is_job, is_process, is_live_job, is_live_process, on_object, has_live_process}
use Rattle.zt_rows.specs.Tests.{has_all, is_task, link_at, next_at}
use Rattle.zt_rows.specs.Room.{HasRoom}
use Rattle.zt_rows.specs.Handles.{◌>>=◌, check, handle_else, answered, as_caller, caller, value_of, whole, fresh, next_koid, install, make}
use Rattle.zt_rows.specs.JobCalls.{argument, give_up, child, hand_over, spawn}
use Rattle.zt_rows.specs.End.{upward, links, chain, depth, ends_with}
use Rattle.zt_rows.specs.Consistent.{IsSound}
use Rattle.zt_rows.proofs.RowLaws.{or_left, or_right}
use Rattle.zt_rows.proofs.SoundLaws.{has_live_process-some}
use Rattle.zt_jobs.specs.EndingWalk.{IsWalkable}
use Rattle.zt_jobs.proofs.EndingLaws.{sound-walkable}
use Rattle.zt_rows.proofs.StateLaws.{row-put}
use Rattle.zt_rows.proofs.TakeLaws.{object-taken, counters-taken, sound-taken}
use Rattle.zt_store.specs.StepView.{Stepping, Advanced, begun}
use Rattle.zt_calls.specs.declared.handle_arguments.ExpectedKind.TheVariants as want
use Rattle.zt_calls.specs.declared.failure.Failure.{Failure}
use Rattle.zt_calls.specs.declared.failure.Failure.TheVariants as failure
use Rattle.zt_calls.specs.ProofsOnly.CallOutcomes.{Does}
use Rattle.zt_calls.specs.ProofsOnly.ExpectedKinds.{handle_to}
use Rattle.zt_calls.specs.ProofsOnly.NewTasks.{job_made, process_made}
use Rattle.zt_calls.proofs.GoingOn.{reached}
use Rattle.zt_calls.proofs.CallLaws.{installed_on}
use Rattle.zt_calls.proofs.CallerLaws.{room-installs, next-same, object-of-made}

-- ---- what a handle names

same_ok : {A B : Type 0} (x y : A) → ◌≡◌ {A = Result A B} (Ok x) (Ok y) → x ≡ y
same_ok x y e = cc

-- the checks of a handle, from the last on
abbrev both : Bool → Bool → Status → Held → ObjectRow → Result (Held × ObjectRow) Status
both a b wrong g u = do
  _ ← check a wrong
  _ ← check b status.AccessDenied
  Ok (g, u)

abbrev of_object : Status → (Kind → Bool) → ℕ → Held → Option ObjectRow → Result (Held × ObjectRow) Status
of_object wrong wanted rights g r = do
  u ← ok_or r status.BadHandle
  both (wanted u.kind) (has_all g.rights.0 rights) wrong g u

abbrev of_entry : Status → State → (Kind → Bool) → ℕ → Option Held → Result (Held × ObjectRow) Status
of_entry wrong S wanted rights r = do
  g ← ok_or r status.BadHandle
  of_object wrong wanted rights g (object S g.koid)

passed : (a b : Bool) (wrong : Status) (g held : Held) (u o : ObjectRow) → both a b wrong g u ≡ Ok (held, o) → (g ≡ held) × (u ≡ o)
passed true true wrong g held u o e =
    let same : ◌≡◌ {A = Held × ObjectRow} (g, u) (held, o) = same_ok (g, u) (held, o) e in
    (ap (λ (z : Held × ObjectRow). z.0) same, ap (λ (z : Held × ObjectRow). z.1) same)
passed true false wrong g held u o e = cc
passed false b wrong g held u o e = cc

-- a handle that passed its checks is an entry of the process, and names an object
pub named-object : (S : State) (wrong : Status) (p h : ℕ) (wanted : Kind → Bool) (rights : ℕ) (held : Held) (o : ObjectRow) → handle_else wrong S p h wanted rights ≡ Ok (held, o) → (entry S p h ≡ Some held) × (object S held.koid ≡ Some o)
named-object S wrong p h wanted rights held o e = entered (entry S p h) refl e
  where
    found : (g : Held) (r : Option ObjectRow) → object S g.koid ≡ r → entry S p h ≡ Some g → of_object wrong wanted rights g r ≡ Ok (held, o) → (entry S p h ≡ Some held) × (object S held.koid ≡ Some o)
    found g None there here e = cc
    found g (Some u) there here e =
        let w = passed (wanted u.kind) (has_all g.rights.0 rights) wrong g held u o e in
        (here ∙ ap Some w.0, ap (λ (z : Held). object S z.koid) (sym w.0) ∙ there ∙ ap Some w.1)

    entered : (r : Option Held) → entry S p h ≡ r → of_entry wrong S wanted rights r ≡ Ok (held, o) → (entry S p h ≡ Some held) × (object S held.koid ≡ Some o)
    entered None here e = cc
    entered (Some g) here e = found g (object S g.koid) refl here e

-- its kind is one of those that are wanted
pub named-kind : (S : State) (wrong : Status) (p h : ℕ) (wanted : Kind → Bool) (rights : ℕ) (held : Held) (o : ObjectRow) → handle_else wrong S p h wanted rights ≡ Ok (held, o) → wanted o.kind ≡ true
named-kind S wrong p h wanted rights held o e = entered (entry S p h) e
  where
    of_kind : (a b : Bool) (g : Held) (u : ObjectRow) → a ≡ wanted u.kind → both a b wrong g u ≡ Ok (held, o) → wanted o.kind ≡ true
    of_kind true b g u is e = ap (λ (z : ObjectRow). wanted z.kind) (sym (passed true b wrong g held u o e).1) ∙ sym is
    of_kind false b g u is e = cc

    found : (g : Held) (r : Option ObjectRow) → of_object wrong wanted rights g r ≡ Ok (held, o) → wanted o.kind ≡ true
    found g None e = cc
    found g (Some u) e = of_kind (wanted u.kind) (has_all g.rights.0 rights) g u refl e

    entered : (r : Option Held) → of_entry wrong S wanted rights r ≡ Ok (held, o) → wanted o.kind ≡ true
    entered None e = cc
    entered (Some g) e = found g (object S g.koid) e

-- ---- what ends

live_task : (k : Kind) (lives : Bool) → is_task k ≡ true → lives ≡ true → ((is_job k && lives) || (is_process k && lives)) ≡ true
live_task kind.Job lives t e = or_left (true && lives) _ e
live_task kind.Process lives t e = e
live_task _ lives t e = cc

-- the walk finds what ends with a live process or job that a handle names
pub named-walkable : (S : State) → IsSound S → (wrong : Status) (p h rights : ℕ) (held : Held) (o : ObjectRow) → handle_else wrong S p h is_task rights ≡ Ok (held, o) → is_live o.life ≡ true → IsWalkable S held.koid (ends_with S held.koid)
named-walkable S sound wrong p h rights held o e live =
    sound-walkable S sound held.koid o (named-object S wrong p h is_task rights held o e).1
    (live_task o.kind (is_live o.life) (named-kind S wrong p h is_task rights held o e) live)

-- and what ends with the caller
pub caller-walkable : (S : State) → IsSound S → (p : ℕ) → has_live_process S p ≡ true → IsWalkable S p (ends_with S p)
caller-walkable S sound p live = let w = has_live_process-some S p live in sound-walkable S sound p w.0 w.1 (or_right (is_live_job w.0) _ w.2)

-- the koid of an object leaves room for one more
pub koid-fits : (S : State) (x : ℕ) (o : ObjectRow) → HasRoom S → IsSound S → object S x ≡ Some o → x + 1 < 2 ^ 64
koid-fits S x o room sound there =
    let high : x < next_koid S = (sound.of_objects x o there).high in
    let few : next_koid S ≤ 2 ^ 62 = room.koids in
    omega arith

upward-few : (n l : ℕ) (above : ℕ → List ℕ) → ((y : ℕ) → length (above y) ≤ n) → length (upward l above) ≤ suc n
upward-few n zero above few = omega arith
upward-few n (suc k) above few = let e = few (suc k) in omega (arith, e)

links-few : (n : ℕ) (S : State) (x : ℕ) → length (links n S x) ≤ n
unfolding links
links-few zero S x = lit≤ tt
links-few (suc n) S x = upward-few n (link_at S x) (λ y. links n S y) (λ y. links-few n S y)

-- the number of jobs above an object fits in 64 bits
pub depth-fits : (S : State) (x : ℕ) (o : ObjectRow) → HasRoom S → IsSound S → object S x ≡ Some o → depth S x < 2 ^ 64
unfolding chain
depth-fits S x o room sound there =
    let few = links-few (x + 1) S x in
    let fits = koid-fits S x o room sound there in
    omega (arith, few, fits)

pub next-fits : (S : State) → HasRoom S → next_koid S + 1 < 2 ^ 64
next-fits S room = let few : next_koid S ≤ 2 ^ 62 = room.koids in omega arith

pub value-fits : (S : State) (p : ℕ) → HasRoom S → has_live_process S p ≡ true → next_at S p < 2 ^ 30
value-fits S p room live = let n : next_at S p ≤ 2 ^ 30 - 64 = room-installs S p room live in omega arith

-- the next value in a state in which the caller's row is the same
next-on : (s t : Stepping) (T : State) (p : ℕ) → Advanced s t T → object T p ≡ object s.current p → next_at s.current p < 2 ^ 30 → next_at t.current p < 2 ^ 30
next-on s t T p went same fits =
    let at : next_at t.current p ≡ next_at s.current p = ap (λ S. next_at S p) went.1 ∙ next-same s.current T p same in
    omega arith

-- ---- a job

module _ (s t : Stepping) (p parent : ℕ) (sound : IsSound s.current) (live : has_live_process s.current p ≡ true) (made : Advanced s t (make (counters s.current) (fresh kind.Job parent) s.current)) where
  pub job-fits : next_at s.current p < 2 ^ 30 → next_at t.current p < 2 ^ 30
  job-fits fits = next-on s t (make (counters s.current) (fresh kind.Job parent) s.current) p made (object-of-made s.current p (fresh kind.Job parent) sound live) fits

  pub job-does : (u : Stepping) (value koid : ℕ) (held : Held) → koid ≡ next_koid s.current → held ≡ whole koid kind.Job → Advanced t u (install p (caller t.current p) held t.current) → value ≡ value_of (next_at t.current p) → (Advanced s u (job_made s.current p parent).0) × (reply.Handle value ≡ (job_made s.current p parent).1)
  job-does u value koid held named is installed valued =
      let T : State = make (counters s.current) (fresh kind.Job parent) s.current in
      let w = installed_on s t u T p value held made (object-of-made s.current p (fresh kind.Job parent) sound live) installed valued in
      (reached s u _ _ w.0 (ap (λ h. install p (caller s.current p) h T) (is ∙ ap (λ x. whole x kind.Job) named)), ap reply.Handle w.1)

-- ---- a process

object-of-handed : (S : State) (given : Option Held) (x p : ℕ) → object (hand_over given x S) p ≡ object S p
object-of-handed S (Some held) x p = ap as_object (row-put S (key.Entry x (value_of 0)) (Some (rows.Entry held)) (key.Object p))
object-of-handed S None x p = refl

module _ (s t : Stepping) (p job : ℕ) (given : Option Held) (sound : IsSound s.current) (live : has_live_process s.current p ≡ true) (made : Advanced s t (hand_over given (next_koid s.current) (make (counters s.current) (child given job) s.current))) where
  abbrev with_process : State
  with_process = hand_over given (next_koid s.current) (make (counters s.current) (child given job) s.current)

  same-caller : object with_process p ≡ object s.current p
  same-caller =
      object-of-handed (make (counters s.current) (child given job) s.current) given (next_koid s.current) p
      ∙ object-of-made s.current p (child given job) sound live

  pub process-fits : next_at s.current p < 2 ^ 30 → next_at t.current p < 2 ^ 30
  process-fits fits = next-on s t with_process p made same-caller fits

  pub process-does : (u : Stepping) (value koid : ℕ) (held : Held) → koid ≡ next_koid s.current → held ≡ whole koid kind.Process → Advanced t u (install p (caller t.current p) held t.current) → value ≡ value_of (next_at t.current p) → (Advanced s u (process_made s.current p job given).0) × (reply.Spawned value koid ≡ (process_made s.current p job given).1)
  process-does u value koid held named is installed valued =
      let w = installed_on s t u with_process p value held made same-caller installed valued in (
        reached s u _ _ w.0 (ap (λ h. install p (caller s.current p) h with_process) (is ∙ ap (λ x. whole x kind.Process) named)),
        λ i. reply.Spawned (w.1 i) (named i),
      )

-- ---- what is handed over

module _ (S : State) (p h : ℕ) where
  pub gave-object : (given : Option Held) (x : ℕ) → object (give_up given p h S) x ≡ object S x
  gave-object (Some held) x = object-taken p (λ g. g == h) S x
  gave-object None x = refl

  gave-counters : (given : Option Held) → counters (give_up given p h S) ≡ counters S
  gave-counters (Some held) = counters-taken p (λ g. g == h) S
  gave-counters None = refl

  gave-sound : (given : Option Held) → IsSound S → IsSound (give_up given p h S)
  gave-sound (Some held) sound = sound-taken p (λ g. g == h) S sound
  gave-sound None sound = sound

-- the call goes on in the state in which the caller gave up what it hands over
module _ (s t : Stepping) (p h : ℕ) (given : Option Held) (gave : Advanced s t (give_up given p h s.current)) where
  pub gave-koids : HasRoom s.current → next_koid t.current + 1 < 2 ^ 64
  gave-koids room =
      let e : next_koid t.current ≡ next_koid s.current = ap (λ (c : Counters). c.next_koid) (ap counters gave.1 ∙ gave-counters s.current p h given) in
      let few : next_koid s.current ≤ 2 ^ 62 = room.koids in
      omega arith

  pub gave-values : HasRoom s.current → has_live_process s.current p ≡ true → next_at t.current p < 2 ^ 30
  gave-values room live = next-on s t (give_up given p h s.current) p gave (gave-object s.current p h given p) (value-fits s.current p room live)

  pub gave-still_sound : IsSound s.current → IsSound t.current
  gave-still_sound sound = subst IsSound (sym gave.1) (gave-sound s.current p h given sound)

  pub gave-has_live_process : has_live_process s.current p ≡ true → has_live_process t.current p ≡ true
  gave-has_live_process live = ap (on_object is_live_process) (ap (λ S. object S p) gave.1 ∙ gave-object s.current p h given p) ∙ live

-- the call, once its checks passed
pub spawned : (S : State) (p h arg : ℕ) (held : Held) (o : ObjectRow) (given : Option Held) → handle_to S p h want.Job 0x20000 ≡ Ok (held, o) → argument S p arg ≡ Ok given → is_live o.life ≡ true → spawn S p h arg ≡ process_made (give_up given p arg S) p held.koid given
spawned S p h arg held o given found handed lives =
    let T : State = give_up given p arg S in
    let made : ObjectRow → Counters → State × Reply = λ me c. (
      install p me (whole c.next_koid kind.Process) (hand_over given c.next_koid (make c (child given held.koid) T)),
      reply.Spawned (value_of me.next) c.next_koid,
    ) in
    let after : Option Held → Held × ObjectRow → Result (State × Reply) Status = λ g w. check (is_live w.1.life) status.BadState >>= (λ _. Ok (
      install p (caller S p) (whole (next_koid S) kind.Process) (hand_over g (next_koid S) (make (counters S) (child g w.0.koid) (give_up g p arg S))),
      reply.Spawned (value_of (caller S p).next) (next_koid S),
    )) in
    ap (λ r. answered S (r >>= (λ (w : Held × ObjectRow). argument S p arg >>= (λ g. after g w)))) found
    ∙ ap (λ r. answered S (r >>= (λ g. after g (held, o)))) handed
    ∙ ap (λ b. answered S (check b status.BadState >>= (λ _. Ok (made (caller S p) (counters S))))) lives
    ∙ (λ i. made (sym (ap as_caller (gave-object S p arg given p)) i) (sym (gave-counters S p arg given) i))

-- ---- the rest of a call

-- a call does what its rest does, from where the rest began
pub does-from : (s t u : Stepping) (d e : State × Reply) (r : Result Reply Failure) → t.beginning ≡ s.beginning → d ≡ e → Does e t u r → Does d s u r
does-from s t u d e (Ok answer) same is does =
    ((does.0.0 ∙ same, does.0.1 ∙ ap (λ (z : State × Reply). z.0) (sym is)), does.1 ∙ ap (λ (z : State × Reply). z.1) (sym is))
does-from s t u d e (Err (failure.Status wrong)) same is does =
    ((does.0.0 ∙ same, does.0.1 ∙ ap (λ (z : State × Reply). z.0) (sym is)), does.1 ∙ ap (λ (z : State × Reply). z.1) (sym is))
does-from s t u d e (Err failure.OutOfMemory) same is does = does ∙ ap (λ S. begun S u.places) same
