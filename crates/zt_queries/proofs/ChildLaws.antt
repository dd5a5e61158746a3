-- The live children of jobs. A live child of a leaked job is a leaked job; what is a live child of an object that was out of
-- reach before a call was its live child then; and a call ends no live child of a leaked job that it leaves alive, nor does
-- one go. A set that has with each object its live children has all that is under its members.
use Rattle.std.proofs.Common.{◌≡◌, ◌≤◌, ◌<◌, ℕ, zero, suc, ◌+◌, Bool, true, false, cond, not, ◌&&◌, ◌||◌, List, [], ◌∷◌, inl, inr, refl, sym, ap, ◌∙◌, subst, arith}
use Rattle.std.specs.Prelude.{ℤ, Option, None, Some, Result, Ok, ok_or, option_and_then, if◌then◌else◌, ◌==◌, nat_lt, bit_or}
use Rattle.std.specs.Option.{option_map}
use Rattle.std.proofs.lemmas.Bool.{eqb-true, cases_lt}
use Rattle.zt_bits.specs.declared.kinds.Kind.{Kind}
use Rattle.zt_bits.specs.declared.kinds.Kind.TheVariants as kind
use Rattle.zt_bits.specs.declared.statuses.Status.{Status}
use Rattle.zt_bits.specs.declared.statuses.Status.TheVariants as status
use Rattle.zt_bits.specs.Tables.{asked_rights}
use Rattle.zt_rows.specs.declared.calls.Call.{Call}
use Rattle.zt_rows.specs.declared.calls.Call.TheVariants as call
use Rattle.zt_rows.specs.declared.calls.Reply.{Reply}
use Rattle.zt_rows.specs.declared.keys.RowKey.TheVariants as key
use Rattle.zt_rows.specs.declared.rows.Counters.{Counters}
use Rattle.zt_rows.specs.declared.rows.Held.{Held}
use Rattle.zt_rows.specs.declared.rows.Life.{Life}
use Rattle.zt_rows.specs.declared.rows.Life.TheVariants as life
use Rattle.zt_rows.specs.declared.rows.ObjectRow.{ObjectRow}
use Rattle.zt_rows.specs.declared.rows.Packet.TheVariants as packet
use Rattle.zt_rows.specs.declared.rows.Row.{Row}
use Rattle.zt_rows.specs.declared.rows.Row.TheVariants as rows
use Rattle.zt_rows.specs.declared.rows.Wait.{Wait}
use Rattle.zt_rows.specs.Contents.{MessageContent}
use Rattle.zt_rows.specs.State.{State, row, put}
use Rattle.zt_rows.specs.Reads.{as_object, counters, object, entry, message, queue, packets, is_job, is_process, is_live, is_live_job, is_live_process, on_object, has_live_process}
use Rattle.zt_rows.specs.Support.{root_job, is_supported}
use Rattle.zt_rows.specs.Tests.{any_kind, is_channel, is_port, is_endpoint, is_task, among, exists, first, raised, without_bits, any_row}
use Rattle.zt_rows.specs.Collect.{unlinked, without, collect}
use Rattle.zt_rows.specs.Settle.{settle}
use Rattle.zt_rows.specs.End.{chain, depth, is_under, IsClosed, ends_with, end}
use Rattle.zt_rows.specs.Handles.{◌>>=◌, handle, answered, done, value_of, caller, take_out, take_out_all, install, install_all, whole, fresh, next_koid, make, make_pair}
use Rattle.zt_rows.specs.ObjectCalls.{create, create_pair, handle_close, handle_duplicate, handle_replace, may_set, set_signals, object_signal, object_signal_peer}
use Rattle.zt_rows.specs.ChannelCalls.{sent, push_message, channel_write, has_room_for, take_message, refuse_message, channel_read}
use Rattle.zt_rows.specs.PortCalls.{object_wait_async, pending, most_pending, port_queue, port_wait, is_cancelled, cancel, port_cancel}
use Rattle.zt_rows.specs.JobCalls.{most_depth, job_create, argument, child, hand_over, spawn, job_set_critical, task_kill, others, process_exit}
use Rattle.zt_rows.specs.Step.{IsCall, direct, step}
use Rattle.zt_rows.specs.Consistent.{IsChild, has_parent, IsSound, IsConsistent}
use Rattle.zt_rows.proofs.AboveLaws.{above, above-live, above-over, above-order, parent-above, under-cases, under-itself, under-above, under-under}
use Rattle.zt_rows.proofs.CallLaws.{sound-direct}
use Rattle.zt_rows.proofs.ClosedLaws.{ends-has, ends-closed, ends-inside}
use Rattle.zt_rows.proofs.CollectLaws.{sound-collect, supported-stays}
use Rattle.zt_rows.proofs.EndLaws.{ended, object-end}
use Rattle.zt_rows.proofs.FramedLaws.{Framed, shaped-there, turned}
use Rattle.zt_rows.proofs.ReadLaws.{some_one, exists-some, some-exists, kind_at-some, object-put, message-without, stayed, stays}
use Rattle.zt_rows.proofs.RowLaws.{In, or_true, or_left, or_right, and_left, and_right, and_both, true≢false, not_true}
use Rattle.zt_rows.proofs.SettleLaws.{framed-settle}
use Rattle.zt_rows.proofs.SoundLaws.{task-not-endpoint, has_live_process-some, some-has_live_process, and_no_left, link-kept}
use Rattle.zt_rows.proofs.StateLaws.{row-put, row-change}
use Rattle.zt_rows.proofs.StepLaws.{Found, chained, after_check, after_some, after_result, after_handle_of, after_handle, caller-is}
use Rattle.zt_rows.proofs.SupportLaws.{KeptBy, by_entry, by_message, by_child, by_itself, supported-kept, kept-supported}
use Rattle.zt_rows.proofs.TakeLaws.{object-taken}
use Rattle.zt_rows.proofs.WithoutLaws.{IsLast, collect-set}
use Rattle.zt_queries.specs.Happenings.{lives, IsCallStep}
use Rattle.zt_queries.specs.Leaks.{keeps_above, is_leaked}
use Rattle.zt_queries.specs.Reachability.{reached}
use Rattle.zt_queries.proofs.CallsFollow.{direct-call}
use Rattle.zt_queries.proofs.FollowLaws.{Aged, Was, is_new, is_old, Direct, low-koid}
use Rattle.zt_queries.proofs.JobLaws.{above-lives}
use Rattle.zt_queries.proofs.LeakLaws.{Lost, leaked-lost, lost-leaked, strayed, Named, out-of-reach, strayed-named}
use Rattle.zt_queries.proofs.NameLaws.{keeps-task}
use Rattle.zt_queries.proofs.OnceLaws.{next-follows, of_object, off, was-old}
use Rattle.zt_queries.proofs.ReachLaws.{among-in, in-among, entry-reached, message-reached}

-- ---- live processes and jobs

task-kind : (k : Kind) (lives : Bool) → ((is_job k && lives) || (is_process k && lives)) ≡ true → is_task k ≡ true
task-kind kind.Job lives e = refl
task-kind kind.Process lives e = refl
task-kind kind.Channel lives e = cc
task-kind kind.Event lives e = cc
task-kind kind.EventPair lives e = cc
task-kind kind.Port lives e = cc

-- one that has a link has a parent
pub linked-parent : (S : State) → IsSound S → (z : ℕ) (q : ObjectRow) → object S z ≡ Some q → (is_live_job q || is_live_process q) ≡ true → 0 < q.link → has_parent z q ≡ true
linked-parent S sound z q there task linked = by (has_parent z q) refl
  where
    by : (b : Bool) → has_parent z q ≡ b → has_parent z q ≡ true
    by true t = t
    by false f = let none : q.link ≡ 0 = (sound.of_objects z q there).alone (task-not-endpoint q task) f in absurd (omega arith)

-- what is there has a koid that is not 0
there-positive : (S : State) → IsSound S → (y : ℕ) → exists S y ≡ true → 0 < y
there-positive S sound y e = let w = some-exists S y e in let low : root_job ≤ y = (sound.of_objects y w.0 w.1).low in omega arith

-- what is above it is above its live children
child-above : (S : State) → IsSound S → (y z : ℕ) (q : ObjectRow) → exists S y ≡ true → object S z ≡ Some q → (is_live_job q || is_live_process q) ≡ true → q.link ≡ y → among (chain S z) y ≡ true
child-above S sound y z q at there task link =
    let some : 0 < q.link = subst (λ l. 0 < l) (sym link) (there-positive S sound y at) in
    subst (λ l. among (chain S z) l ≡ true) link (parent-above S sound z q there (linked-parent S sound z q there task some))

-- ---- a live child of a leaked job

pub child-leaked : (S : State) → IsConsistent S → (y z : ℕ) (q : ObjectRow) → is_leaked S y ≡ true → object S z ≡ Some q → (is_live_job q || is_live_process q) ≡ true → q.link ≡ y
    → (is_leaked S z ≡ true) × (is_live_job q ≡ true)
child-leaked S c y z q leaks there task link = (lost-leaked S z lost_child, job)
  where
    lost : Lost S y
    lost = leaked-lost S y leaks

    under : among (chain S z) y ≡ true
    under = child-above S c.sound y z q lost.there there task link

    no-process : is_live_process q ≡ true → ⊥
    no-process p = lost.not_above z q there (or_left (is_live_process q) _ p) (among-in y (chain S z) under)

    job : is_live_job q ≡ true
    job = elim (or_true (is_live_job q) _ task) [ inl j ↦ j | inr p ↦ absurd (no-process p) ]

    parent : has_parent z q ≡ true
    parent = linked-parent S c.sound z q there task (subst (λ l. 0 < l) (sym link) (there-positive S c.sound y lost.there))

    lost_child : Lost S z
    lost_child = record {
      there = exists-some S z q there;
      unreached = not_true (among (reached S) z) (λ t.
          lost.not_above z q there (or_right (is_live_process q) _ (and_both (is_job q.kind) _ (and_left (is_job q.kind) _ job) t)) (among-in y (chain S z) under));
      not_root = elim (or_true (is_live_process q) _ parent) [
        | inl p ↦ absurd (no-process p)
        | inr j ↦ off (z == root_job) (and_right (is_live_job q) _ j)
      ];
      not_running = not_true (has_live_process S z) (λ t. let w = has_live_process-some S z t in no-process (ap is_live_process (some_one q w.0 (sym there ∙ w.1)) ∙ w.2));
      not_above = λ x o at keeps l.
          let lives : (is_live_job o || is_live_process o) ≡ true = above-lives S c.sound x o at (keeps-task o.kind (is_live o.life) (among (reached S) x) keeps) z l in
          lost.not_above x o at keeps (among-in y (chain S x) (above-over S c.sound x o at lives z y (in-among z (chain S x) l) under));
    }

-- ---- a live child of what was out of reach

aged-task : (o q : ObjectRow) → Aged o q → (is_live_job q || is_live_process q) ≡ true → (is_live_job o || is_live_process o) ≡ true
aged-task o q a e = elim (or_true (is_live_job q) _ e) [
  | inl j ↦ or_left (is_live_job o) _ (and_both (is_job o.kind) _ (ap is_job (sym a.kind) ∙ and_left (is_job q.kind) _ j) (a.life (and_right (is_job q.kind) _ j)))
  | inr p ↦ or_right (is_live_job o) _ (and_both (is_process o.kind) _ (ap is_process (sym a.kind) ∙ and_left (is_process q.kind) _ p) (a.life (and_right (is_process q.kind) _ p)))
]

pub child-came : (S T : State) → IsConsistent S → IsCallStep S T → (y z : ℕ) (r : ObjectRow) → 0 < y → among (reached S) y ≡ false → object T z ≡ Some r → (is_live_job r || is_live_process r) ≡ true → r.link ≡ y
    → (q : ObjectRow) × (object S z ≡ Some q) × ((is_live_job q || is_live_process q) ≡ true) × (q.link ≡ y)
child-came S T c n y z r some out there task link = by ((next-follows S T c n).objects z r there)
  where
    by : Was S z r → (q : ObjectRow) × (object S z ≡ Some q) × ((is_live_job q || is_live_process q) ≡ true) × (q.link ≡ y)
    by (is_new above fresh) = elim (fresh (task-kind r.kind (is_live r.life) task)) [
      | inl none ↦ absurd (let zero_y : y ≡ 0 = sym link ∙ none in omega arith)
      | inr w ↦ absurd (true≢false (among (reached S) y) (subst (λ l. among (reached S) l ≡ true) link w.3) out)
    ]
    by (is_old o h a) = (
      o,
      h,
      aged-task o r a task,
      elim a.link [
        | inl same ↦ sym same ∙ link
        | inr none ↦ absurd (let zero_y : y ≡ 0 = sym link ∙ none in omega arith)
      ],
    )

-- ---- a set that has with each object its live children

module _ (S : State) (sound : IsSound S) (set : ℕ → Bool) (children : (z y : ℕ) (q : ObjectRow) → object S z ≡ Some q → (is_live_job q || is_live_process q) ≡ true → q.link ≡ y → set y ≡ true → set z ≡ true) where
  held_under : (n x w : ℕ) (o : ObjectRow) → object S w ≡ Some o → (is_live_job o || is_live_process o) ≡ true → w < n → set x ≡ true → among (chain S w) x ≡ true → set w ≡ true
  held_under zero x w o at lives few s h = absurd (omega arith)
  held_under (suc n) x w o at lives few s h =
      let a = above S sound w o at lives x h in
      let less : o.link < w = a.child.smaller in
      children w o.link o at lives refl (elim a.near [
        | inl is ↦ ap set is ∙ s
        | inr far ↦ held_under n x o.link a.child.parent a.child.there (or_left (is_live_job a.child.parent) _ a.child.live) (omega arith) s far
      ])

pub under-held : (S : State) → IsSound S → (set : ℕ → Bool) → ((z y : ℕ) (q : ObjectRow) → object S z ≡ Some q → (is_live_job q || is_live_process q) ≡ true → q.link ≡ y → set y ≡ true → set z ≡ true)
    → (x : ℕ) → set x ≡ true → (w : ℕ) (o : ObjectRow) → object S w ≡ Some o → is_task o.kind ≡ true → In x (chain S w) → set w ≡ true
under-held S sound set children x s w o at task m =
    held_under S sound set children (suc w) x w o at (above-lives S sound w o at task x m) (omega arith) s (in-among x (chain S w) m)

-- ---- calls that end nothing

-- what lives in S lives in T
abbrev Lasts : State → State → Type 0
Lasts S T = (x : ℕ) → lives S x ≡ true → lives T x ≡ true

abbrev life_of : Option ObjectRow → Bool
life_of r = on_object (λ o. is_live o.life) r

module _ (S T : State) (l : Lasts S T) where
  lasts-same : (U : State) → ((x : ℕ) → object U x ≡ object T x) → Lasts S U
  lasts-same U same x e = ap life_of (same x) ∙ l x e

  -- an object is put that lives where it lived
  lasts-object : (y : ℕ) (q : ObjectRow) → (lives S y ≡ true → is_live q.life ≡ true) → Lasts S (put T (key.Object y) (Some (rows.Object q)))
  lasts-object y q h x e =
      ap life_of (object-put T y (Some (rows.Object q)) x)
      ∙ elim (x == y) as (λ b. (x == y) ≡ b → life_of (cond b (Some q) (object T x)) ≡ true) [
        | true ↦ λ t. h (ap (lives S) (sym (eqb-true x y t)) ∙ e)
        | false ↦ λ t. l x e
      ] refl

  lasts-counters : (new : Option Row) → Lasts S (put T key.Counters new)
  lasts-counters new = lasts-same (put T key.Counters new) (λ x. ap as_object (row-put T key.Counters new (key.Object x)))

  lasts-entry : (p h : ℕ) (new : Option Row) → Lasts S (put T (key.Entry p h) new)
  lasts-entry p h new = lasts-same (put T (key.Entry p h) new) (λ x. ap as_object (row-put T (key.Entry p h) new (key.Object x)))

  lasts-message : (e n : ℕ) (new : Option Row) → Lasts S (put T (key.Msg e n) new)
  lasts-message e n new = lasts-same (put T (key.Msg e n) new) (λ x. ap as_object (row-put T (key.Msg e n) new (key.Object x)))

  lasts-packet : (p n : ℕ) (new : Option Row) → Lasts S (put T (key.Packet p n) new)
  lasts-packet p n new = lasts-same (put T (key.Packet p n) new) (λ x. ap as_object (row-put T (key.Packet p n) new (key.Object x)))

  lasts-wait : (n : ℕ) (new : Option Row) → Lasts S (put T (key.Wait n) new)
  lasts-wait n new = lasts-same (put T (key.Wait n) new) (λ x. ap as_object (row-put T (key.Wait n) new (key.Object x)))

  lasts-taken : (p : ℕ) (values : ℕ → Bool) → Lasts S (take_out_all T p values)
  lasts-taken p values = lasts-same (take_out_all T p values) (object-taken p values T)

  object-uncancelled : (x p h packet_key y : ℕ) (r : Option Row) → as_object (option_and_then (λ s. if is_cancelled x p h packet_key (key.Object y) s then None else Some s) r) ≡ as_object r
  object-uncancelled x p h packet_key y (Some r) = refl
  object-uncancelled x p h packet_key y None = refl

  lasts-cancel : (x p h packet_key : ℕ) → Lasts S (cancel (is_cancelled x p h packet_key) T)
  lasts-cancel x p h packet_key = lasts-same (cancel (is_cancelled x p h packet_key) T) (λ y.
      ap as_object (row-change (λ k r. if is_cancelled x p h packet_key k r then None else Some r) T (key.Object y)) ∙ object-uncancelled x p h packet_key y (row T (key.Object y)))

lasts-install : (S T : State) → Lasts S T → (p : ℕ) (me : ObjectRow) → is_live me.life ≡ true → (held : Held) → Lasts S (install p me held T)
lasts-install S T l p me live held =
    let U : State = put T (key.Entry p (value_of me.next)) (Some (rows.Entry held)) in
    lasts-object S U (lasts-entry S T l p (value_of me.next) (Some (rows.Entry held))) p (raised me) (λ e. live)

lasts-install_all : (S : State) (all : List Held) (T : State) → Lasts S T → (p : ℕ) (me : ObjectRow) → is_live me.life ≡ true → Lasts S (install_all p me all T)
lasts-install_all S [] T l p me live = l
lasts-install_all S (held ∷ rest) T l p me live = lasts-install_all S rest (install p me held T) (lasts-install S T l p me live held) p (raised me) live

lasts-made : (S T : State) → Lasts S T → (c : Counters) (o : ObjectRow) → is_live o.life ≡ true → Lasts S (make c o T)
lasts-made S T l c o live =
    let U : State = put T (key.Object c.next_koid) (Some (rows.Object o)) in
    lasts-counters S U (lasts-object S T l c.next_koid o (λ e. live)) (Some (rows.Counters (record c { next_koid = c.next_koid + 1 })))

lasts-paired : (S T : State) → Lasts S T → (c : Counters) (made : Kind) → Lasts S (make_pair c made T)
lasts-paired S T l c made =
    let U : State = put T (key.Object c.next_koid) (Some (rows.Object (fresh made (c.next_koid + 1)))) in
    let one : Lasts S U = lasts-object S T l c.next_koid (fresh made (c.next_koid + 1)) (λ e. refl) in
    let V : State = put U (key.Object (c.next_koid + 1)) (Some (rows.Object (fresh made c.next_koid))) in
    let two : Lasts S V = lasts-object S U one (c.next_koid + 1) (fresh made c.next_koid) (λ e. refl) in
    lasts-counters S V two (Some (rows.Counters (record c { next_koid = c.next_koid + 2 })))

module _ (S : State) (p : ℕ) (live : has_live_process S p ≡ true) where
  begun : Lasts S S
  begun x e = e

  caller-lives : is_live (caller S p).life ≡ true
  caller-lives = let w = caller-is S p live in ap (λ (o : ObjectRow). is_live o.life) w.3 ∙ and_right (is_process w.0.kind) _ w.2

  row-lives : (x : ℕ) (o : ObjectRow) → object S x ≡ Some o → lives S x ≡ true → is_live o.life ≡ true
  row-lives x o there e = sym (ap life_of there) ∙ e

  lasts-received : (T : State) → Lasts S T → (held : Held) → Lasts S (install p (caller S p) held T)
  lasts-received T l held = lasts-install S T l p (caller S p) caller-lives held

  lasts-create : (made : Kind) → Lasts S (create made S p).0
  lasts-create made = lasts-received (make (counters S) (fresh made 0) S) (lasts-made S S begun (counters S) (fresh made 0) refl) (whole (next_koid S) made)

  lasts-create_pair : (made : Kind) → Lasts S (create_pair made S p).0
  lasts-create_pair made =
      let T : State = make_pair (counters S) made S in
      let U : State = install p (caller S p) (whole (next_koid S) made) T in
      lasts-install S U (lasts-received T (lasts-paired S S begun (counters S) made) (whole (next_koid S) made)) p (raised (caller S p)) caller-lives (whole (next_koid S + 1) made)

  lasts-handle_close : (h : ℕ) → Lasts S (handle_close S p h).0
  lasts-handle_close h =
      elim (h == 0) as (λ b. Lasts S (answered S (if b then Ok (S, done) else (ok_or (entry S p h) status.BadHandle >>= (λ _. Ok (take_out S p h, done))))).0) [
        | true ↦ begun
        | false ↦ after_some (Lasts S) S (entry S p h) status.BadHandle _ begun (λ held e. lasts-taken S S begun p (λ g. g == h))
      ]

  lasts-handle_duplicate : (h mask : ℕ) → Lasts S (handle_duplicate S p h mask).0
  lasts-handle_duplicate h mask =
      after_handle (Lasts S) S status.WrongType p h any_kind 0x1 _ begun (λ held o found.
      after_some (Lasts S) S (asked_rights mask held.rights.0) status.InvalidArgs _ begun (λ rights e.
      lasts-received S begun (record held { rights = record { 0 = rights } })))

  lasts-handle_replace : (h mask : ℕ) → Lasts S (handle_replace S p h mask).0
  lasts-handle_replace h mask =
      let rest : Lasts S (take_out S p h) = lasts-taken S S begun p (λ g. g == h) in
      after_some (Lasts S) S (entry S p h) status.BadHandle _ begun (λ held there.
      after_some (Lasts S) (take_out S p h) (asked_rights mask held.rights.0) status.InvalidArgs _ rest (λ rights e.
      lasts-received (take_out S p h) rest (record held { rights = record { 0 = rights } })))

  lasts-signals : (x : ℕ) (o : ObjectRow) (clear set : ℕ) → object S x ≡ Some o → Lasts S (set_signals x o clear set S)
  lasts-signals x o clear set there = lasts-object S S begun x (record o { signals = record { 0 = bit_or (without_bits o.signals.0 clear) set } }) (row-lives x o there)

  lasts-object_signal : (h clear set : ℕ) → Lasts S (object_signal S p h clear set).0
  lasts-object_signal h clear set =
      after_handle (Lasts S) S status.WrongType p h any_kind 0x1000 _ begun (λ held o found.
      after_check (Lasts S) S (may_set o.kind clear set) status.InvalidArgs _ begun (λ settable.
      lasts-signals held.koid o clear set found.object_there))

  lasts-object_signal_peer : (h clear set : ℕ) → Lasts S (object_signal_peer S p h clear set).0
  lasts-object_signal_peer h clear set =
      after_handle (Lasts S) S status.NotSupported p h is_endpoint 0x2000 _ begun (λ held o found.
      after_check (Lasts S) S (may_set o.kind clear set) status.InvalidArgs _ begun (λ settable.
      after_some (Lasts S) S (object S o.link) status.PeerClosed _ begun (λ peer there.
      lasts-signals o.link peer clear set there)))

  lasts-push_message : (T : State) → Lasts S T → (x : ℕ) (o : ObjectRow) → object S x ≡ Some o → (m : MessageContent) → Lasts S (push_message x o m T)
  lasts-push_message T l x o there m =
      let U : State = put T (key.Msg x o.next) (Some (rows.Msg m)) in
      lasts-object S U (lasts-message S T l x o.next (Some (rows.Msg m))) x (raised o) (row-lives x o there)

  lasts-channel_write : (h : ℕ) (bytes values : List ℕ) → Lasts S (channel_write S p h bytes values).0
  lasts-channel_write h bytes values =
      let T : State = take_out_all S p (among values) in
      let base : Lasts S T = lasts-taken S S begun p (among values) in
      after_handle_of (Lasts S) S T status.WrongType p h is_channel 0x8 _ base (λ held o found.
      after_result (Lasts S) T (sent S p h [] values) _ base (λ all e.
      after_some (Lasts S) T (object S o.link) status.PeerClosed _ base (λ peer there.
      lasts-push_message T base o.link peer there (record { bytes = bytes; handles = all }))))

  lasts-channel_read : (h bytes handles : ℕ) (discard : Bool) → Lasts S (channel_read S p h bytes handles discard).0
  lasts-channel_read h bytes handles discard =
      after_handle (Lasts S) S status.WrongType p h is_channel 0x4 _ begun (λ held o found.
      after_some (Lasts S) S (first (queue S held.koid)) (if o.link == 0 then status.PeerClosed else status.ShouldWait) _ begun (λ w e.
      let gone : Lasts S (put S (key.Msg held.koid w.0) None) = lasts-message S S begun held.koid w.0 None in
      elim (has_room_for bytes handles w.1) as (λ b. Lasts S (answered S (Ok (if b then take_message S p held.koid w.0 w.1 else refuse_message S held.koid w.0 w.1 discard))).0) [
        | true ↦ lasts-install_all S w.1.handles (put S (key.Msg held.koid w.0) None) gone p (caller S p) caller-lives
        | false ↦ elim discard as (λ b. Lasts S (answered S (Ok (refuse_message S held.koid w.0 w.1 b))).0) [
          | true ↦ gone
          | false ↦ begun
        ]
      ]))

  lasts-object_wait_async : (h port packet_key signals : ℕ) (edge : Bool) → Lasts S (object_wait_async S p h port packet_key signals edge).0
  lasts-object_wait_async h port packet_key signals edge =
      after_handle (Lasts S) S status.WrongType p h any_kind 0x4000 _ begun (λ source seen named.
      after_handle (Lasts S) S status.WrongType p port is_port 0x8 _ begun (λ held o found.
      let w : Wait = record { process = p; handle = h; port = held.koid; key = packet_key; signals = record { 0 = signals }; edge = edge } in
      let T : State = put S (key.Wait (counters S).next_wait) (Some (rows.Wait w)) in
      lasts-counters S T (lasts-wait S S begun (counters S).next_wait (Some (rows.Wait w))) (Some (rows.Counters (record (counters S) { next_wait = (counters S).next_wait + 1 })))))

  lasts-port_queue : (port packet_key : ℕ) (bytes : List ℕ) → Lasts S (port_queue S p port packet_key bytes).0
  lasts-port_queue port packet_key bytes =
      after_handle (Lasts S) S status.WrongType p port is_port 0x8 _ begun (λ held o found.
      after_check (Lasts S) S (nat_lt (pending S held.koid) most_pending) status.ShouldWait _ begun (λ few.
      let U : State = put S (key.Packet held.koid o.next) (Some (rows.Packet (packet.User packet_key bytes))) in
      lasts-object S U (lasts-packet S S begun held.koid o.next (Some (rows.Packet (packet.User packet_key bytes)))) held.koid (raised o) (row-lives held.koid o found.object_there)))

  lasts-port_wait : (port : ℕ) → Lasts S (port_wait S p port).0
  lasts-port_wait port =
      after_handle (Lasts S) S status.WrongType p port is_port 0x4 _ begun (λ held o found.
      after_some (Lasts S) S (first (packets S held.koid)) status.TimedOut _ begun (λ parcel e.
      lasts-packet S S begun held.koid parcel.0 None))

  lasts-port_cancel : (port source packet_key : ℕ) → Lasts S (port_cancel S p port source packet_key).0
  lasts-port_cancel port source packet_key =
      after_handle (Lasts S) S status.WrongType p port is_port 0x8 _ begun (λ held o found.
      after_handle (Lasts S) S status.WrongType p source any_kind 0x4000 _ begun (λ named seen there.
      after_check (Lasts S) S (any_row (is_cancelled held.koid p source packet_key) S) status.NotFound _ begun (λ some.
      lasts-cancel S S begun held.koid p source packet_key)))

  lasts-job_create : (h : ℕ) → Lasts S (job_create S p h).0
  lasts-job_create h =
      after_handle (Lasts S) S status.WrongType p h is_job 0x10000 _ begun (λ held job found.
      after_check (Lasts S) S (is_live job.life) status.BadState _ begun (λ alive.
      after_check (Lasts S) S (nat_lt (depth S held.koid) most_depth) status.OutOfRange _ begun (λ shallow.
      lasts-received (make (counters S) (fresh kind.Job held.koid) S) (lasts-made S S begun (counters S) (fresh kind.Job held.koid) refl) (whole (next_koid S) kind.Job))))

  after_argument : (P : State → Type 0) (arg : ℕ) (f : Option Held → Result (State × Reply) Status) → P S → P (answered S (f None)).0 → ((held : Held) (o : ObjectRow) → Found S p arg any_kind 0x2 held o → P (answered S (f (Some held))).0) → P (answered S (argument S p arg >>= f)).0
  after_argument P arg f base none some =
      elim (arg == 0) as (λ b. P (answered S ((if b then Ok None else (handle S p arg any_kind 0x2 >>= (λ w. Ok (Some w.0)))) >>= f)).0) [
        | true ↦ none
        | false ↦ subst (λ r. P (answered S r).0) (sym (chained (handle S p arg any_kind 0x2) (λ w. Ok (Some w.0)) f)) (after_handle P S status.WrongType p arg any_kind 0x2 (λ w. Ok (Some w.0) >>= f) base some)
      ]

  lasts-spawn : (h arg : ℕ) → Lasts S (spawn S p h arg).0
  lasts-spawn h arg =
      after_handle (Lasts S) S status.WrongType p h is_job 0x20000 _ begun (λ held job found.
      after_argument (Lasts S) arg _ begun
      (after_check (Lasts S) S (is_live job.life) status.BadState _ begun (λ alive.
      lasts-received (make (counters S) (child None held.koid) S) (lasts-made S S begun (counters S) (child None held.koid) refl) (whole (next_koid S) kind.Process)))
      (λ given o handed. after_check (Lasts S) S (is_live job.life) status.BadState _ begun (λ alive.
      let R : State = take_out S p arg in
      let T : State = make (counters S) (child (Some given) held.koid) R in
      let l : Lasts S T = lasts-made S R (lasts-taken S S begun p (λ g. g == arg)) (counters S) (child (Some given) held.koid) refl in
      let U : State = hand_over (Some given) (next_koid S) T in
      lasts-received U (lasts-entry S T l (next_koid S) 3 (Some (rows.Entry given))) (whole (next_koid S) kind.Process))))

  lasts-job_set_critical : (job process : ℕ) → Lasts S (job_set_critical S p job process).0
  lasts-job_set_critical job process =
      after_handle (Lasts S) S status.WrongType p job is_job 0x200 _ begun (λ over q named.
      after_handle (Lasts S) S status.WrongType p process is_process 0x4000 _ begun (λ held o found.
      after_check (Lasts S) S (o.critical == 0) status.AlreadyBound _ begun (λ free.
      after_check (Lasts S) S (is_under S over.koid held.koid) status.InvalidArgs _ begun (λ under.
      lasts-object S S begun held.koid (record o { critical = over.koid }) (row-lives held.koid o found.object_there)))))

-- ---- what ends

-- what lives after a set ended is not of the set and lived
end-lived : (ending : ℕ → Bool) (how : Life) → is_live how ≡ false → (S : State) (x : ℕ) → lives (end S ending how) x ≡ true → (ending x ≡ false) × (lives S x ≡ true)
end-lived ending how dead S x e = by_row (object S x) refl (sym (ap life_of (object-end ending how S x)) ∙ e)
  where
    by_test : (o : ObjectRow) (b : Bool) → ending x ≡ b → is_live (if b then how else o.life) ≡ true → (b ≡ false) × (is_live o.life ≡ true)
    by_test o true t f = absurd (true≢false (is_live how) f dead)
    by_test o false t f = (refl, f)

    by_row : (r : Option ObjectRow) → object S x ≡ r → life_of (option_map (ended ending how x) r) ≡ true → (ending x ≡ false) × (lives S x ≡ true)
    by_row (Some o) there f = let w = by_test o (ending x) refl f in (w.0, ap life_of there ∙ w.1)
    by_row None there f = cc

-- and what lived and is not of the set lives
lived-end : (ending : ℕ → Bool) (how : Life) (S : State) (x : ℕ) → ending x ≡ false → lives S x ≡ true → lives (end S ending how) x ≡ true
lived-end ending how S x out e = ap life_of (object-end ending how S x) ∙ by_row (object S x) e
  where
    by_row : (r : Option ObjectRow) → life_of r ≡ true → life_of (option_map (ended ending how x) r) ≡ true
    by_row (Some o) f = ap (λ b. is_live (if b then how else o.life)) out ∙ f
    by_row None f = cc

-- a reached job, or a live process, keeps what is above it
task-keeps : (k : Kind) (lives known : Bool) → is_task k ≡ true → lives ≡ true → known ≡ true → ((is_process k && lives) || (is_job k && known)) ≡ true
task-keeps kind.Job lives known t l e = e
task-keeps kind.Process true known t l e = refl
task-keeps kind.Process false known t l e = cc
task-keeps kind.Channel lives known t l e = cc
task-keeps kind.Event lives known t l e = cc
task-keeps kind.EventPair lives known t l e = cc
task-keeps kind.Port lives known t l e = cc

kind-task : (k : Kind) (lives : Bool) → is_task k ≡ true → lives ≡ true → ((is_job k && lives) || (is_process k && lives)) ≡ true
kind-task kind.Job true t l = refl
kind-task kind.Process true t l = refl
kind-task k false t l = cc
kind-task kind.Channel lives t l = cc
kind-task kind.Event lives t l = cc
kind-task kind.EventPair lives t l = cc
kind-task kind.Port lives t l = cc

-- a leaked job that does not end with what keeps the jobs above it: nothing under it ends then
module _ (S : State) (c : IsConsistent S) (y : ℕ) (leaks : is_leaked S y ≡ true) (x : ℕ) (o : ObjectRow) (at : object S x ≡ Some o) (task : (is_live_job o || is_live_process o) ≡ true) (keeps : keeps_above (reached S) (x, o) ≡ true) (stays : ends_with S x y ≡ false) where
  abbrev beside : ℕ → Bool
  beside w = ends_with S x w && not (is_under S y w)

  whole_set : IsClosed S (ends_with S x)
  whole_set = ends-closed S c.sound x o at task

  beside-in : (w : ℕ) → ends_with S x w ≡ true → (is_under S y w ≡ true → ⊥) → beside w ≡ true
  beside-in w e out = and_both (ends_with S x w) _ e (ap not (not_true (is_under S y w) out))

  not-under : (w : ℕ) → beside w ≡ true → is_under S y w ≡ true → ⊥
  not-under w e u = true≢false (is_under S y w) u (off (is_under S y w) (and_right (ends_with S x w) _ e))

  -- of two jobs above w one is above the other
  two-above : (j w : ℕ) → beside j ≡ true → (q : ObjectRow) → object S w ≡ Some q → (is_live_job q || is_live_process q) ≡ true → among (chain S w) j ≡ true → among (chain S w) y ≡ true → ⊥
  two-above j w g q there live up_j up_y =
      let a = above-live S c.sound w q there live j up_j in
      let b = above-live S c.sound w q there live y up_y in
      elim (cases_lt j y) [
        | inl less ↦ elim (above-order S c.sound w q there live y j up_y up_j (omega arith)) [
          | inl same ↦ not-under j g (under-itself S y j (sym same))
          | inr far ↦ true≢false (ends_with S x y) (whole_set.under j y (and_left (ends_with S x j) _ g) (under-above S j y b.0 b.1 (or_left (is_live_job b.0) _ b.2) far)) stays
        ]
        | inr more ↦ elim (above-order S c.sound w q there live j y up_j up_y more) [
          | inl same ↦ not-under j g (under-itself S y j same)
          | inr far ↦ not-under j g (under-above S y j a.0 a.1 (or_left (is_live_job a.0) _ a.2) far)
        ]
      ]

  beside-under : (j w : ℕ) → beside j ≡ true → is_under S j w ≡ true → is_under S y w ≡ true → ⊥
  beside-under j w g h u = elim (under-cases S y w u) [
    | inl is ↦ true≢false (ends_with S x y) (ap (ends_with S x) (sym is) ∙ whole_set.under j w (and_left (ends_with S x j) _ g) h) stays
    | inr v ↦ elim (under-cases S j w h) [
      | inl is ↦ not-under j g (subst (λ k. is_under S y k ≡ true) is u)
      | inr k ↦ two-above j w g v.0 v.1 v.2 k.3 v.3
    ]
  ]

  beside-closed : IsClosed S beside
  beside-closed = record {
    under = λ j w g h. beside-in w (whole_set.under j w (and_left (ends_with S x j) _ g) h) (beside-under j w g h);
    critical = λ w q there g some. beside-in q.critical (whole_set.critical w q there (and_left (ends_with S x w) _ g) some) (λ u. elim (c.sound.criticals w q there) [
      | inl none ↦ some none
      | inr v ↦ not-under w g (under-under S c.sound y q.critical w u (under-above S q.critical w q there (or_right (is_live_job q) _ v.0) v.1))
    ]);
  }

  task-beside : beside x ≡ true
  task-beside = beside-in x (ends-has S c.sound x o at task) (λ u. elim (under-cases S y x u) [
    | inl is ↦ true≢false (ends_with S x y) (ap (ends_with S x) (sym is) ∙ ends-has S c.sound x o at task) stays
    | inr v ↦ (leaked-lost S y leaks).not_above x o at keeps (among-in y (chain S x) v.3)
  ])

  under-stays : (z : ℕ) → is_under S y z ≡ true → ends_with S x z ≡ false
  under-stays z u = not_true (ends_with S x z) (λ e. not-under z (ends-inside S c.sound x o at task beside beside-closed task-beside z e) u)

-- ---- a child of a leaked job, through the call itself

module _ (S : State) (c : IsConsistent S) (p : ℕ) (live : has_live_process S p ≡ true) (y : ℕ) (leaks : is_leaked S y ≡ true) (z : ℕ) (q : ObjectRow) (there : object S z ≡ Some q) (task : (is_live_job q || is_live_process q) ≡ true) (link : q.link ≡ y) where
  abbrev Stays : State → Type 0
  Stays T = lives T y ≡ true → lives T z ≡ true

  under : is_under S y z ≡ true
  under = under-above S y z q there task (child-above S c.sound y z q (leaked-lost S y leaks).there there task link)

  job : is_live_job q ≡ true
  job = (child-leaked S c y z q leaks there task link).1

  lived : lives S z ≡ true
  lived = ap life_of there ∙ and_right (is_job q.kind) _ job

  lasting : (T : State) → Lasts S T → Stays T
  lasting T l e = l z lived

  killed : (x : ℕ) (o : ObjectRow) → object S x ≡ Some o → is_task o.kind ≡ true → is_live o.life ≡ true → among (reached S) x ≡ true → Stays (end S (ends_with S x) life.Killed)
  killed x o at of_kind alive known e =
      let w = end-lived (ends_with S x) life.Killed refl S y e in
      lived-end (ends_with S x) life.Killed S z
      (under-stays S c y leaks x o at (kind-task o.kind (is_live o.life) of_kind alive) (task-keeps o.kind (is_live o.life) (among (reached S) x) of_kind alive known) w.0 z under)
      lived

  stays-task_kill : (h : ℕ) → Stays (task_kill S p h).0
  stays-task_kill h =
      after_handle Stays S status.WrongType p h is_task 0x200 _ (λ e. lived) (λ held o found.
      elim (is_live o.life) as (λ b. is_live o.life ≡ b → Stays (if b then end S (ends_with S held.koid) life.Killed else S)) [
        | true ↦ λ t. killed held.koid o found.object_there found.of_kind t (entry-reached S p h held found.entry_there)
        | false ↦ λ f e. lived
      ] refl)

  stays-process_exit : (code : ℤ) → Stays (process_exit S p code).0
  stays-process_exit code e =
      let me = has_live_process-some S p live in
      let task_me : (is_live_job me.0 || is_live_process me.0) ≡ true = or_right (is_live_job me.0) _ me.2 in
      let T : State = end S (λ x. x == p) (life.Exited code) in
      let late = end-lived (others S p) life.Killed refl T y e in
      let early = end-lived (λ x. x == p) (life.Exited code) refl S y late.1 in
      let stays : ends_with S p y ≡ false = not_true (ends_with S p y) (λ t. true≢false (others S p y) (and_both (ends_with S p y) _ t (ap not early.0)) late.0) in
      let out : ends_with S p z ≡ false = under-stays S c y leaks p me.0 me.1 task_me (or_left (is_live_process me.0) _ me.2) stays z under in
      let other : (z == p) ≡ false = not_true (z == p) (λ t. true≢false (ends_with S p z) (ap (ends_with S p) (eqb-true z p t) ∙ ends-has S c.sound p me.0 me.1 task_me) out) in
      lived-end (others S p) life.Killed T z (and_no_left (ends_with S p z) (not (z == p)) out) (lived-end (λ x. x == p) (life.Exited code) S z other lived)

  stays-direct : (k : Call) → Stays (direct S p k).0
  unfolding direct
  stays-direct call.EventCreate = lasting _ (lasts-create S p live kind.Event)
  stays-direct call.EventPairCreate = lasting _ (lasts-create_pair S p live kind.EventPair)
  stays-direct (call.HandleClose h) = lasting _ (lasts-handle_close S p live h)
  stays-direct (call.HandleDuplicate h rights) = lasting _ (lasts-handle_duplicate S p live h rights)
  stays-direct (call.HandleReplace h rights) = lasting _ (lasts-handle_replace S p live h rights)
  stays-direct (call.ObjectSignal h clear set) = lasting _ (lasts-object_signal S p live h clear.0 set.0)
  stays-direct (call.ObjectSignalPeer h clear set) = lasting _ (lasts-object_signal_peer S p live h clear.0 set.0)
  stays-direct call.ChannelCreate = lasting _ (lasts-create_pair S p live kind.Channel)
  stays-direct (call.ChannelWrite h parcel) = lasting _ (lasts-channel_write S p live h parcel.bytes parcel.handles)
  stays-direct (call.ChannelRead h bytes handles discard) = lasting _ (lasts-channel_read S p live h bytes handles discard)
  stays-direct call.PortCreate = lasting _ (lasts-create S p live kind.Port)
  stays-direct (call.ObjectWaitAsync h port packet_key signals edge) = lasting _ (lasts-object_wait_async S p live h port packet_key signals.0 edge)
  stays-direct (call.PortQueue port packet_key bytes) = lasting _ (lasts-port_queue S p live port packet_key bytes)
  stays-direct (call.PortWait port) = lasting _ (lasts-port_wait S p live port)
  stays-direct (call.PortCancel port source packet_key) = lasting _ (lasts-port_cancel S p live port source packet_key)
  stays-direct (call.JobCreate over) = lasting _ (lasts-job_create S p live over)
  stays-direct (call.Spawn over arg) = lasting _ (lasts-spawn S p live over arg)
  stays-direct (call.JobSetCritical over process) = lasting _ (lasts-job_set_critical S p live over process)
  stays-direct (call.TaskKill h) = stays-task_kill h
  stays-direct (call.ProcessExit code) = stays-process_exit code

  -- it is still a live job, and the child of the leaked one
  still-child : (k : Call) → IsCall k → lives (direct S p k).0 y ≡ true → (r : ObjectRow) × (object (direct S p k).0 z ≡ Some r) × (is_live_job r ≡ true) × (r.link ≡ y)
  still-child k is e =
      let T : State = (direct S p k).0 in
      let d : Direct S T = direct-call S c.sound p live k in
      let sound : IsSound T = sound-direct S p k c.sound live is in
      let r = some-exists T z (d.there z (exists-some S z q there)) in
      let w = was-old S T z d.follows (low-koid S c.sound z (exists-some S z q there)) r.0 r.1 in
      let same : w.0 ≡ q = some_one w.0 q (sym w.1 ∙ there) in
      let a : Aged q r.0 = subst (λ (o : ObjectRow). Aged o r.0) same w.2 in
      let alive : is_live r.0.life ≡ true = sym (ap life_of r.1) ∙ stays-direct k e in
      let now : is_live_job r.0 ≡ true = and_both (is_job r.0.kind) _ (ap is_job a.kind ∙ and_left (is_job q.kind) _ job) alive in
      let no_root : (z == root_job) ≡ false = (leaked-lost S z (child-leaked S c y z q leaks there task link).0).not_root in
      let parent : has_parent z r.0 ≡ true = or_right (is_live_process r.0) _ (and_both (is_live_job r.0) _ now (ap not no_root)) in
      let up : IsChild T z r.0 = (sound.of_objects z r.0 r.1).parents parent in
      let low : root_job ≤ r.0.link = (sound.of_objects r.0.link up.parent up.there).low in
      (r.0, r.1, now, elim a.link [ inl e ↦ e ∙ link | inr none ↦ absurd (omega arith) ])

-- ---- and through the removal of what nothing supports

module _ (S : State) (c : IsConsistent S) (p : ℕ) (live : has_live_process S p ≡ true) (k : Call) (is : IsCall k) where
  abbrev after : State
  after = (direct S p k).0

  -- endpoints out of reach, and leaked jobs that did not end
  abbrev staying : ℕ → Bool
  staying x = strayed S x || (is_leaked S x && on_object is_live_job (object after x))

  -- all else
  abbrev leaving : ℕ → Bool
  leaving x = not (staying x)

  message-keeps : (x f n : ℕ) (m : MessageContent) (held : Held) → message S f n ≡ Some m → among (reached S) f ≡ false → In held m.handles → held.koid ≡ x → is_supported (without after leaving) x ≡ true
  message-keeps x f n m held there out l g =
      let w = kind_at-some S f kind.Channel (c.sound.of_messages f n m there).owner in
      let away : strayed S f ≡ true = and_both (on_object (λ (o : ObjectRow). is_endpoint o.kind) (object S f)) _ (ap (on_object (λ (o : ObjectRow). is_endpoint o.kind)) w.1 ∙ ap is_endpoint w.2) (ap not out) in
      let d : Direct S after = direct-call S c.sound p live k in
      let still : message after f n ≡ Some m = d.unread f n m there out in
      let here : leaving f ≡ false = ap not (or_left (strayed S f) _ away) in
      let left : message (without after leaving) f n ≡ Some m = message-without leaving after f n ∙ ap (λ b. cond b None (message after f n)) here ∙ still in
      kept-supported (without after leaving) x (by_message f n m held left l g)

  job-supported : (x : ℕ) → is_leaked S x ≡ true → (o : ObjectRow) → object after x ≡ Some o → is_live_job o ≡ true → leaving x ≡ false → is_supported (without after leaving) x ≡ true
  job-supported x leaks o at job here = by_support (supported-kept S x (c.supported x lost.there))
    where
      lost : Lost S x
      lost = leaked-lost S x leaks

      by_support : KeptBy S x → is_supported (without after leaving) x ≡ true
      by_support (by_entry q h held there g) = absurd (true≢false (among (reached S) x) (ap (among (reached S)) (sym g) ∙ entry-reached S q h held there) lost.unreached)
      by_support (by_message f n m held there l g) =
          message-keeps x f n m held there
          (not_true (among (reached S) f) (λ t. true≢false (among (reached S) x) (ap (among (reached S)) (sym g) ∙ message-reached S f n m there t held l) lost.unreached))
          l g
      by_support (by_child was w child there lives_was child_there task g) =
          let under = child-leaked S c x w child leaks child_there task g in
          let r = still-child S c p live x leaks w child child_there task g k is (ap life_of at ∙ and_right (is_job o.kind) _ job) in
          let stays_there : leaving w ≡ false = ap not (or_right (strayed S w) _ (and_both (is_leaked S w) _ under.0 (ap (on_object is_live_job) r.1 ∙ r.2))) in
          let task_r : (is_live_job r.0 || is_live_process r.0) ≡ true = or_left (is_live_job r.0) _ r.2 in
          kept-supported (without after leaving) x (by_child
          (unlinked leaving o)
          w
          (unlinked leaving r.0)
          (stays leaving after x o at here)
          job
          (stays leaving after w r.0 r.1 stays_there)
          task_r
          (link-kept leaving r.0 (and_no_left (is_endpoint r.0.kind) (leaving r.0.link) (task-not-endpoint r.0 task_r)) ∙ r.3))
      by_support (by_itself was there t) = elim (or_true (is_live_process was) _ t) [
        | inl l ↦ absurd (true≢false (has_live_process S x) (some-has_live_process S x was there l) lost.not_running)
        | inr r ↦ absurd (true≢false (x == root_job) r lost.not_root)
      ]

  on_of : (b : Bool) → not b ≡ false → b ≡ true
  on_of true e = refl
  on_of false e = cc

  -- nothing goes when all else went at once
  leaving-last : IsLast after leaving
  leaving-last x = supported-stays (without after leaving) x (λ there.
      let w = some-exists (without after leaving) x there in
      let was = stayed leaving after x w.0 w.1 in
      elim (or_true (strayed S x) _ (on_of (staying x) was.3)) [
        | inl away ↦ let n : Named S x = strayed-named S c x away in message-keeps x n.endpoint n.number n.content n.held n.there (out-of-reach S c n.endpoint n.out) n.among_handles n.names
        | inr job ↦ job-supported x (and_left (is_leaked S x) _ job) was.0 was.1 (sym (ap (on_object is_live_job) was.1) ∙ and_right (is_leaked S x) _ job) was.3
      ])

  framed : Framed (collect after) (settle S (collect after))
  framed = framed-settle S (collect after) (sound-collect after (sound-direct S p k c.sound live is))

  -- what lives after the call lived after its direct change
  lived-there : (y : ℕ) → lives (settle S (collect after)) y ≡ true → lives after y ≡ true
  lived-there y e =
      let w = collect-set after in
      let o = of_object (λ (o : ObjectRow). is_live o.life) (object (settle S (collect after)) y) e in
      let was = shaped-there (settle S (collect after)) (collect after) (turned (collect after) (settle S (collect after)) framed.of_shapes) y o.0 o.1 in
      let left = stayed w.0 after y was.0 (sym (ap (λ Z. object Z y) w.1) ∙ was.1) in
      let alive : is_live was.0.life ≡ true = ap (λ (z : ObjectRow). is_live z.life) was.2 ∙ o.2 in
      ap life_of left.1 ∙ sym (ap (λ (z : ObjectRow). is_live z.life) left.2) ∙ alive

  stays-step : (y z : ℕ) (q : ObjectRow) → is_leaked S y ≡ true → lives (settle S (collect after)) y ≡ true → object S z ≡ Some q → (is_live_job q || is_live_process q) ≡ true → q.link ≡ y
      → (r : ObjectRow) × (object (settle S (collect after)) z ≡ Some r) × ((is_live_job r || is_live_process r) ≡ true) × (r.link ≡ y)
  stays-step y z q leaks alive there task link =
      let w = collect-set after in
      let r = still-child S c p live y leaks z q there task link k is (lived-there y alive) in
      let stays_z : staying z ≡ true = or_right (strayed S z) _ (and_both (is_leaked S z) _ (child-leaked S c y z q leaks there task link).0 (ap (on_object is_live_job) r.1 ∙ r.2)) in
      let here : w.0 z ≡ false = not_true (w.0 z) (λ t. true≢false (staying z) stays_z (off (staying z) (w.2 leaving leaving-last z t))) in
      let left : object (collect after) z ≡ Some (unlinked w.0 r.0) = ap (λ Z. object Z z) w.1 ∙ stays w.0 after z r.0 r.1 here in
      let end_row = shaped-there (collect after) (settle S (collect after)) framed.of_shapes z (unlinked w.0 r.0) left in
      let task_r : (is_live_job r.0 || is_live_process r.0) ≡ true = or_left (is_live_job r.0) _ r.2 in
      let kept : (unlinked w.0 r.0).link ≡ r.0.link = link-kept w.0 r.0 (and_no_left (is_endpoint r.0.kind) (w.0 r.0.link) (task-not-endpoint r.0 task_r)) in (
        end_row.0,
        end_row.1,
        ap (λ (o : ObjectRow). is_live_job o || is_live_process o) end_row.2 ∙ task_r,
        ap (λ (o : ObjectRow). o.link) end_row.2 ∙ kept ∙ r.3,
      )

pub child-stays : (S T : State) → IsConsistent S → IsCallStep S T → (y z : ℕ) (q : ObjectRow) → is_leaked S y ≡ true → lives T y ≡ true → object S z ≡ Some q → (is_live_job q || is_live_process q) ≡ true → q.link ≡ y
    → (r : ObjectRow) × (object T z ≡ Some r) × ((is_live_job r || is_live_process r) ≡ true) × (r.link ≡ y)
unfolding step
child-stays S T c n y z q leaks alive there task link =
    let U : State = settle S (collect (direct S n.process n.call).0) in
    let is : T ≡ U = n.gives in
    let w = stays-step S c n.process n.live n.call n.is y z q leaks (subst (λ Z. lives Z y ≡ true) is alive) there task link in
    (w.0, ap (λ Z. object Z z) is ∙ w.1, w.2, w.3)
