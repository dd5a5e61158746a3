-- What each call does directly follows from the state before it: it names only what its caller holds, what a
-- message of an endpoint that its caller holds names, and what it makes.
use Rattle.std.proofs.Common.{◌≡◌, ◌<◌, ℕ, ◌+◌, Bool, true, false, List, [], inl, inr, refl, sym, ap, ◌∙◌, subst, arith}
use Rattle.std.specs.Prelude.{ℤ, Option, None, Some, Result, Ok, ok_or, if◌then◌else◌, ◌==◌, nat_lt, bit_or}
use Rattle.zt_bits.specs.declared.kinds.Kind.{Kind}
use Rattle.zt_bits.specs.declared.kinds.Kind.TheVariants as kind
use Rattle.zt_bits.specs.declared.statuses.Status.{Status}
use Rattle.zt_bits.specs.declared.statuses.Status.TheVariants as status
use Rattle.zt_bits.specs.Tables.{asked_rights}
use Rattle.zt_rows.specs.declared.calls.Call.{Call}
use Rattle.zt_rows.specs.declared.calls.Call.TheVariants as call
use Rattle.zt_rows.specs.declared.calls.Reply.{Reply}
use Rattle.zt_rows.specs.declared.keys.RowKey.TheVariants as key
use Rattle.zt_rows.specs.declared.rows.Held.{Held}
use Rattle.zt_rows.specs.declared.rows.Life.TheVariants as life
use Rattle.zt_rows.specs.declared.rows.ObjectRow.{ObjectRow}
use Rattle.zt_rows.specs.declared.rows.Packet.{Packet}
use Rattle.zt_rows.specs.declared.rows.Packet.TheVariants as packet
use Rattle.zt_rows.specs.declared.rows.Row.{Row}
use Rattle.zt_rows.specs.declared.rows.Row.TheVariants as rows
use Rattle.zt_rows.specs.declared.rows.Wait.{Wait}
use Rattle.zt_rows.specs.Contents.{MessageContent}
use Rattle.zt_rows.specs.State.{State, put}
use Rattle.zt_rows.specs.Reads.{as_counters, as_object, as_entry, as_message, counters, object, entry, message, queue, packets, is_job, is_process, is_live, has_live_process}
use Rattle.zt_rows.specs.Tests.{any_kind, is_channel, is_port, is_endpoint, is_task, among, first, raised, next_at, object_next, without_bits, any_row}
use Rattle.zt_rows.specs.Settle.{push_packet}
use Rattle.zt_rows.specs.End.{depth, is_under, ends_with, end}
use Rattle.zt_rows.specs.Handles.{◌>>=◌, handle, answered, done, caller, take_out, take_out_all, install, whole, fresh, next_koid, make, make_pair}
use Rattle.zt_rows.specs.ObjectCalls.{create, create_pair, received, handle_close, handle_duplicate, handle_replace, may_set, set_signals, object_signal, object_signal_peer}
use Rattle.zt_rows.specs.ChannelCalls.{sent, push_message, channel_write, has_room_for, take_message, refuse_message, channel_read}
use Rattle.zt_rows.specs.PortCalls.{object_wait_async, pending, most_pending, port_queue, port_wait, is_cancelled, port_cancel}
use Rattle.zt_rows.specs.JobCalls.{most_depth, job_create, argument, child, hand_over, spawn, job_set_critical, task_kill, others, process_exit}
use Rattle.zt_rows.specs.Step.{direct}
use Rattle.zt_rows.specs.Consistent.{SoundMessage, IsSound}
use Rattle.zt_rows.proofs.StateLaws.{row-put}
use Rattle.zt_rows.proofs.RowLaws.{and_both, true≢false}
use Rattle.zt_rows.proofs.ReadLaws.{some_one}
use Rattle.zt_rows.proofs.SoundLaws.{all_map}
use Rattle.zt_rows.proofs.StepLaws.{Found, chained, after_check, after_some, after_result, after_handle_of, after_handle, caller-is}
use Rattle.zt_rows.proofs.SentLaws.{sent-held}
use Rattle.zt_rows.proofs.ReceivedLaws.{first-message}
use Rattle.zt_queries.specs.Reachability.{reached}
use Rattle.zt_queries.proofs.ReachLaws.{in-all, entry-reached, message-reached}
use Rattle.zt_queries.proofs.FollowLaws.{aged_itself, Was, is_old, was-raised, IsFresh, plain-fresh, is_known, AllKnown, AllReached, known-reached, known-new, known-entry, Direct, direct-itself, direct-less, direct-object, direct-counters, direct-entry, direct-message, direct-taken, direct-end, direct-cancel, direct-install, direct-install_all, direct-made, direct-paired}

-- ---- what changes waits and packets alone

abbrev next_koid_of : Option Row → ℕ
next_koid_of r = (as_counters r).next_koid

-- a row is put, or goes, that is no object, entry, message or counters
direct-wait : (S T : State) → Direct S T → (n : ℕ) (new : Option Row) → Direct S (put T (key.Wait n) new)
direct-wait S T d n new =
    let same : next_koid (put T (key.Wait n) new) ≡ next_koid T = ap next_koid_of (row-put T (key.Wait n) new key.Counters) in
    direct-less S T d (put T (key.Wait n) new) (omega arith)
    (λ x. ap as_object (row-put T (key.Wait n) new (key.Object x)))
    (λ p h held e. sym (ap as_entry (row-put T (key.Wait n) new (key.Entry p h))) ∙ e)
    (λ e l. ap as_message (row-put T (key.Wait n) new (key.Msg e l)))

direct-packet : (S T : State) → Direct S T → (p n : ℕ) (new : Option Row) → Direct S (put T (key.Packet p n) new)
direct-packet S T d p n new =
    let same : next_koid (put T (key.Packet p n) new) ≡ next_koid T = ap next_koid_of (row-put T (key.Packet p n) new key.Counters) in
    direct-less S T d (put T (key.Packet p n) new) (omega arith)
    (λ x. ap as_object (row-put T (key.Packet p n) new (key.Object x)))
    (λ q h held e. sym (ap as_entry (row-put T (key.Packet p n) new (key.Entry q h))) ∙ e)
    (λ e l. ap as_message (row-put T (key.Packet p n) new (key.Msg e l)))

direct-push_packet : (S T : State) → Direct S T → (x : ℕ) (o : ObjectRow) → Was S x o → (k : Packet) → Direct S (push_packet x o k T)
direct-push_packet S T d x o was k =
    let U : State = put T (key.Packet x o.next) (Some (rows.Packet k)) in
    direct-object S U (direct-packet S T d x o.next (Some (rows.Packet k))) x (raised o) (was-raised S x o was)

-- ---- the calls of one process

module _ (S : State) (sound : IsSound S) (p : ℕ) (live : has_live_process S p ≡ true) where
  begun : Direct S S
  begun = direct-itself S sound

  was-there : (x : ℕ) (o : ObjectRow) → object S x ≡ Some o → Was S x o
  was-there x o e = is_old o e (aged_itself o)

  was-caller : Was S p (caller S p)
  was-caller = let w = caller-is S p live in subst (Was S p) (sym w.3) (was-there p w.0 w.1)

  next-known : is_known S (next_koid S) ≡ true
  next-known = known-new S (next_koid S) (omega arith)

  -- ---- making objects

  direct-create : (made : Kind) → is_task made ≡ false → Direct S (create made S p).0
  direct-create made plain =
      let T : State = make (counters S) (fresh made 0) S in
      direct-install S T (direct-made S S begun (counters S) (fresh made 0) (omega arith) (plain-fresh S (fresh made 0) plain)) p (caller S p) was-caller (whole (next_koid S) made) next-known

  direct-create_pair : (made : Kind) → is_task made ≡ false → Direct S (create_pair made S p).0
  direct-create_pair made plain =
      let k : ℕ = next_koid S in
      let T : State = make_pair (counters S) made S in
      let U : State = install p (caller S p) (whole (next_koid S) made) T in
      let one : Direct S U = direct-install S T (direct-paired S S begun (counters S) made (omega arith) plain) p (caller S p) was-caller (whole (next_koid S) made) next-known in
      direct-install S U one p (raised (caller S p)) (was-raised S p (caller S p) was-caller) (whole (next_koid S + 1) made) (known-new S (next_koid S + 1) (omega arith))

  -- ---- handles

  direct-handle_close : (h : ℕ) → Direct S (handle_close S p h).0
  direct-handle_close h =
      elim (h == 0) as (λ b. Direct S (answered S (if b then Ok (S, done) else (ok_or (entry S p h) status.BadHandle >>= (λ _. Ok (take_out S p h, done))))).0) [
        | true ↦ begun
        | false ↦ after_some (Direct S) S (entry S p h) status.BadHandle _ begun (λ held e. direct-taken S S begun p (λ g. g == h))
      ]

  direct-received : (rights : ℕ) (T : State) → Direct S T → (h : ℕ) (held : Held) → entry S p h ≡ Some held → Direct S (received rights S p held T).0
  direct-received rights T d h held there = direct-install S T d p (caller S p) was-caller (record held { rights = record { 0 = rights } }) (known-entry S p h held there)

  direct-handle_duplicate : (h mask : ℕ) → Direct S (handle_duplicate S p h mask).0
  direct-handle_duplicate h mask =
      after_handle (Direct S) S status.WrongType p h any_kind 0x1 _ begun (λ held o found.
      after_some (Direct S) S (asked_rights mask held.rights.0) status.InvalidArgs _ begun (λ rights e.
      direct-received rights S begun h held found.entry_there))

  direct-handle_replace : (h mask : ℕ) → Direct S (handle_replace S p h mask).0
  direct-handle_replace h mask =
      let rest : Direct S (take_out S p h) = direct-taken S S begun p (λ g. g == h) in
      after_some (Direct S) S (entry S p h) status.BadHandle _ begun (λ held there.
      after_some (Direct S) (take_out S p h) (asked_rights mask held.rights.0) status.InvalidArgs _ rest (λ rights e.
      direct-received rights (take_out S p h) rest h held there))

  -- ---- signals

  direct-signals : (x : ℕ) (o : ObjectRow) (clear set : ℕ) → object S x ≡ Some o → Direct S (set_signals x o clear set S)
  direct-signals x o clear set there =
      let q : ObjectRow = record o { signals = record { 0 = bit_or (without_bits o.signals.0 clear) set } } in
      direct-object S S begun x q (is_old o there (record { kind = refl; life = λ e. e; link = inl refl }))

  direct-object_signal : (h clear set : ℕ) → Direct S (object_signal S p h clear set).0
  direct-object_signal h clear set =
      after_handle (Direct S) S status.WrongType p h any_kind 0x1000 _ begun (λ held o found.
      after_check (Direct S) S (may_set o.kind clear set) status.InvalidArgs _ begun (λ settable.
      direct-signals held.koid o clear set found.object_there))

  direct-object_signal_peer : (h clear set : ℕ) → Direct S (object_signal_peer S p h clear set).0
  direct-object_signal_peer h clear set =
      after_handle (Direct S) S status.NotSupported p h is_endpoint 0x2000 _ begun (λ held o found.
      after_check (Direct S) S (may_set o.kind clear set) status.InvalidArgs _ begun (λ settable.
      after_some (Direct S) S (object S o.link) status.PeerClosed _ begun (λ peer there.
      direct-signals o.link peer clear set there)))

  -- ---- channels

  -- no message lies yet at the next number of an endpoint
  no-message : (x : ℕ) (o : ObjectRow) → object S x ≡ Some o → (m : MessageContent) → message S x o.next ≡ Some m → ⊥
  no-message x o there m e =
      let s : SoundMessage S x o.next m = sound.of_messages x o.next m e in
      let less : o.next < next_at S x = s.number in
      let same : next_at S x ≡ o.next = ap object_next there in
      omega arith

  direct-push_message : (T : State) → Direct S T → (x : ℕ) (o : ObjectRow) → object S x ≡ Some o → (m : MessageContent) → AllReached S m.handles → Direct S (push_message x o m T)
  direct-push_message T d x o there m were =
      let U : State = put T (key.Msg x o.next) (Some (rows.Msg m)) in
      let one : Direct S U = direct-message S T d x o.next (Some m) (λ k e. subst (λ (z : MessageContent). AllReached S z.handles) (some_one m k e) were) (λ k e out. no-message x o there k e) in
      direct-object S U one x (raised o) (was-raised S x o (was-there x o there))

  direct-channel_write : (h : ℕ) (bytes values : List ℕ) → Direct S (channel_write S p h bytes values).0
  direct-channel_write h bytes values =
      let T : State = take_out_all S p (among values) in
      let base : Direct S T = direct-taken S S begun p (among values) in
      after_handle_of (Direct S) S T status.WrongType p h is_channel 0x8 _ base (λ held o found.
      after_result (Direct S) T (sent S p h [] values) _ base (λ all e.
      after_some (Direct S) T (object S o.link) status.PeerClosed _ base (λ peer there.
      let w = sent-held S p h [] values all e in
      direct-push_message T base o.link peer there (record { bytes = bytes; handles = all })
      (all_map all (λ one l is. entry-reached S p is.0 one is.1) w.0))))

  -- a message of an endpoint that the caller holds leaves its queue
  direct-popped : (x n : ℕ) → among (reached S) x ≡ true → Direct S (put S (key.Msg x n) None)
  direct-popped x n known = direct-message S S begun x n None (λ m e. cc) (λ m e out. true≢false (among (reached S) x) known out)

  direct-channel_read : (h bytes handles : ℕ) (discard : Bool) → Direct S (channel_read S p h bytes handles discard).0
  direct-channel_read h bytes handles discard =
      after_handle (Direct S) S status.WrongType p h is_channel 0x4 _ begun (λ held o found.
      after_some (Direct S) S (first (queue S held.koid)) (if o.link == 0 then status.PeerClosed else status.ShouldWait) _ begun (λ w e.
      let open_queue : among (reached S) held.koid ≡ true = entry-reached S p h held found.entry_there in
      let there : message S held.koid w.0 ≡ Some w.1 = first-message S held.koid w.0 w.1 e in
      let gone : Direct S (put S (key.Msg held.koid w.0) None) = direct-popped held.koid w.0 open_queue in
      let known : AllKnown S w.1.handles = in-all (λ (g : Held). is_known S g.koid ≡ true) w.1.handles (λ g l. known-reached S g.koid (message-reached S held.koid w.0 w.1 there open_queue g l)) in
      elim (has_room_for bytes handles w.1) as (λ b. Direct S (answered S (Ok (if b then take_message S p held.koid w.0 w.1 else refuse_message S held.koid w.0 w.1 discard))).0) [
        | true ↦ direct-install_all S w.1.handles (put S (key.Msg held.koid w.0) None) gone p (caller S p) was-caller known
        | false ↦ elim discard as (λ b. Direct S (answered S (Ok (refuse_message S held.koid w.0 w.1 b))).0) [
          | true ↦ gone
          | false ↦ begun
        ]
      ]))

  -- ---- ports

  direct-object_wait_async : (h port packet_key signals : ℕ) (edge : Bool) → Direct S (object_wait_async S p h port packet_key signals edge).0
  direct-object_wait_async h port packet_key signals edge =
      after_handle (Direct S) S status.WrongType p h any_kind 0x4000 _ begun (λ source seen named.
      after_handle (Direct S) S status.WrongType p port is_port 0x8 _ begun (λ held o found.
      let w : Wait = record { process = p; handle = h; port = held.koid; key = packet_key; signals = record { 0 = signals }; edge = edge } in
      let T : State = put S (key.Wait (counters S).next_wait) (Some (rows.Wait w)) in
      direct-counters S T (direct-wait S S begun (counters S).next_wait (Some (rows.Wait w))) (record (counters S) { next_wait = (counters S).next_wait + 1 }) (omega arith)))

  direct-port_queue : (port packet_key : ℕ) (bytes : List ℕ) → Direct S (port_queue S p port packet_key bytes).0
  direct-port_queue port packet_key bytes =
      after_handle (Direct S) S status.WrongType p port is_port 0x8 _ begun (λ held o found.
      after_check (Direct S) S (nat_lt (pending S held.koid) most_pending) status.ShouldWait _ begun (λ few.
      direct-push_packet S S begun held.koid o (was-there held.koid o found.object_there) (packet.User packet_key bytes)))

  direct-port_wait : (port : ℕ) → Direct S (port_wait S p port).0
  direct-port_wait port =
      after_handle (Direct S) S status.WrongType p port is_port 0x4 _ begun (λ held o found.
      after_some (Direct S) S (first (packets S held.koid)) status.TimedOut _ begun (λ parcel e.
      direct-packet S S begun held.koid parcel.0 None))

  direct-port_cancel : (port source packet_key : ℕ) → Direct S (port_cancel S p port source packet_key).0
  direct-port_cancel port source packet_key =
      after_handle (Direct S) S status.WrongType p port is_port 0x8 _ begun (λ held o found.
      after_handle (Direct S) S status.WrongType p source any_kind 0x4000 _ begun (λ named seen there.
      after_check (Direct S) S (any_row (is_cancelled held.koid p source packet_key) S) status.NotFound _ begun (λ some.
      direct-cancel S S begun held.koid p source packet_key)))

  -- ---- jobs and processes

  -- a new job or process has a live job as its parent, which the caller holds
  child-fresh : (h : ℕ) (held : Held) (job q : ObjectRow) → entry S p h ≡ Some held → object S held.koid ≡ Some job → is_job job.kind ≡ true → is_live job.life ≡ true → q.link ≡ held.koid → IsFresh S q
  child-fresh h held job q there at of_kind lives link task =
      inr (job, ap (object S) link ∙ at, and_both (is_job job.kind) _ of_kind lives, ap (among (reached S)) link ∙ entry-reached S p h held there)

  direct-job_create : (h : ℕ) → Direct S (job_create S p h).0
  direct-job_create h =
      after_handle (Direct S) S status.WrongType p h is_job 0x10000 _ begun (λ held job found.
      after_check (Direct S) S (is_live job.life) status.BadState _ begun (λ lives.
      after_check (Direct S) S (nat_lt (depth S held.koid) most_depth) status.OutOfRange _ begun (λ shallow.
      let T : State = make (counters S) (fresh kind.Job held.koid) S in
      let d : Direct S T = direct-made S S begun (counters S) (fresh kind.Job held.koid) (omega arith) (child-fresh h held job (fresh kind.Job held.koid) found.entry_there found.object_there found.of_kind lives refl) in
      direct-install S T d p (caller S p) was-caller (whole (next_koid S) kind.Job) next-known)))

  after_argument : (P : State → Type 0) (arg : ℕ) (f : Option Held → Result (State × Reply) Status) → P S → P (answered S (f None)).0 → ((held : Held) (o : ObjectRow) → Found S p arg any_kind 0x2 held o → P (answered S (f (Some held))).0) → P (answered S (argument S p arg >>= f)).0
  after_argument P arg f base none some =
      elim (arg == 0) as (λ b. P (answered S ((if b then Ok None else (handle S p arg any_kind 0x2 >>= (λ w. Ok (Some w.0)))) >>= f)).0) [
        | true ↦ none
        | false ↦ subst (λ r. P (answered S r).0) (sym (chained (handle S p arg any_kind 0x2) (λ w. Ok (Some w.0)) f)) (after_handle P S status.WrongType p arg any_kind 0x2 (λ w. Ok (Some w.0) >>= f) base some)
      ]

  direct-spawn : (h arg : ℕ) → Direct S (spawn S p h arg).0
  direct-spawn h arg =
      after_handle (Direct S) S status.WrongType p h is_job 0x20000 _ begun (λ held job found.
      after_argument (Direct S) arg _ begun
      (after_check (Direct S) S (is_live job.life) status.BadState _ begun (λ lives.
      let T : State = make (counters S) (child None held.koid) S in
      let d : Direct S T = direct-made S S begun (counters S) (child None held.koid) (omega arith) (child-fresh h held job (child None held.koid) found.entry_there found.object_there found.of_kind lives refl) in
      direct-install S T d p (caller S p) was-caller (whole (next_koid S) kind.Process) next-known))
      (λ given o handed. after_check (Direct S) S (is_live job.life) status.BadState _ begun (λ lives.
      let R : State = take_out S p arg in
      let T : State = make (counters S) (child (Some given) held.koid) R in
      let d : Direct S T = direct-made S R (direct-taken S S begun p (λ g. g == arg)) (counters S) (child (Some given) held.koid) (omega arith) (child-fresh h held job (child (Some given) held.koid) found.entry_there found.object_there found.of_kind lives refl) in
      let U : State = hand_over (Some given) (next_koid S) T in
      let e : Direct S U = direct-entry S T d (next_koid S) 3 given (known-entry S p arg given handed.entry_there) in
      direct-install S U e p (caller S p) was-caller (whole (next_koid S) kind.Process) next-known)))

  direct-job_set_critical : (job process : ℕ) → Direct S (job_set_critical S p job process).0
  direct-job_set_critical job process =
      after_handle (Direct S) S status.WrongType p job is_job 0x200 _ begun (λ over q named.
      after_handle (Direct S) S status.WrongType p process is_process 0x4000 _ begun (λ held o found.
      after_check (Direct S) S (o.critical == 0) status.AlreadyBound _ begun (λ free.
      after_check (Direct S) S (is_under S over.koid held.koid) status.InvalidArgs _ begun (λ under.
      direct-object S S begun held.koid (record o { critical = over.koid }) (is_old o found.object_there (record { kind = refl; life = λ e. e; link = inl refl }))))))

  direct-task_kill : (h : ℕ) → Direct S (task_kill S p h).0
  direct-task_kill h =
      after_handle (Direct S) S status.WrongType p h is_task 0x200 _ begun (λ held task found.
      elim (is_live task.life) as (λ b. Direct S (if b then end S (ends_with S held.koid) life.Killed else S)) [
        | true ↦ direct-end S S begun (ends_with S held.koid) life.Killed refl
        | false ↦ begun
      ])

  direct-process_exit : (code : ℤ) → Direct S (process_exit S p code).0
  direct-process_exit code =
      let T : State = end S (λ x. x == p) (life.Exited code) in
      direct-end S T (direct-end S S begun (λ x. x == p) (life.Exited code) refl) (others S p) life.Killed refl

  -- every call
  pub direct-call : (c : Call) → Direct S (direct S p c).0
  unfolding direct
  direct-call call.EventCreate = direct-create kind.Event refl
  direct-call call.EventPairCreate = direct-create_pair kind.EventPair refl
  direct-call (call.HandleClose h) = direct-handle_close h
  direct-call (call.HandleDuplicate h rights) = direct-handle_duplicate h rights
  direct-call (call.HandleReplace h rights) = direct-handle_replace h rights
  direct-call (call.ObjectSignal h clear set) = direct-object_signal h clear.0 set.0
  direct-call (call.ObjectSignalPeer h clear set) = direct-object_signal_peer h clear.0 set.0
  direct-call call.ChannelCreate = direct-create_pair kind.Channel refl
  direct-call (call.ChannelWrite h parcel) = direct-channel_write h parcel.bytes parcel.handles
  direct-call (call.ChannelRead h bytes handles discard) = direct-channel_read h bytes handles discard
  direct-call call.PortCreate = direct-create kind.Port refl
  direct-call (call.ObjectWaitAsync h port packet_key signals edge) = direct-object_wait_async h port packet_key signals.0 edge
  direct-call (call.PortQueue port packet_key bytes) = direct-port_queue port packet_key bytes
  direct-call (call.PortWait port) = direct-port_wait port
  direct-call (call.PortCancel port source packet_key) = direct-port_cancel port source packet_key
  direct-call (call.JobCreate job) = direct-job_create job
  direct-call (call.Spawn job arg) = direct-spawn job arg
  direct-call (call.JobSetCritical job process) = direct-job_set_critical job process
  direct-call (call.TaskKill h) = direct-task_kill h
  direct-call (call.ProcessExit code) = direct-process_exit code
