-- How many numbers a count of calls gives out at most, and that a history has too few calls to use all numbers up.
use Rattle.std.proofs.Common.{◌≡◌, ◌≤◌, ◌<◌, ℕ, zero, suc, ◌+◌, ◌*◌, ◌^◌, Bool, true, false, cond, List, [], ◌∷◌, length, inl, refl, sym, ap, ◌∙◌, subst, arith}
use Rattle.std.specs.Prelude.{Option, None, Some, Ok, ok_or, count_by, fold, if◌then◌else◌, ◌==◌}
use Rattle.std.specs.List.{filter_map, cons_option}
use Rattle.zt_bits.specs.declared.kinds.Kind.{Kind}
use Rattle.zt_bits.specs.declared.kinds.Kind.TheVariants as kind
use Rattle.zt_bits.specs.declared.statuses.Status.TheVariants as status
use Rattle.zt_bits.specs.Tables.{asked_rights}
use Rattle.zt_rows.specs.declared.calls.Call.{Call}
use Rattle.zt_rows.specs.declared.calls.Call.TheVariants as call
use Rattle.zt_rows.specs.declared.keys.RowKey.{RowKey}
use Rattle.zt_rows.specs.declared.keys.RowKey.TheVariants as key
use Rattle.zt_rows.specs.declared.rows.Counters.{Counters}
use Rattle.zt_rows.specs.declared.rows.Held.{Held}
use Rattle.zt_rows.specs.declared.rows.ObjectRow.{ObjectRow}
use Rattle.zt_rows.specs.declared.rows.Wait.{Wait}
use Rattle.zt_rows.specs.declared.rows.Row.{Row}
use Rattle.zt_rows.specs.declared.rows.Row.TheVariants as rows
use Rattle.zt_rows.specs.State.{State, row, put}
use Rattle.zt_rows.specs.Reads.{as_counters, counters, object, objects, entry, wait_at, waits, has_live_process}
use Rattle.zt_rows.specs.Tests.{any_kind, is_endpoint, kind_at, next_at, object_next, count_row, raised}
use Rattle.zt_rows.specs.Room.{HasRoom, NextFits, is_wait, NextBy, HasGiven, HasSpent}
use Rattle.zt_rows.specs.Opening.{opening}
use Rattle.zt_rows.specs.Collect.{left, without, goes, rounds, collect}
use Rattle.zt_rows.specs.Settle.{refreshed, refresh, news, fire, settle}
use Rattle.zt_rows.specs.Handles.{◌>>=◌, answered, done, take_out, install, whole, fresh, next_koid, make, make_pair}
use Rattle.zt_rows.specs.ObjectCalls.{create, create_pair, received, handle_close, handle_duplicate, handle_replace, may_set, set_signals, object_signal, object_signal_peer}
use Rattle.zt_rows.specs.Step.{IsCall, direct, step}
use Rattle.zt_rows.specs.Consistent.{IsSound}
use Rattle.zt_rows.proofs.RowLaws.{count-cons, count_row-change, count_row-put-out, count_row-take}
use Rattle.zt_rows.proofs.ReadLaws.{some_one, kind_at-some, stayed, counters-without}
use Rattle.zt_rows.proofs.CollectLaws.{sound-collect}
use Rattle.zt_rows.proofs.FramedLaws.{sound-framed}
use Rattle.zt_rows.proofs.SettleLaws.{object-refresh, other-refresh, map-renew, framed-refresh, fired, without_wait, with_packet, object-fired, counters-fired, fire-cases, ForPorts, ports-fire, sound-fire, ports-sound}
use Rattle.zt_rows.proofs.MakeLaws.{others-made}
use Rattle.zt_rows.proofs.TakeLaws.{object-taken}
use Rattle.zt_rows.proofs.PairLaws.{others-paired}
use Rattle.zt_rows.proofs.StepLaws.{after_check, after_some, after_handle, caller-is}
use Rattle.zt_rows.proofs.GivenLaws.{growth, OfKind, Spends, spends-itself, spends-spends, spends-make, spends-make_pair, object-received, spends-install, spends-take_out_all, spends-signals, Called, spends-called, called-nothing}
use Rattle.zt_rows.proofs.SentLaws.{called-channel_write}
use Rattle.zt_rows.proofs.ReceivedLaws.{called-channel_read}
use Rattle.zt_rows.proofs.PortSteps.{called-object_wait_async, called-port_queue, called-port_wait, called-port_cancel}
use Rattle.zt_rows.proofs.JobSteps.{called-job_create, called-spawn, called-job_set_critical, called-task_kill, called-process_exit}
use Rattle.zt_rows.proofs.CallLaws.{sound-direct}
use Rattle.zt_rows.proofs.OpeningLaws.{of_both, counters-opening}

-- ---- few calls leave room

next-fits : (calls packets : ℕ) (on : Kind) (next : ℕ) → calls ≤ 1048576 → packets ≤ 2 ^ 62 → NextBy calls packets on next → NextFits on next
next-fits calls packets kind.Process next few small h = omega arith
next-fits calls packets kind.Channel next few small h = omega arith
next-fits calls packets kind.Port next few small h = omega arith
next-fits calls packets kind.Job next few small h = tt
next-fits calls packets kind.Event next few small h = tt
next-fits calls packets kind.EventPair next few small h = tt

-- after as many calls as a history can have there is room for one more
pub spent-room : (S : State) (calls : ℕ) → calls ≤ 1048576 → HasSpent calls S → HasRoom S
spent-room S calls few given = record {
  koids = let a : next_koid S ≤ 2 * calls + 1026 = given.koids in omega arith;
  waits = let a : (counters S).next_wait ≤ calls = given.waits in omega arith;
  owners = λ x o e. next-fits calls (2097152 * calls) o.kind o.next few (omega arith) (given.owners x o e);
}

next-more : (calls packets more larger : ℕ) (on : Kind) (next : ℕ) → calls ≤ more → packets ≤ larger → NextBy calls packets on next → NextBy more larger on next
next-more calls packets more larger kind.Process next few small h = omega arith
next-more calls packets more larger kind.Channel next few small h = omega arith
next-more calls packets more larger kind.Port next few small h = omega arith
next-more calls packets more larger kind.Job next few small h = tt
next-more calls packets more larger kind.Event next few small h = tt
next-more calls packets more larger kind.EventPair next few small h = tt

given-more : (S : State) (calls packets larger : ℕ) → packets ≤ larger → HasGiven calls packets S → HasGiven calls larger S
given-more S calls packets larger small given = record {
  koids = given.koids;
  waits = given.waits;
  waiting = given.waiting;
  owners = λ x o e. next-more calls packets calls larger o.kind o.next (omega arith) small (given.owners x o e);
}

-- ---- the opening

waits-opening : (counters opening).next_wait ≡ 0
unfolding row put
waits-opening = refl

waiting-opening : count_row is_wait opening ≡ 0
unfolding count_row put
waiting-opening = refl

pub spent-opening : HasSpent 0 opening
spent-opening = record {
  koids = let e : next_koid opening ≡ 1026 = counters-opening in omega arith;
  waits = let e : (counters opening).next_wait ≡ 0 = waits-opening in omega arith;
  waiting = let e : count_row is_wait opening ≡ 0 = waiting-opening in omega arith;
  owners = of_both (λ x o. NextBy 0 0 o.kind o.next) tt (omega arith);
}

-- ---- the calls

called-received : (rights : ℕ) (S T : State) (p : ℕ) (held : Held) → has_live_process S p ≡ true → Spends 0 0 0 S T → object T p ≡ object S p → Called S (received rights S p held T).0
called-received rights S T p held live s same =
    let w = caller-is S p live in
    subst (λ me. Called S (install p me (record held { rights = record { 0 = rights } }) T)) (sym w.3)
    (spends-called 0 1 0 S (install p w.0 (record held { rights = record { 0 = rights } }) T) (omega arith) (omega arith) (omega arith)
    (spends-spends 0 0 0 0 1 0 S T (install p w.0 (record held { rights = record { 0 = rights } }) T) s (spends-install T p w.0 (record held { rights = record { 0 = rights } }) (same ∙ w.1) w.2)))

called-create : (S : State) (p : ℕ) (k : Kind) → IsSound S → has_live_process S p ≡ true → Called S (create k S p).0
called-create S p k sound live =
    let w = caller-is S p live in
    let T : State = make (counters S) (fresh k 0) S in
    let here : object T p ≡ Some w.0 = others-made S sound (fresh k 0) p w.0 w.1 in
    subst (λ me. Called S (install p me (whole (next_koid S) k) T)) (sym w.3)
    (spends-called 1 1 0 S (install p w.0 (whole (next_koid S) k) T) (omega arith) (omega arith) (omega arith)
    (spends-spends 1 0 0 0 1 0 S T (install p w.0 (whole (next_koid S) k) T) (spends-make S sound (fresh k 0) refl) (spends-install T p w.0 (whole (next_koid S) k) here w.2)))

called-create_pair : (S : State) (p : ℕ) (k : Kind) → IsSound S → has_live_process S p ≡ true → is_endpoint k ≡ true → Called S (create_pair k S p).0
called-create_pair S p k sound live ends =
    let w = caller-is S p live in
    let T : State = make_pair (counters S) k S in
    let here : object T p ≡ Some w.0 = others-paired S sound k ends p w.0 w.1 in
    let U : State = install p w.0 (whole (next_koid S) k) T in
    let there : object U p ≡ Some (raised w.0) = object-received T p w.0 (whole (next_koid S) k) in
    let V : State = install p (raised w.0) (whole (next_koid S + 1) k) U in
    subst (λ me. Called S (install p (raised me) (whole (next_koid S + 1) k) (install p me (whole (next_koid S) k) T))) (sym w.3)
    (spends-called 2 2 0 S V (omega arith) (omega arith) (omega arith)
    (spends-spends 2 1 0 0 1 0 S U V
    (spends-spends 2 0 0 0 1 0 S T U (spends-make_pair S sound k) (spends-install T p w.0 (whole (next_koid S) k) here w.2))
    (spends-install U p (raised w.0) (whole (next_koid S + 1) k) there w.2)))

called-take_out : (S : State) (p h : ℕ) → Called S (take_out S p h)
called-take_out S p h = spends-called 0 0 0 S (take_out S p h) (omega arith) (omega arith) (omega arith) (spends-take_out_all S p (λ g. g == h))

called-handle_close : (S : State) (p h : ℕ) → Called S (handle_close S p h).0
called-handle_close S p h =
    elim (h == 0) as (λ b. Called S (answered S (if b then Ok (S, done) else (ok_or (entry S p h) status.BadHandle >>= (λ _. Ok (take_out S p h, done))))).0) [
      | true ↦ called-nothing S
      | false ↦ after_some (Called S) S (entry S p h) status.BadHandle _ (called-nothing S) (λ held e. called-take_out S p h)
    ]

called-handle_duplicate : (S : State) (p h mask : ℕ) → has_live_process S p ≡ true → Called S (handle_duplicate S p h mask).0
called-handle_duplicate S p h mask live =
    after_handle (Called S) S status.WrongType p h any_kind 0x1 _ (called-nothing S) (λ held o found.
    after_some (Called S) S (asked_rights mask held.rights.0) status.InvalidArgs _ (called-nothing S) (λ rights e.
    called-received rights S S p held live (spends-itself S) refl))

called-handle_replace : (S : State) (p h mask : ℕ) → has_live_process S p ≡ true → Called S (handle_replace S p h mask).0
called-handle_replace S p h mask live =
    after_some (Called S) S (entry S p h) status.BadHandle _ (called-nothing S) (λ held there.
    after_some (Called S) (take_out S p h) (asked_rights mask held.rights.0) status.InvalidArgs _ (called-take_out S p h) (λ rights e.
    called-received rights S (take_out S p h) p held live (spends-take_out_all S p (λ g. g == h)) (object-taken p (λ g. g == h) S p)))

called-signals : (S : State) (x : ℕ) (o : ObjectRow) (clear set : ℕ) → object S x ≡ Some o → Called S (set_signals x o clear set S)
called-signals S x o clear set here = spends-called 0 0 0 S (set_signals x o clear set S) (omega arith) (omega arith) (omega arith) (spends-signals S x o clear set here)

called-object_signal : (S : State) (p h clear set : ℕ) → Called S (object_signal S p h clear set).0
called-object_signal S p h clear set =
    after_handle (Called S) S status.WrongType p h any_kind 0x1000 _ (called-nothing S) (λ held o found.
    after_check (Called S) S (may_set o.kind clear set) status.InvalidArgs _ (called-nothing S) (λ settable.
    called-signals S held.koid o clear set found.object_there))

called-object_signal_peer : (S : State) (p h clear set : ℕ) → Called S (object_signal_peer S p h clear set).0
called-object_signal_peer S p h clear set =
    after_handle (Called S) S status.NotSupported p h is_endpoint 0x2000 _ (called-nothing S) (λ held o found.
    after_check (Called S) S (may_set o.kind clear set) status.InvalidArgs _ (called-nothing S) (λ settable.
    after_some (Called S) S (object S o.link) status.PeerClosed _ (called-nothing S) (λ peer there.
    called-signals S o.link peer clear set there)))

pub called-direct : (S : State) (p : ℕ) (c : Call) → IsSound S → has_live_process S p ≡ true → Called S (direct S p c).0
unfolding direct
called-direct S p call.EventCreate sound live = called-create S p kind.Event sound live
called-direct S p call.EventPairCreate sound live = called-create_pair S p kind.EventPair sound live refl
called-direct S p (call.HandleClose h) sound live = called-handle_close S p h
called-direct S p (call.HandleDuplicate h rights) sound live = called-handle_duplicate S p h rights live
called-direct S p (call.HandleReplace h rights) sound live = called-handle_replace S p h rights live
called-direct S p (call.ObjectSignal h clear set) sound live = called-object_signal S p h clear.0 set.0
called-direct S p (call.ObjectSignalPeer h clear set) sound live = called-object_signal_peer S p h clear.0 set.0
called-direct S p call.ChannelCreate sound live = called-create_pair S p kind.Channel sound live refl
called-direct S p (call.ChannelWrite h parcel) sound live = called-channel_write S p h parcel.bytes parcel.handles sound
called-direct S p (call.ChannelRead h bytes handles discard) sound live = called-channel_read S p h bytes handles discard sound live
called-direct S p call.PortCreate sound live = called-create S p kind.Port sound live
called-direct S p (call.ObjectWaitAsync h port packet_key signals edge) sound live = called-object_wait_async S p h port packet_key signals.0 edge
called-direct S p (call.PortQueue port packet_key bytes) sound live = called-port_queue S p port packet_key bytes
called-direct S p (call.PortWait port) sound live = called-port_wait S p port
called-direct S p (call.PortCancel port source packet_key) sound live = called-port_cancel S p port source packet_key
called-direct S p (call.JobCreate job) sound live = called-job_create S p job sound live
called-direct S p (call.Spawn job argument) sound live = called-spawn S p job argument sound live
called-direct S p (call.JobSetCritical job process) sound live = called-job_set_critical S p job process
called-direct S p (call.TaskKill h) sound live = called-task_kill S p h
called-direct S p (call.ProcessExit code) sound live = called-process_exit S p code

next-grown : (calls packets : ℕ) (on : Kind) (a b : ℕ) → NextBy calls packets on a → b ≤ a + growth 64 1 on → NextBy (calls + 1) (packets + 1) on b
next-grown calls packets kind.Process a b h g = omega arith
next-grown calls packets kind.Channel a b h g = omega arith
next-grown calls packets kind.Port a b h g = omega arith
next-grown calls packets kind.Job a b h g = tt
next-grown calls packets kind.Event a b h g = tt
next-grown calls packets kind.EventPair a b h g = tt

next-new : (calls packets : ℕ) (on : Kind) (b : ℕ) → b ≤ growth 64 1 on → NextBy (calls + 1) (packets + 1) on b
next-new calls packets kind.Process b g = omega arith
next-new calls packets kind.Channel b g = omega arith
next-new calls packets kind.Port b g = omega arith
next-new calls packets kind.Job b g = tt
next-new calls packets kind.Event b g = tt
next-new calls packets kind.EventPair b g = tt

given-called : (S T : State) (calls packets : ℕ) → HasGiven calls packets S → Called S T → HasGiven (calls + 1) (packets + 1) T
given-called S T calls packets given s = record {
  koids = let a : next_koid S ≤ 2 * calls + 1026 = given.koids in let b : next_koid T ≤ next_koid S + 2 = s.koids in omega arith;
  waits = let a : (counters S).next_wait ≤ calls = given.waits in let b : (counters T).next_wait ≤ (counters S).next_wait + 1 = s.waits in omega arith;
  waiting = let a : count_row is_wait S ≤ calls = given.waiting in let b : count_row is_wait T ≤ count_row is_wait S + 1 = s.waiting in omega arith;
  owners = λ x q e. of_owner x q (object S x) refl (s.owners x q e);
}
  where
    of_owner : (x : ℕ) (q : ObjectRow) (r : Option ObjectRow) → object S x ≡ r → OfKind (object S x) q.kind × (q.next ≤ next_at S x + growth 64 1 q.kind) → NextBy (calls + 1) (packets + 1) q.kind q.next
    of_owner x q (Some o) h w =
        let same : o.kind ≡ q.kind = subst (λ r. OfKind r q.kind) h w.0 in
        let n : next_at S x ≡ o.next = ap object_next h in
        let g : q.next ≤ next_at S x + growth 64 1 q.kind = w.1 in
        next-grown calls packets q.kind o.next q.next (subst (λ z. NextBy calls packets z o.next) same (given.owners x o h)) (omega arith)
    of_owner x q None h w =
        let n : next_at S x ≡ 0 = ap object_next h in
        let g : q.next ≤ next_at S x + growth 64 1 q.kind = w.1 in
        next-new calls packets q.kind q.next (omega arith)

-- ---- removal

left-wait : (going : ℕ → Bool) (k : RowKey) (r s : Row) → left going k r ≡ Some s → is_wait k s ≡ true → is_wait k r ≡ true
left-wait going (key.Wait n) (rows.Wait w) s e h = refl
left-wait going (key.Wait n) r s e h = subst (λ z. is_wait (key.Wait n) z ≡ true) (sym (some_one r s e)) h
left-wait going _ r s e h = cc

waiting-without : (going : ℕ → Bool) (S : State) → count_row is_wait (without S going) ≤ count_row is_wait S
unfolding without
waiting-without going S = count_row-change is_wait (left going) (left-wait going) S

given-without : (going : ℕ → Bool) (S : State) (calls packets : ℕ) → HasGiven calls packets S → HasGiven calls packets (without S going)
given-without going S calls packets given =
    let same : counters (without S going) ≡ counters S = counters-without going S in
    record {
      koids = let k : next_koid (without S going) ≡ next_koid S = ap (λ (c : Counters). c.next_koid) same in let a : next_koid S ≤ 2 * calls + 1026 = given.koids in omega arith;
      waits = let k : (counters (without S going)).next_wait ≡ (counters S).next_wait = ap (λ (c : Counters). c.next_wait) same in let a : (counters S).next_wait ≤ calls = given.waits in omega arith;
      waiting = let a : count_row is_wait (without S going) ≤ count_row is_wait S = waiting-without going S in let b : count_row is_wait S ≤ calls = given.waiting in omega arith;
      owners = λ x o e. let w = stayed going S x o e in subst (λ (z : ObjectRow). NextBy calls packets z.kind z.next) (sym w.2) (given.owners x w.0 w.1);
    }

given-rounds : (n : ℕ) (S : State) (calls packets : ℕ) → HasGiven calls packets S → HasGiven calls packets (rounds n S)
unfolding rounds
given-rounds zero S calls packets given = given
given-rounds (suc n) S calls packets given = given-rounds n (without S (goes S)) calls packets (given-without (goes S) S calls packets given)

given-collect : (S : State) (calls packets : ℕ) → HasGiven calls packets S → HasGiven calls packets (collect S)
unfolding collect
given-collect S calls packets given = given-rounds (length (objects S)) S calls packets given

-- ---- signals and waits

refreshed-wait : (S : State) (k : RowKey) (r s : Row) → refreshed S k r ≡ Some s → is_wait k s ≡ true → is_wait k r ≡ true
refreshed-wait S (key.Wait n) r s e h = subst (λ z. is_wait (key.Wait n) z ≡ true) (sym (some_one r s e)) h
refreshed-wait S _ r s e h = cc

waiting-refresh : (S : State) → count_row is_wait (refresh S) ≤ count_row is_wait S
unfolding refresh
waiting-refresh S = count_row-change is_wait (refreshed S) (refreshed-wait S) S

given-refresh : (S : State) (calls packets : ℕ) → HasGiven calls packets S → HasGiven calls packets (refresh S)
given-refresh S calls packets given =
    let same : counters (refresh S) ≡ counters S = ap as_counters (other-refresh S key.Counters (λ x e. cc)) in
    record {
      koids = let k : next_koid (refresh S) ≡ next_koid S = ap (λ (c : Counters). c.next_koid) same in let a : next_koid S ≤ 2 * calls + 1026 = given.koids in omega arith;
      waits = let k : (counters (refresh S)).next_wait ≡ (counters S).next_wait = ap (λ (c : Counters). c.next_wait) same in let a : (counters S).next_wait ≤ calls = given.waits in omega arith;
      waiting = let a : count_row is_wait (refresh S) ≤ count_row is_wait S = waiting-refresh S in let b : count_row is_wait S ≤ calls = given.waiting in omega arith;
      owners = λ x o e. let w = map-renew S x (object S x) o (sym (object-refresh S x) ∙ e) in subst (λ (z : ObjectRow). NextBy calls packets z.kind z.next) (sym w.2) (given.owners x w.0 w.1);
    }

-- a wait that fires gives its port one packet
given-fired : (S : State) (n : ℕ) (w : Wait) (calls packets : ℕ) → kind_at S w.port ≡ Some kind.Port → HasGiven calls packets S → (o : ObjectRow) → object S w.port ≡ Some o → HasGiven calls (packets + 1) (fired S n w o)
given-fired S n w calls packets port given o here =
    let T : State = fired S n w o in
    let same : counters T ≡ counters S = counters-fired S n w o in
    let v = kind_at-some S w.port kind.Port port in
    let is : o.kind ≡ kind.Port = ap (λ (z : ObjectRow). z.kind) (some_one o v.0 (sym here ∙ v.1)) ∙ v.2 in
    let old : o.next ≤ packets = subst (λ z. NextBy calls packets z o.next) is (given.owners w.port o here) in
    record {
      koids = let k : next_koid T ≡ next_koid S = ap (λ (c : Counters). c.next_koid) same in let a : next_koid S ≤ 2 * calls + 1026 = given.koids in omega arith;
      waits = let k : (counters T).next_wait ≡ (counters S).next_wait = ap (λ (c : Counters). c.next_wait) same in let a : (counters S).next_wait ≤ calls = given.waits in omega arith;
      waiting =
          let a : count_row is_wait T ≤ count_row is_wait (with_packet S n w o) = count_row-put-out is_wait (with_packet S n w o) (key.Object w.port) (rows.Object (raised o)) refl in
          let b : count_row is_wait (with_packet S n w o) ≤ count_row is_wait (without_wait S n w o) = count_row-put-out is_wait (without_wait S n w o) (key.Packet w.port o.next) (rows.Packet (news S w)) refl in
          let c : count_row is_wait (without_wait S n w o) ≤ count_row is_wait S = count_row-take is_wait S (key.Wait n) in
          let d : count_row is_wait S ≤ calls = given.waiting in
          omega arith;
      owners = λ x q e. elim (x == w.port) as (λ b. cond b (Some (raised o)) (object S x) ≡ Some q → NextBy calls (packets + 1) q.kind q.next) [
        | true ↦ λ h. subst (λ (z : ObjectRow). NextBy calls (packets + 1) z.kind z.next) (some_one (raised o) q h) (subst (λ z. NextBy calls (packets + 1) z (o.next + 1)) (sym is) (omega arith))
        | false ↦ λ h. next-more calls packets calls (packets + 1) q.kind q.next (omega arith) (omega arith) (given.owners x q h)
      ] (sym (object-fired S n w o x) ∙ e);
    }

given-fire : (B S : State) (n : ℕ) (w : Wait) (calls packets : ℕ) → kind_at S w.port ≡ Some kind.Port → HasGiven calls packets S → HasGiven calls (packets + 1) (fire B S (n, w))
given-fire B S n w calls packets port given =
    fire-cases B (λ T. HasGiven calls (packets + 1) T) S n w port (given-more S calls packets (packets + 1) (omega arith) given) (given-fired S n w calls packets port given)

given-fold : (B : State) (ws : List (ℕ × Wait)) (S : State) (calls packets : ℕ) → IsSound S → ForPorts S ws → HasGiven calls packets S → HasGiven calls (packets + length ws) (fold (fire B) S ws)
given-fold B [] S calls packets sound ports given = given-more S calls packets (packets + 0) (omega arith) given
given-fold B ((n, w) ∷ ws) S calls packets sound ports given =
    let port : kind_at S w.port ≡ Some kind.Port = ports n w (inl refl) in
    given-more (fold (fire B) (fire B S (n, w)) ws) calls (packets + 1 + length ws) (packets + suc (length ws)) (omega arith)
    (given-fold B ws (fire B S (n, w)) calls (packets + 1) (sound-fire B S n w sound port) (ports-fire B S n w ws sound ports) (given-fire B S n w calls packets port given))

-- as many waits as rows of waits
counted-wait : (e : RowKey × Row) (es : List (RowKey × Row)) → length (cons_option (wait_at e) (filter_map wait_at es)) ≡ cond (is_wait e.0 e.1) 1 0 + length (filter_map wait_at es)
counted-wait (key.Wait n, rows.Wait w) es = omega arith
counted-wait _ es = omega arith

counted-waits : (es : List (RowKey × Row)) → length (filter_map wait_at es) ≡ count_by (λ e. is_wait e.0 e.1) es
counted-waits [] = refl
counted-waits (e ∷ es) = counted-wait e es ∙ ap (λ n. cond (is_wait e.0 e.1) 1 0 + n) (counted-waits es) ∙ sym (count-cons (λ e. is_wait e.0 e.1) e es)

waits-counted : (S : State) → length (waits S) ≡ count_row is_wait S
unfolding waits count_row
waits-counted S = counted-waits S.rows

given-settle : (B S : State) (calls packets : ℕ) → IsSound S → HasGiven calls packets S → HasGiven calls (packets + calls) (settle B S)
unfolding settle
given-settle B S calls packets sound given =
    let R : State = refresh S in
    let s : IsSound R = sound-framed S R sound (framed-refresh S sound) in
    let g : HasGiven calls packets R = given-refresh S calls packets given in
    let n : length (waits R) ≡ count_row is_wait R = waits-counted R in
    let few : count_row is_wait R ≤ calls = g.waiting in
    given-more (fold (fire B) R (waits R)) calls (packets + length (waits R)) (packets + calls) (omega arith) (given-fold B (waits R) R calls packets s (ports-sound R s) g)

-- one call more gives out no more than a call gives
pub spent-step : (S : State) (p : ℕ) (c : Call) (calls : ℕ) → calls < 1048576 → IsSound S → has_live_process S p ≡ true → IsCall c → HasSpent calls S → HasSpent (calls + 1) (step S p c).0
unfolding step
spent-step S p c calls few sound live is given =
    let T : State = (direct S p c).0 in
    let s : IsSound (collect T) = sound-collect T (sound-direct S p c sound live is) in
    let g : HasGiven (calls + 1) (2097152 * calls + 1) (collect T) = given-collect T (calls + 1) (2097152 * calls + 1) (given-called S T calls (2097152 * calls) given (called-direct S p c sound live)) in
    given-more (settle S (collect T)) (calls + 1) (2097152 * calls + 1 + (calls + 1)) (2097152 * (calls + 1)) (omega arith) (given-settle S (collect T) (calls + 1) (2097152 * calls + 1) s g)
