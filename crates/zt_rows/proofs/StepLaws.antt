-- What calls are made of: the end of a call, by which what is sound becomes consistent, and the checks, which
-- tell what its puts rest on. With them the direct changes of the calls on handles, events and signals are sound.
use Rattle.std.proofs.Common.{◌≡◌, ◌≤◌, ℕ, ◌+◌, Bool, true, false, inl, inr, refl, sym, ap, ◌∙◌, subst, arith}
use Rattle.std.specs.Prelude.{Option, None, Some, Result, Ok, Err, ok_or, is_some, ⊤, ◌==◌, if◌then◌else◌}
use Rattle.zt_bits.specs.declared.kinds.Kind.{Kind}
use Rattle.zt_bits.specs.declared.statuses.Status.{Status}
use Rattle.zt_bits.specs.declared.statuses.Status.TheVariants as status
use Rattle.zt_bits.specs.Tables.{asked_rights, settable_signals}
use Rattle.zt_rows.specs.declared.calls.Reply.{Reply}
use Rattle.zt_rows.specs.declared.rows.Held.{Held}
use Rattle.zt_rows.specs.declared.rows.ObjectRow.{ObjectRow}
use Rattle.zt_rows.specs.State.{State}
use Rattle.zt_rows.specs.Reads.{counters, object, entry, has_live_process, is_live_process}
use Rattle.zt_rows.specs.Tests.{exists, is_task as is_task_kind, is_endpoint, any_kind, has_all, raised}
use Rattle.zt_rows.specs.Support.{root_job}
use Rattle.zt_rows.specs.Collect.{collect}
use Rattle.zt_rows.specs.Settle.{settle}
use Rattle.zt_rows.specs.Handles.{◌>>=◌, check, handle_else, done, answered, as_caller, caller, take_out, install, whole, fresh, next_koid, make, make_pair}
use Rattle.zt_rows.specs.ObjectCalls.{create, create_pair, received, handle_close, handle_duplicate, handle_replace, may_set, object_signal, object_signal_peer}
use Rattle.zt_rows.specs.Consistent.{SoundObject, IsSound, IsConsistent}
use Rattle.zt_rows.proofs.RowLaws.{and_right}
use Rattle.zt_rows.proofs.ReadLaws.{some_one, exists-some}
use Rattle.zt_rows.proofs.SoundLaws.{has_live_process-some}
use Rattle.zt_rows.proofs.CollectLaws.{sound-collect, collect-supported, stays-supported}
use Rattle.zt_rows.proofs.SettleLaws.{consistent_settled}
use Rattle.zt_rows.proofs.GrownLaws.{sound-install, object-installed, exists-installed}
use Rattle.zt_rows.proofs.MakeLaws.{sound-create, object-made, others-made, sound-signals}
use Rattle.zt_rows.proofs.TakeLaws.{object-taken, sound-taken}
use Rattle.zt_rows.proofs.PairLaws.{near-there, far-there, others-paired, sound-make_pair}

-- ---- the end of a call

-- what is sound is consistent once it is collected and settled
pub consistent-completed : (S T : State) → IsSound T → IsConsistent (settle S (collect T))
consistent-completed S T sound = consistent_settled S (collect T) (sound-collect T sound) (λ x e. stays-supported (collect T) x (collect-supported T x) e)

-- ---- checks: a fact of the state that a call leaves, from each way through its checks

-- the facts that a found handle gives
pub record Found (S : State) (p h : ℕ) (wanted : Kind → Bool) (rights : ℕ) (held : Held) (o : ObjectRow) : Type 0 where
  pub entry_there : entry S p h ≡ Some held
  pub object_there : object S held.koid ≡ Some o
  pub of_kind : wanted o.kind ≡ true
  pub with_rights : has_all held.rights.0 rights ≡ true

pub after_check : (P : State → Type 0) (S : State) (test : Bool) (wrong : Status) (f : ⊤ → Result (State × Reply) Status) → P S → (test ≡ true → P (answered S (f tt)).0) → P (answered S (check test wrong >>= f)).0
after_check P S true wrong f base next = next refl
after_check P S false wrong f base next = base

pub after_some : {A : Type 0} (P : State → Type 0) (S : State) (o : Option A) (wrong : Status) (f : A → Result (State × Reply) Status) → P S → ((v : A) → o ≡ Some v → P (answered S (f v)).0) → P (answered S (ok_or o wrong >>= f)).0
after_some P S (Some v) wrong f base next = next v refl
after_some P S None wrong f base next = base

-- the two results that one after another give are given by the first and the rest
pub chained : {A B C : Type 0} (r : Result A Status) (f : A → Result B Status) (g : B → Result C Status) → ((r >>= f) >>= g) ≡ (r >>= (λ x. f x >>= g))
chained (Ok x) f g = refl
chained (Err e) f g = refl

pub after_result : {A : Type 0} (P : State → Type 0) (S : State) (r : Result A Status) (f : A → Result (State × Reply) Status) → P S → ((v : A) → r ≡ Ok v → P (answered S (f v)).0) → P (answered S (r >>= f)).0
after_result P S (Ok v) f base next = next v refl
after_result P S (Err wrong) f base next = base

-- P holds of the state after a handle's lookup and f, if it holds of T, which a failed call leaves, and after f on what is found
pub after_handle_of : (P : State → Type 0) (S T : State) (wrong : Status) (p h : ℕ) (wanted : Kind → Bool) (rights : ℕ) (f : Held × ObjectRow → Result (State × Reply) Status) → P T → ((held : Held) (o : ObjectRow) → Found S p h wanted rights held o → P (answered T (f (held, o))).0) → P (answered T (handle_else wrong S p h wanted rights >>= f)).0
after_handle_of P S T wrong p h wanted rights f base next = by_entry (entry S p h) refl
  where
    by_rights : (held : Held) (o : ObjectRow) → entry S p h ≡ Some held → object S held.koid ≡ Some o → wanted o.kind ≡ true → (b : Bool) → has_all held.rights.0 rights ≡ b → P (answered T ((check b status.AccessDenied >>= (λ _. Ok (held, o))) >>= f)).0
    by_rights held o e g k true r = next held o (record { entry_there = e; object_there = g; of_kind = k; with_rights = r })
    by_rights held o e g k false r = base

    by_kind : (held : Held) (o : ObjectRow) → entry S p h ≡ Some held → object S held.koid ≡ Some o → (b : Bool) → wanted o.kind ≡ b → P (answered T ((check b wrong >>= (λ _. check (has_all held.rights.0 rights) status.AccessDenied >>= (λ _. Ok (held, o)))) >>= f)).0
    by_kind held o e g true k = by_rights held o e g k (has_all held.rights.0 rights) refl
    by_kind held o e g false k = base

    by_object : (held : Held) → entry S p h ≡ Some held → (r : Option ObjectRow) → object S held.koid ≡ r → P (answered T ((ok_or r status.BadHandle >>= (λ o. check (wanted o.kind) wrong >>= (λ _. check (has_all held.rights.0 rights) status.AccessDenied >>= (λ _. Ok (held, o))))) >>= f)).0
    by_object held e (Some o) g = by_kind held o e g (wanted o.kind) refl
    by_object held e None g = base

    by_entry : (r : Option Held) → entry S p h ≡ r → P (answered T ((ok_or r status.BadHandle >>= (λ held. ok_or (object S held.koid) status.BadHandle >>= (λ o. check (wanted o.kind) wrong >>= (λ _. check (has_all held.rights.0 rights) status.AccessDenied >>= (λ _. Ok (held, o)))))) >>= f)).0
    by_entry (Some held) e = by_object held e (object S held.koid) refl
    by_entry None e = base

pub after_handle : (P : State → Type 0) (S : State) (wrong : Status) (p h : ℕ) (wanted : Kind → Bool) (rights : ℕ) (f : Held × ObjectRow → Result (State × Reply) Status) → P S → ((held : Held) (o : ObjectRow) → Found S p h wanted rights held o → P (answered S (f (held, o))).0) → P (answered S (handle_else wrong S p h wanted rights >>= f)).0
after_handle P S wrong p h wanted rights f base next = after_handle_of P S S wrong p h wanted rights f base next

-- the row of a process that runs is the caller's
pub caller-is : (S : State) (p : ℕ) → has_live_process S p ≡ true → (me : ObjectRow) × (object S p ≡ Some me) × (is_live_process me ≡ true) × (caller S p ≡ me)
caller-is S p e = let w = has_live_process-some S p e in (w.0, w.1, w.2, ap as_caller w.1)

-- ---- the calls

pub sound-create_call : (S : State) (p : ℕ) (k : Kind) → IsSound S → has_live_process S p ≡ true → is_task_kind k ≡ false → IsSound (create k S p).0
sound-create_call S p k sound live plain =
    let w = caller-is S p live in
    let T : State = make (counters S) (fresh k 0) S in
    let made : IsSound T = sound-create S sound k plain in
    let there : exists T (next_koid S) ≡ true = exists-some T (next_koid S) (fresh k 0) (object-made S sound (fresh k 0)) in
    subst (λ me. IsSound (install p me (whole (next_koid S) k) T)) (sym w.3)
    (sound-install T made p w.0 (others-made S sound (fresh k 0) p w.0 w.1) w.2 (whole (next_koid S) k) there)

pub sound-create_pair : (S : State) (p : ℕ) (k : Kind) → IsSound S → has_live_process S p ≡ true → is_endpoint k ≡ true → IsSound (create_pair k S p).0
sound-create_pair S p k sound live ends =
    let w = caller-is S p live in
    let T : State = make_pair (counters S) k S in
    let made : IsSound T = sound-make_pair S sound k ends in
    let here : object T p ≡ Some w.0 = others-paired S sound k ends p w.0 w.1 in
    let near : exists T (next_koid S) ≡ true = exists-some T (next_koid S) (fresh k (next_koid S + 1)) (near-there S sound k ends) in
    let far : exists T (next_koid S + 1) ≡ true = exists-some T (next_koid S + 1) (fresh k (next_koid S)) (far-there S sound k ends) in
    let U : State = install p w.0 (whole (next_koid S) k) T in
    let one : IsSound U = sound-install T made p w.0 here w.2 (whole (next_koid S) k) near in
    let still : exists U (next_koid S + 1) ≡ true = exists-installed T made p w.0 here w.2 (whole (next_koid S) k) near (next_koid S + 1) far in
    subst (λ me. IsSound (install p (raised me) (whole (next_koid S + 1) k) (install p me (whole (next_koid S) k) T))) (sym w.3)
    (sound-install U one p (raised w.0) (object-installed T made p w.0 here w.2 (whole (next_koid S) k) near) w.2 (whole (next_koid S + 1) k) still)

-- a process that runs may receive what another of its handles names, also when entries of it were taken out
sound-received : (rights : ℕ) (S T : State) (p : ℕ) (held : Held) → has_live_process S p ≡ true → IsSound T → ((x : ℕ) → object T x ≡ object S x) → exists S held.koid ≡ true → IsSound (received rights S p held T).0
sound-received rights S T p held live sound same names =
    let w = caller-is S p live in
    let there : exists T held.koid ≡ true = ap (λ r. is_some r) (same held.koid) ∙ names in
    subst (λ me. IsSound (install p me (record held { rights = record { 0 = rights } }) T)) (sym w.3)
    (sound-install T sound p w.0 (same p ∙ w.1) w.2 (record held { rights = record { 0 = rights } }) there)

pub sound-handle_close : (S : State) (p h : ℕ) → IsSound S → IsSound (handle_close S p h).0
sound-handle_close S p h sound =
    elim (h == 0) as (λ b. IsSound (answered S (if b then Ok (S, done) else (ok_or (entry S p h) status.BadHandle >>= (λ _. Ok (take_out S p h, done))))).0) [
      | true ↦ sound
      | false ↦ after_some IsSound S (entry S p h) status.BadHandle _ sound (λ held e. sound-taken p (λ g. g == h) S sound)
    ]

pub sound-handle_duplicate : (S : State) (p h mask : ℕ) → IsSound S → has_live_process S p ≡ true → IsSound (handle_duplicate S p h mask).0
sound-handle_duplicate S p h mask sound live =
    after_handle IsSound S status.WrongType p h any_kind 0x1 _ sound (λ held o found.
    after_some IsSound S (asked_rights mask held.rights.0) status.InvalidArgs _ sound (λ rights e.
    sound-received rights S S p held live sound (λ x. refl) (sound.of_entries p h held found.entry_there).names))

pub sound-handle_replace : (S : State) (p h mask : ℕ) → IsSound S → has_live_process S p ≡ true → IsSound (handle_replace S p h mask).0
sound-handle_replace S p h mask sound live =
    let rest : IsSound (take_out S p h) = sound-taken p (λ g. g == h) S sound in
    after_some IsSound S (entry S p h) status.BadHandle _ sound (λ held there.
    after_some IsSound (take_out S p h) (asked_rights mask held.rights.0) status.InvalidArgs _ rest (λ rights e.
    sound-received rights S (take_out S p h) p held live rest (object-taken p (λ g. g == h) S) (sound.of_entries p h held there).names))

-- the peer of an endpoint is of its kind
pub peer_kind : (S : State) → IsSound S → (x : ℕ) (o peer : ObjectRow) → object S x ≡ Some o → is_endpoint o.kind ≡ true → object S o.link ≡ Some peer → peer.kind ≡ o.kind
peer_kind S sound x o peer here ends there = elim ((sound.of_objects x o here).peers ends) [
  | inl e ↦
      let s : SoundObject S o.link peer = sound.of_objects o.link peer there in
      let low : root_job ≤ o.link = s.low in
      absurd (omega arith)
  | inr q ↦ ap (λ (z : ObjectRow). z.kind) (some_one peer q.peer (sym there ∙ q.there)) ∙ q.same_kind
]

pub sound-object_signal : (S : State) (p h clear set : ℕ) → IsSound S → IsSound (object_signal S p h clear set).0
sound-object_signal S p h clear set sound =
    after_handle IsSound S status.WrongType p h any_kind 0x1000 _ sound (λ held o found.
    after_check IsSound S (may_set o.kind clear set) status.InvalidArgs _ sound (λ settable.
    sound-signals S sound held.koid o found.object_there clear set (and_right (has_all (settable_signals o.kind) clear) _ settable)))

pub sound-object_signal_peer : (S : State) (p h clear set : ℕ) → IsSound S → IsSound (object_signal_peer S p h clear set).0
sound-object_signal_peer S p h clear set sound =
    after_handle IsSound S status.NotSupported p h is_endpoint 0x2000 _ sound (λ held o found.
    after_check IsSound S (may_set o.kind clear set) status.InvalidArgs _ sound (λ settable.
    after_some IsSound S (object S o.link) status.PeerClosed _ sound (λ peer there.
    let kinds : peer.kind ≡ o.kind = peer_kind S sound held.koid o peer found.object_there found.of_kind there in
    let may : has_all (settable_signals peer.kind) set ≡ true = ap (λ k. has_all (settable_signals k) set) kinds ∙ and_right (has_all (settable_signals o.kind) clear) _ settable in
    sound-signals S sound o.link peer there clear set may)))
