-- What a read of a channel gives: the first message leaves its queue, and the caller receives its handles. A
-- sound state stays sound, and no more handles are given out than a message has.
use Rattle.std.proofs.Common.{◌≡◌, ◌≤◌, ℕ, suc, ◌+◌, Bool, true, false, List, [], ◌∷◌, length, inl, refl, sym, ap, ◌∙◌, subst, arith}
use Rattle.std.specs.Prelude.{None, Some, Ok, is_some, ◌==◌, if◌then◌else◌}
use Rattle.std.specs.List.{AllByRecursion, filter_map}
use Rattle.std.proofs.lemmas.Bool.{eqb-true}
use Rattle.zt_bits.specs.declared.statuses.Status.TheVariants as status
use Rattle.zt_rows.specs.declared.keys.RowKey.{RowKey}
use Rattle.zt_rows.specs.declared.keys.RowKey.TheVariants as key
use Rattle.zt_rows.specs.declared.rows.Held.{Held}
use Rattle.zt_rows.specs.declared.rows.ObjectRow.{ObjectRow}
use Rattle.zt_rows.specs.declared.rows.Row.{Row}
use Rattle.zt_rows.specs.declared.rows.Row.TheVariants as rows
use Rattle.zt_rows.specs.Contents.{MessageContent}
use Rattle.zt_rows.specs.State.{State, row, put}
use Rattle.zt_rows.specs.Reads.{as_message, object, message, queued, queue, is_live_process, has_live_process}
use Rattle.zt_rows.specs.Tests.{exists, is_channel, first, raised}
use Rattle.zt_rows.specs.Handles.{answered, caller, install, install_all}
use Rattle.zt_rows.specs.ChannelCalls.{has_room_for, take_message, refuse_message, channel_read}
use Rattle.zt_rows.specs.Consistent.{SoundMessage, IsSound}
use Rattle.zt_rows.proofs.RowLaws.{In, in-filter_map, in-row}
use Rattle.zt_rows.proofs.SoundLaws.{all_map}
use Rattle.zt_rows.proofs.GrownLaws.{sound-install, object-installed, exists-installed}
use Rattle.zt_rows.proofs.StepLaws.{after_some, after_handle, caller-is}
use Rattle.zt_rows.proofs.PutLaws.{object-message, sound-message}
use Rattle.zt_rows.proofs.GivenLaws.{Spends, spends-itself, spends-more, spends-spends, object-received, spends-install, spends-message, Called, spends-called, called-nothing}

-- ---- the first message

pub first-in : {A : Type 0} (xs : List A) (x : A) → first xs ≡ Some x → In x xs
first-in [] x e = cc
first-in (y ∷ ys) x e = inl (cc)

if_same : {A : Type 0} (b : Bool) (v w : A) → (if b then Some v else None) ≡ Some w → (b ≡ true) × (v ≡ w)
if_same true v w e = (refl, cc)
if_same false v w e = cc

queued-at : (S : State) (e n : ℕ) (m : MessageContent) (k : RowKey) (r : Row) → queued e (k, r) ≡ Some (n, m) → row S k ≡ Some r → message S e n ≡ Some m
queued-at S e n m (key.Msg f l) (rows.Msg c) h there =
    let w = if_same (e == f) (l, c) (n, m) h in
    let owner : e ≡ f = eqb-true e f w.0 in
    let number : l ≡ n = ap (λ (z : ℕ × MessageContent). z.0) w.1 in
    let content : c ≡ m = ap (λ (z : ℕ × MessageContent). z.1) w.1 in
    ap (λ z. message S z n) owner ∙ ap (message S f) (sym number) ∙ ap as_message there ∙ ap Some content
queued-at S e n m _ _ h there = cc

-- the first of a queue is a message of the endpoint
pub first-message : (S : State) (e n : ℕ) (m : MessageContent) → first (queue S e) ≡ Some (n, m) → message S e n ≡ Some m
unfolding queue
first-message S e n m h =
    let w = in-filter_map (queued e) (n, m) S.rows (first-in (filter_map (queued e) S.rows) (n, m) h) in
    queued-at S e n m w.0.0 w.0.1 w.2 (in-row S w.0.0 w.0.1 w.1)

-- ---- handles received in order

pub sound-install_all : (all : List Held) (S : State) → IsSound S → (p : ℕ) (me : ObjectRow) → object S p ≡ Some me → is_live_process me ≡ true → AllByRecursion (λ held. exists S held.koid ≡ true) all → IsSound (install_all p me all S)
sound-install_all [] S sound p me here live names = sound
sound-install_all (held ∷ rest) S sound p me here live names =
    sound-install_all rest (install p me held S) (sound-install S sound p me here live held names.0) p (raised me) (object-installed S sound p me here live held names.0) live
    (all_map rest (λ other l e. exists-installed S sound p me here live held names.0 other.koid e) names.1)

pub spends-install_all : (all : List Held) (S : State) (p : ℕ) (me : ObjectRow) → object S p ≡ Some me → is_live_process me ≡ true → Spends 0 (length all) 0 S (install_all p me all S)
spends-install_all [] S p me here live = spends-itself S
spends-install_all (held ∷ rest) S p me here live =
    let T : State = install p me held S in
    let U : State = install_all p (raised me) rest T in
    spends-more 0 (1 + length rest) 0 0 (suc (length rest)) 0 S U (omega arith) (omega arith) (omega arith)
    (spends-spends 0 1 0 0 (length rest) 0 S T U (spends-install S p me held here live) (spends-install_all rest T p (raised me) (object-received S p me held) live))

-- ---- the call

-- each way through the checks of a read: nothing, the message gone, or gone with its handles received
read-cases : (P : State → Type 0) (S : State) (p h bytes handles : ℕ) (discard : Bool) → P S → ((x n : ℕ) (m : MessageContent) → message S x n ≡ Some m → P (put S (key.Msg x n) None) × P (install_all p (caller S p) m.handles (put S (key.Msg x n) None))) → P (channel_read S p h bytes handles discard).0
read-cases P S p h bytes handles discard base next =
    after_handle P S status.WrongType p h is_channel 0x4 _ base (λ held o found.
    after_some P S (first (queue S held.koid)) (if o.link == 0 then status.PeerClosed else status.ShouldWait) _ base (λ w e.
    let both = next held.koid w.0 w.1 (first-message S held.koid w.0 w.1 e) in
    elim (has_room_for bytes handles w.1) as (λ b. P (answered S (Ok (if b then take_message S p held.koid w.0 w.1 else refuse_message S held.koid w.0 w.1 discard))).0) [
      | true ↦ both.1
      | false ↦ elim discard as (λ b. P (answered S (Ok (refuse_message S held.koid w.0 w.1 b))).0) [
        | true ↦ both.0
        | false ↦ base
      ]
    ]))

pub sound-channel_read : (S : State) (p h bytes handles : ℕ) (discard : Bool) → IsSound S → has_live_process S p ≡ true → IsSound (channel_read S p h bytes handles discard).0
sound-channel_read S p h bytes handles discard sound live =
    let w = caller-is S p live in
    read-cases IsSound S p h bytes handles discard sound (λ x n m there.
    let T : State = put S (key.Msg x n) None in
    let s : SoundMessage S x n m = sound.of_messages x n m there in
    let gone : IsSound T = sound-message S x n None sound (λ k e. cc) in
    let names : AllByRecursion (λ held. exists T held.koid ≡ true) m.handles = all_map m.handles (λ held l e. ap (λ r. is_some r) (object-message S x n None held.koid) ∙ e) s.names in
    (gone, subst (λ me. IsSound (install_all p me m.handles T)) (sym w.3) (sound-install_all m.handles T gone p w.0 (object-message S x n None p ∙ w.1) w.2 names)))

pub called-channel_read : (S : State) (p h bytes handles : ℕ) (discard : Bool) → IsSound S → has_live_process S p ≡ true → Called S (channel_read S p h bytes handles discard).0
called-channel_read S p h bytes handles discard sound live =
    let w = caller-is S p live in
    read-cases (Called S) S p h bytes handles discard (called-nothing S) (λ x n m there.
    let T : State = put S (key.Msg x n) None in
    let s : SoundMessage S x n m = sound.of_messages x n m there in
    let few : length m.handles ≤ 64 = s.within.1 in
    let gone : Spends 0 0 0 S T = spends-message S x n None in
    let all : Spends 0 (length m.handles) 0 T (install_all p w.0 m.handles T) = spends-install_all m.handles T p w.0 (object-message S x n None p ∙ w.1) w.2 in (
      spends-called 0 0 0 S T (omega arith) (omega arith) (omega arith) gone,
      subst (λ me. Called S (install_all p me m.handles T)) (sym w.3)
          (spends-called 0 (0 + length m.handles) 0 S (install_all p w.0 m.handles T) (omega arith) (omega arith) (omega arith)
          (spends-spends 0 0 0 0 (length m.handles) 0 S T (install_all p w.0 m.handles T) gone all)),
    ))
