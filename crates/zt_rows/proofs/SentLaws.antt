-- What a write to a channel sends: the handles leave the caller's table in any case, and a message with what they
-- held comes to the end of the peer's queue. A sound state stays sound, and one number is given out.
use Rattle.std.proofs.Common.{◌≡◌, ◌≤◌, ℕ, suc, ◌+◌, true, List, [], ◌∷◌, length, refl, sym, ap, ◌∙◌, subst, arith}
use Rattle.std.specs.Prelude.{Option, None, Some, Result, Ok, Err, ok_or, is_some, not, ◌==◌}
use Rattle.std.specs.List.{AllByRecursion}
use Rattle.std.specs.Option.{option_map}
use Rattle.zt_bits.specs.declared.kinds.Kind.{Kind}
use Rattle.zt_bits.specs.declared.kinds.Kind.TheVariants as kind
use Rattle.zt_bits.specs.declared.statuses.Status.{Status}
use Rattle.zt_bits.specs.declared.statuses.Status.TheVariants as status
use Rattle.zt_rows.specs.declared.keys.RowKey.TheVariants as key
use Rattle.zt_rows.specs.declared.rows.Held.{Held}
use Rattle.zt_rows.specs.declared.rows.ObjectRow.{ObjectRow}
use Rattle.zt_rows.specs.declared.rows.Row.TheVariants as rows
use Rattle.zt_rows.specs.Contents.{MessageContent, IsWithinMessage}
use Rattle.zt_rows.specs.State.{State, put}
use Rattle.zt_rows.specs.Reads.{object, entry}
use Rattle.zt_rows.specs.Tests.{exists, is_channel, is_endpoint, has_all, among, next_at, object_next, raised}
use Rattle.zt_rows.specs.Handles.{◌>>=◌, check, take_out_all}
use Rattle.zt_rows.specs.ChannelCalls.{sent, push_message, channel_write}
use Rattle.zt_rows.specs.Consistent.{SoundMessage, IsSound}
use Rattle.zt_rows.proofs.ReadLaws.{some_one}
use Rattle.zt_rows.proofs.SoundLaws.{all_map}
use Rattle.zt_rows.proofs.TakeLaws.{object-taken, sound-taken}
use Rattle.zt_rows.proofs.StepLaws.{after_some, after_handle_of, after_result, peer_kind}
use Rattle.zt_rows.proofs.PutLaws.{put-apart, sound-raised, object-raised, exists-raised, sound-message}
use Rattle.zt_rows.proofs.GivenLaws.{growth, spends-spends, spends-take_out_all, spends-message, spends-raised, Called, spends-called}

-- ---- what is sent

pub bound : {A B : Type 0} (r : Result A Status) (f : A → Result B Status) (y : B) → (r >>= f) ≡ Ok y → (x : A) × (r ≡ Ok x) × (f x ≡ Ok y)
bound (Ok x) f y e = (x, refl, e)
bound (Err wrong) f y e = cc

pub found : {A : Type 0} (o : Option A) (wrong : Status) (x : A) → ok_or o wrong ≡ Ok x → o ≡ Some x
found (Some y) wrong x e = cc
found None wrong x e = cc

-- an entry of the process holds it
abbrev pub IsHeld : State → ℕ → Held → Type 0
IsHeld S p held = (g : ℕ) × (entry S p g ≡ Some held)

-- a message holds what entries of the caller held, as many as the values
pub sent-held : (S : State) (p h : ℕ) (earlier values : List ℕ) (all : List Held) → sent S p h earlier values ≡ Ok all → AllByRecursion (IsHeld S p) all × (length all ≡ length values)
sent-held S p h earlier [] all e = let none : [] ≡ all = cc in subst (λ l. AllByRecursion (IsHeld S p) l × (length l ≡ 0)) none (tt, refl)
sent-held S p h earlier (g ∷ later) all e =
    let one = bound (ok_or (entry S p g) status.BadHandle) _ all e in
    let two = bound (check (not (among earlier g)) status.BadHandle) _ all one.2 in
    let three = bound (check (not (g == h)) status.NotSupported) _ all two.2 in
    let four = bound (check (has_all one.0.rights.0 0x2) status.AccessDenied) _ all three.2 in
    let five = bound (sent S p h (g ∷ earlier) later) (λ others. Ok (one.0 ∷ others)) all four.2 in
    let here : entry S p g ≡ Some one.0 = found (entry S p g) status.BadHandle one.0 one.1 in
    let rest = sent-held S p h (g ∷ earlier) later five.0 five.1 in
    let is : (one.0 ∷ five.0) ≡ all = cc in
    subst (λ l. AllByRecursion (IsHeld S p) l × (length l ≡ length (g ∷ later))) is (((g, here), rest.0), ap (λ n. suc n) rest.1)

-- ---- a message at the end of a queue

-- the endpoint gives out the number before the message is put
pub pushed : (S : State) (x : ℕ) (o : ObjectRow) (m : MessageContent) → push_message x o m S ≡ put (put S (key.Object x) (Some (rows.Object (raised o)))) (key.Msg x o.next) (option_map rows.Msg (Some m))
pushed S x o m = put-apart S (key.Msg x o.next) (key.Object x) (Some (rows.Msg m)) (Some (rows.Object (raised o))) refl

pub sound-push_message : (S : State) → IsSound S → (x : ℕ) (o : ObjectRow) → object S x ≡ Some o → o.kind ≡ kind.Channel → (m : MessageContent) → AllByRecursion (λ held. exists S held.koid ≡ true) m.handles → IsWithinMessage m.bytes m.handles → IsSound (push_message x o m S)
sound-push_message S sound x o here channel m names within =
    let T : State = put S (key.Object x) (Some (rows.Object (raised o))) in
    let made : IsSound T = sound-raised S sound x o here in
    let there : object T x ≡ Some (raised o) = object-raised S x o in
    let next : next_at T x ≡ o.next + 1 = ap object_next there in
    let one : SoundMessage T x o.next m = record {
      owner = ap (option_map (λ (q : ObjectRow). q.kind)) there ∙ ap Some channel;
      number = omega arith;
      names = all_map m.handles (λ held l e. exists-raised S x o held.koid e) names;
      within = within;
    } in
    subst IsSound (sym (pushed S x o m)) (sound-message T x o.next (Some m) made (λ k e. subst (λ z. SoundMessage T x o.next z) (some_one m k e) one))

-- ---- the call

pub is_channel-is : (k : Kind) → is_channel k ≡ true → k ≡ kind.Channel
is_channel-is kind.Channel e = refl
is_channel-is _ e = cc

channel-endpoint : (k : Kind) → is_channel k ≡ true → is_endpoint k ≡ true
channel-endpoint kind.Channel e = refl
channel-endpoint _ e = cc

-- each way through the checks of a write: the entries taken out, or the message with them
write-cases : (P : State → Type 0) (S : State) (p h : ℕ) (bytes values : List ℕ) → IsSound S → P (take_out_all S p (among values)) → ((x : ℕ) (peer : ObjectRow) (all : List Held) → object S x ≡ Some peer → peer.kind ≡ kind.Channel → AllByRecursion (IsHeld S p) all → length all ≡ length values → P (push_message x peer (record { bytes = bytes; handles = all }) (take_out_all S p (among values)))) → P (channel_write S p h bytes values).0
write-cases P S p h bytes values sound base next =
    let T : State = take_out_all S p (among values) in
    after_handle_of P S T status.WrongType p h is_channel 0x8 _ base (λ held o found.
    after_result P T (sent S p h [] values) _ base (λ all e.
    after_some P T (object S o.link) status.PeerClosed _ base (λ peer there.
    let same : peer.kind ≡ o.kind = peer_kind S sound held.koid o peer found.object_there (channel-endpoint o.kind found.of_kind) there in
    let w = sent-held S p h [] values all e in
    next o.link peer all there (same ∙ is_channel-is o.kind found.of_kind) w.0 w.1)))

pub sound-channel_write : (S : State) (p h : ℕ) (bytes values : List ℕ) → IsSound S → IsWithinMessage bytes values → IsSound (channel_write S p h bytes values).0
sound-channel_write S p h bytes values sound within =
    let T : State = take_out_all S p (among values) in
    let left : IsSound T = sound-taken p (among values) S sound in
    write-cases IsSound S p h bytes values sound left (λ x peer all there channel held same.
    let few : length values ≤ 64 = within.1 in
    sound-push_message T left x peer (object-taken p (among values) S x ∙ there) channel (record { bytes = bytes; handles = all })
    (all_map all (λ one l w. ap (λ r. is_some r) (object-taken p (among values) S one.koid) ∙ (sound.of_entries p w.0 one w.1).names) held)
    (within.0, omega arith))

pub called-channel_write : (S : State) (p h : ℕ) (bytes values : List ℕ) → IsSound S → Called S (channel_write S p h bytes values).0
called-channel_write S p h bytes values sound =
    let T : State = take_out_all S p (among values) in
    write-cases (Called S) S p h bytes values sound (spends-called 0 0 0 S T (omega arith) (omega arith) (omega arith) (spends-take_out_all S p (among values))) (λ x peer all there channel held same.
    let U : State = put T (key.Object x) (Some (rows.Object (raised peer))) in
    let V : State = put U (key.Msg x peer.next) (option_map rows.Msg (Some (record { bytes = bytes; handles = all }))) in
    let here : object T x ≡ Some peer = object-taken p (among values) S x ∙ there in
    subst (Called S) (sym (pushed T x peer (record { bytes = bytes; handles = all })))
    (spends-called 0 0 1 S V (omega arith) (omega arith) (omega arith)
    (spends-spends 0 0 1 0 0 0 S U V
    (spends-spends 0 0 0 0 0 1 S T U (spends-take_out_all S p (among values)) (spends-raised T x peer here (ap (growth 0 1) channel)))
    (spends-message U x peer.next (Some (record { bytes = bytes; handles = all }))))))
