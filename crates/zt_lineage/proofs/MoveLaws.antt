-- What a call takes from a place and puts into another one is followed: the way on from where it was leads to where it is.
use Rattle.std.proofs.Common.{◌≡◌, ℕ, zero, suc, ◌+◌, Bool, true, false, cond, not, ◌&&◌, ◌||◌, List, [], ◌∷◌, length, inl, inr, refl, sym, ap, ◌∙◌, subst, arith}
use Rattle.std.specs.Prelude.{◌⊎◌, ⊤, Option, None, Some, Result, Ok, Err, ok_or, is_some, slice_get, position, if◌then◌else◌, ◌==◌, nat_lt}
use Rattle.std.specs.Option.{option_map}
use Rattle.std.specs.List.{position_or_len}
use Rattle.std.proofs.lemmas.Bool.{eqb-true, eq-eqb, lt-ltb}
use Rattle.std.proofs.lemmas.Option.{slice_get_within}
use Rattle.zt_rows.proofs.RowLaws.{and_left, and_right}
use Rattle.zt_bits.specs.declared.kinds.Kind.{Kind}
use Rattle.zt_bits.specs.declared.kinds.Kind.TheVariants as kind
use Rattle.zt_bits.specs.declared.statuses.Status.{Status}
use Rattle.zt_bits.specs.declared.statuses.Status.TheVariants as status
use Rattle.zt_bits.specs.Tables.{asked_rights}
use Rattle.zt_rows.specs.declared.calls.Call.{Call}
use Rattle.zt_rows.specs.declared.calls.Call.TheVariants as call
use Rattle.zt_rows.specs.declared.calls.Reply.{Reply}
use Rattle.zt_rows.specs.declared.calls.Reply.TheVariants as reply
use Rattle.zt_rows.specs.declared.keys.RowKey.TheVariants as key
use Rattle.zt_rows.specs.declared.rows.Counters.{Counters}
use Rattle.zt_rows.specs.declared.rows.Held.{Held}
use Rattle.zt_rows.specs.declared.rows.ObjectRow.{ObjectRow}
use Rattle.zt_rows.specs.declared.rows.Row.{Row}
use Rattle.zt_rows.specs.declared.rows.Row.TheVariants as rows
use Rattle.zt_rows.specs.Contents.{MessageContent}
use Rattle.zt_rows.specs.State.{State, row, put}
use Rattle.zt_rows.specs.Reads.{as_entry, as_message, counters, object, entry, message, queue, is_job, is_live, has_live_process}
use Rattle.zt_rows.specs.Tests.{any_kind, is_channel, among, first, has_all, raised, link_at, next_at, object_link, object_next}
use Rattle.zt_rows.specs.Collect.{collect}
use Rattle.zt_rows.specs.Settle.{settle}
use Rattle.zt_rows.specs.Handles.{◌>>=◌, check, handle, answered, done, caller, take_out, take_out_all, value_of, values_from, install, install_all, whole, next_koid, make}
use Rattle.zt_rows.specs.ObjectCalls.{handle_duplicate, handle_replace}
use Rattle.zt_rows.specs.ChannelCalls.{sent, channel_write, has_room_for, take_message, refuse_message, channel_read}
use Rattle.zt_rows.specs.JobCalls.{argument, give_up, child, hand_over, spawn}
use Rattle.zt_rows.specs.Step.{IsCall, direct, step}
use Rattle.zt_rows.specs.Consistent.{IsSound, IsConsistent}
use Rattle.zt_rows.proofs.StateLaws.{row-put}
use Rattle.zt_rows.proofs.ReadLaws.{some_one, only_if, chosen, entry-without, message-without}
use Rattle.zt_rows.proofs.TakeLaws.{entry-taken, message-taken}
use Rattle.zt_rows.proofs.SentLaws.{bound, found}
use Rattle.zt_rows.proofs.CollectLaws.{sound-collect}
use Rattle.zt_rows.proofs.WithoutLaws.{collect-set}
use Rattle.zt_rows.proofs.FramedLaws.{Framed}
use Rattle.zt_rows.proofs.SettleLaws.{framed-settle}
use Rattle.zt_rows.proofs.CallLaws.{sound-direct}
use Rattle.zt_lineage.specs.declared.places.Place.{Place}
use Rattle.zt_lineage.specs.declared.places.Place.TheVariants as place
use Rattle.zt_lineage.specs.Places.{handle_in, held_at}
use Rattle.zt_lineage.specs.ProofsOnly.PlaceOrder.{is_same-self, is_same-equal}
use Rattle.zt_lineage.specs.declared.origins.Origin.{Origin}
use Rattle.zt_lineage.specs.declared.origins.Origin.TheVariants.{Stayed, Made, From}
use Rattle.zt_lineage.specs.Origins.{from_value, from_first, from_queue, received_as, filled_by, origin}
use Rattle.zt_lineage.specs.Lives.{message_place, sent_to, taken_to, successor, is_from, if_from}
use Rattle.zt_lineage.proofs.OriginLaws.{sent-at, received-at, spawned-made}

-- ---- small facts

either_way : {A B C : Type 0} → A ⊎ B → (A → C) → (B → C) → C
either_way (inl a) f g = f a
either_way (inr b) f g = g b

missing : {A : Type 0} (r : Option A) (x : A) → r ≡ None → r ≡ Some x → ⊥
missing r x none some = let both : None ≡ Some x = sym none ∙ some in cc

ok_one : {A : Type 0} (x y : A) → ◌≡◌ {A = Result A Status} (Ok x) (Ok y) → x ≡ y
ok_one x y e = cc

from_one : (a b : Place) → From a ≡ From b → a ≡ b
from_one a b e = cc

made-from : (at : Place) → Made ≡ From at → ⊥
made-from at e = cc

-- a place has an origin in another one only where the call fills it
only_filled : (r : Option Held) (o : Origin) (at : Place) → (if is_some r then Stayed else o) ≡ From at → (r ≡ None) × (o ≡ From at)
only_filled (Some held) o at e = cc
only_filled None o at e = (refl, e)

-- ---- the places that a change fills

held-object : (T : State) (y : ℕ) (r : Option Row) (at : Place) → held_at (put T (key.Object y) r) at ≡ held_at T at
held-object T y r (place.Entry q h) = ap as_entry (row-put T (key.Object y) r (key.Entry q h))
held-object T y r (place.Message e n i) = ap (λ s. handle_in (as_message s) i) (row-put T (key.Object y) r (key.Msg e n))

held-counters : (T : State) (r : Option Row) (at : Place) → held_at (put T key.Counters r) at ≡ held_at T at
held-counters T r (place.Entry q h) = ap as_entry (row-put T key.Counters r (key.Entry q h))
held-counters T r (place.Message e n i) = ap (λ s. handle_in (as_message s) i) (row-put T key.Counters r (key.Msg e n))

held-make : (c : Counters) (o : ObjectRow) (T : State) (at : Place) → held_at (make c o T) at ≡ held_at T at
held-make c o T at =
    let U : State = put T (key.Object c.next_koid) (Some (rows.Object o)) in
    held-counters U (Some (rows.Counters (record c { next_koid = c.next_koid + 1 }))) at ∙ held-object T c.next_koid (Some (rows.Object o)) at

held-entry : (T : State) (q h : ℕ) (new : Held) (at : Place) (held : Held) → held_at (put T (key.Entry q h) (Some (rows.Entry new))) at ≡ Some held → (place.Entry q h ≡ at) ⊎ (held_at T at ≡ Some held)
held-entry T q h new (place.Entry r g) held e =
    elim ((r == q) && (g == h)) as (λ b. ((r == q) && (g == h)) ≡ b → cond b (Some new) (entry T r g) ≡ Some held → (place.Entry q h ≡ place.Entry r g) ⊎ (entry T r g ≡ Some held)) [
      | true ↦ λ t f. inl (sym (is_same-equal (place.Entry r g) (place.Entry q h) t))
      | false ↦ λ t f. inr f
    ] refl (sym (ap as_entry (row-put T (key.Entry q h) (Some (rows.Entry new)) (key.Entry r g)) ∙ chosen as_entry ((r == q) && (g == h)) (Some (rows.Entry new)) (row T (key.Entry r g))) ∙ e)
held-entry T q h new (place.Message e n i) held there =
    inr (sym (ap (λ s. handle_in (as_message s) i) (row-put T (key.Entry q h) (Some (rows.Entry new)) (key.Msg e n))) ∙ there)

held-message : (T : State) (e n : ℕ) (m : MessageContent) (at : Place) (held : Held) → held_at (put T (key.Msg e n) (Some (rows.Msg m))) at ≡ Some held → ((i : ℕ) × (place.Message e n i ≡ at) × (slice_get m.handles i ≡ Some held)) ⊎ (held_at T at ≡ Some held)
held-message T e n m (place.Entry q h) held there =
    inr (sym (ap as_entry (row-put T (key.Msg e n) (Some (rows.Msg m)) (key.Entry q h))) ∙ there)
held-message T e n m (place.Message f l i) held there =
    elim ((f == e) && (l == n)) as (λ b. ((f == e) && (l == n)) ≡ b → handle_in (cond b (Some m) (message T f l)) i ≡ Some held → ((j : ℕ) × (place.Message e n j ≡ place.Message f l i) × (slice_get m.handles j ≡ Some held)) ⊎ (handle_in (message T f l) i ≡ Some held)) [
      | true ↦ λ t g.
          let owner : e ≡ f = sym (eqb-true f e (and_left (f == e) _ t)) in
          let number : n ≡ l = sym (eqb-true l n (and_right (f == e) _ t)) in
          let same : place.Message e n i ≡ place.Message f l i = (λ k. place.Message (owner k) (number k) i) in
          inl (i, same, g)
      | false ↦ λ t g. inr g
    ] refl (sym (ap (λ s. handle_in s i) (ap as_message (row-put T (key.Msg e n) (Some (rows.Msg m)) (key.Msg f l)) ∙ chosen as_message ((f == e) && (l == n)) (Some (rows.Msg m)) (row T (key.Msg f l)))) ∙ there)

-- a message that may have gone fills no place
in_none : (b : Bool) (r : Option MessageContent) (i : ℕ) (held : Held) → handle_in (cond b None r) i ≡ Some held → handle_in r i ≡ Some held
in_none true r i held e = cc
in_none false r i held e = e

held-gone : (T : State) (e n : ℕ) (at : Place) (held : Held) → held_at (put T (key.Msg e n) None) at ≡ Some held → held_at T at ≡ Some held
held-gone T e n (place.Entry q h) held there = sym (ap as_entry (row-put T (key.Msg e n) None (key.Entry q h))) ∙ there
held-gone T e n (place.Message f l i) held there =
    in_none ((f == e) && (l == n)) (message T f l) i held
    (sym (ap (λ s. handle_in s i) (ap as_message (row-put T (key.Msg e n) None (key.Msg f l)) ∙ chosen as_message ((f == e) && (l == n)) None (row T (key.Msg f l)))) ∙ there)

held-taken : (p : ℕ) (values : ℕ → Bool) (T : State) (at : Place) (held : Held) → held_at (take_out_all T p values) at ≡ Some held → held_at T at ≡ Some held
held-taken p values T (place.Entry q h) held e = (only_if ((q == p) && values h) (entry T q h) held (sym (entry-taken p values T q h) ∙ e)).1
held-taken p values T (place.Message e n i) held there = sym (ap (λ r. handle_in r i) (message-taken p values T e n)) ∙ there

held-install : (q : ℕ) (me : ObjectRow) (new : Held) (T : State) (at : Place) (held : Held) → held_at (install q me new T) at ≡ Some held → (place.Entry q (value_of me.next) ≡ at) ⊎ (held_at T at ≡ Some held)
held-install q me new T at held e =
    let U : State = put T (key.Entry q (value_of me.next)) (Some (rows.Entry new)) in
    held-entry T q (value_of me.next) new at held (sym (held-object U q (Some (rows.Object (raised me))) at) ∙ e)

-- the place is one of those by which q receives these, from its n-th value on
abbrev Receives : ℕ → ℕ → List Held → Place → Type 0
Receives q n all at = (i : ℕ) × (place.Entry q (value_of (n + i)) ≡ at) × (slice_get (values_from n all) i ≡ Some (value_of (n + i)))

receives-first : (q n : ℕ) (new : Held) (rest : List Held) (at : Place) → place.Entry q (value_of n) ≡ at → Receives q n (new ∷ rest) at
receives-first q n new rest at same =
    let here : n ≡ n + 0 = omega arith in
    (0, subst (λ k. place.Entry q (value_of k) ≡ at) here same, ap (λ k. Some (value_of k)) here)

receives-later : (q n : ℕ) (new : Held) (rest : List Held) (at : Place) → Receives q (n + 1) rest at → Receives q n (new ∷ rest) at
receives-later q n new rest at (i, same, there) =
    let next : n + 1 + i ≡ n + suc i = omega arith in
    (suc i, subst (λ k. place.Entry q (value_of k) ≡ at) next same, there ∙ ap (λ k. Some (value_of k)) next)

held-install_all : (all : List Held) (q : ℕ) (me : ObjectRow) (T : State) (at : Place) (held : Held) → held_at (install_all q me all T) at ≡ Some held → Receives q me.next all at ⊎ (held_at T at ≡ Some held)
held-install_all [] q me T at held e = inr e
held-install_all (new ∷ rest) q me T at held e =
    either_way (held-install_all rest q (raised me) (install q me new T) at held e)
    (λ later. inl (receives-later q me.next new rest at later))
    (λ f. either_way (held-install q me new T at held f) (λ same. inl (receives-first q me.next new rest at same)) (λ g. inr g))

held-hand_over : (given : Option Held) (x : ℕ) (T : State) (at : Place) (held : Held) → held_at (hand_over given x T) at ≡ Some held → (place.Entry x (value_of 0) ≡ at) ⊎ (held_at T at ≡ Some held)
held-hand_over (Some new) x T at held e = held-entry T x (value_of 0) new at held e
held-hand_over None x T at held e = inr e

held-give_up : (given : Option Held) (p arg : ℕ) (T : State) (at : Place) (held : Held) → held_at (give_up given p arg T) at ≡ Some held → held_at T at ≡ Some held
held-give_up (Some new) p arg T at held e = held-taken p (λ g. g == arg) T at held e
held-give_up None p arg T at held e = e

-- an entry stays while its process receives another handle
install-kept : (q : ℕ) (me : ObjectRow) (new : Held) (T : State) (h : ℕ) (old : Held) → entry T q h ≡ Some old → entry (install q me new T) q h ≡ None → ⊥
install-kept q me new T h old there none =
    let v : ℕ = value_of me.next in
    let U : State = put T (key.Entry q v) (Some (rows.Entry new)) in
    let b : Bool = (q == q) && (h == v) in
    let is : entry (install q me new T) q h ≡ cond b (Some new) (entry T q h) =
    ap as_entry (row-put U (key.Object q) (Some (rows.Object (raised me))) (key.Entry q h))
    ∙ ap as_entry (row-put T (key.Entry q v) (Some (rows.Entry new)) (key.Entry q h))
    ∙ chosen as_entry b (Some (rows.Entry new)) (row T (key.Entry q h)) in
    elim ((q == q) && (h == v)) as (λ c. cond c (Some new) (entry T q h) ≡ None → ⊥) [
      | true ↦ λ f. missing (Some new) new f refl
      | false ↦ λ f. missing (entry T q h) old f there
    ] (sym is ∙ none)

-- what follows the direct change fills no place, and leaves the entries
module _ (S D : State) (sound : IsSound D) where
  framed : Framed (collect D) (settle S (collect D))
  framed = framed-settle S (collect D) (sound-collect D sound)

  entry-completed : (q h : ℕ) → entry (settle S (collect D)) q h ≡ entry D q h
  entry-completed q h =
      let w = collect-set D in
      framed.of_entries q h ∙ (ap (λ T. entry T q h) w.1 ∙ entry-without w.0 D q h)

  held-completed : (at : Place) (held : Held) → held_at (settle S (collect D)) at ≡ Some held → held_at D at ≡ Some held
  held-completed (place.Entry q h) held e = sym (entry-completed q h) ∙ e
  held-completed (place.Message e n i) held there =
      let w = collect-set D in
      let is : message (settle S (collect D)) e n ≡ cond (w.0 e) None (message D e n) = framed.of_messages e n ∙ (ap (λ T. message T e n) w.1 ∙ message-without w.0 D e n) in
      in_none (w.0 e) (message D e n) i held (sym (ap (λ r. handle_in r i) is) ∙ there)

-- ---- the place of a value that is sent

passes : (test : Bool) (wrong : Status) (x : ⊤) → check test wrong ≡ Ok x → test ≡ true
passes true wrong x e = refl
passes false wrong x e = cc

not_true : (b : Bool) → not b ≡ true → b ≡ false
not_true true e = cc
not_true false e = refl

neither_left : (a b : Bool) → (a || b) ≡ false → a ≡ false
neither_left true b e = cc
neither_left false b e = refl

neither_right : (a b : Bool) → (a || b) ≡ false → b ≡ false
neither_right true b e = cc
neither_right false b e = e

apart-here : (earlier : List ℕ) (v : ℕ) (later : List ℕ) (g : ℕ) → among earlier v ≡ false → ((k : ℕ) → slice_get later k ≡ Some g → among (v ∷ earlier) g ≡ false) → (i : ℕ) → slice_get (v ∷ later) i ≡ Some g → among earlier g ≡ false
apart-here earlier v later g here others zero at = subst (λ z. among earlier z ≡ false) (some_one v g at) here
apart-here earlier v later g here others (suc k) at = neither_right (v == g) (among earlier g) (others k at)

-- no value is sent that stands in the list before
sent-apart : (S : State) (p h : ℕ) (earlier values : List ℕ) (all : List Held) → sent S p h earlier values ≡ Ok all → (g i : ℕ) → slice_get values i ≡ Some g → among earlier g ≡ false
sent-apart S p h earlier [] all e g i at = cc
sent-apart S p h earlier (v ∷ later) all e g i at =
    let one = bound (ok_or (entry S p v) status.BadHandle) _ all e in
    let two = bound (check (not (among earlier v)) status.BadHandle) _ all one.2 in
    let three = bound (check (not (v == h)) status.NotSupported) _ all two.2 in
    let four = bound (check (has_all one.0.rights.0 0x2) status.AccessDenied) _ all three.2 in
    let five = bound (sent S p h (v ∷ earlier) later) (λ others. Ok (one.0 ∷ others)) all four.2 in
    apart-here earlier v later g (not_true (among earlier v) (passes (not (among earlier v)) status.BadHandle two.0 two.1)) (sent-apart S p h (v ∷ earlier) later five.0 five.1 g) i at

first-here : (v : ℕ) (later : List ℕ) (g : ℕ) → ((k : ℕ) → slice_get later k ≡ Some g → (position_or_len (λ n. n == g) later ≡ k) × ((v == g) ≡ false)) → (i : ℕ) → slice_get (v ∷ later) i ≡ Some g → position_or_len (λ n. n == g) (v ∷ later) ≡ i
first-here v later g others zero at = ap (λ b. cond (not b) (1 + position_or_len (λ n. n == g) later) 0) (eq-eqb v g (some_one v g at))
first-here v later g others (suc k) at =
    let w = others k at in
    let same : position_or_len (λ n. n == g) later ≡ k = w.0 in
    let next : 1 + position_or_len (λ n. n == g) later ≡ suc k = omega (arith, same) in
    ap (λ b. cond (not b) (1 + position_or_len (λ n. n == g) later) 0) w.1 ∙ next

-- no value stands twice in a list that can be sent: wherever g stands, that is its first place
sent-first : (S : State) (p h : ℕ) (earlier values : List ℕ) (all : List Held) → sent S p h earlier values ≡ Ok all → (g i : ℕ) → slice_get values i ≡ Some g → position_or_len (λ n. n == g) values ≡ i
sent-first S p h earlier [] all e g i at = cc
sent-first S p h earlier (v ∷ later) all e g i at =
    let one = bound (ok_or (entry S p v) status.BadHandle) _ all e in
    let two = bound (check (not (among earlier v)) status.BadHandle) _ all one.2 in
    let three = bound (check (not (v == h)) status.NotSupported) _ all two.2 in
    let four = bound (check (has_all one.0.rights.0 0x2) status.AccessDenied) _ all three.2 in
    let five = bound (sent S p h (v ∷ earlier) later) (λ others. Ok (one.0 ∷ others)) all four.2 in
    first-here v later g (λ k there. (
      sent-first S p h (v ∷ earlier) later five.0 five.1 g k there,
      neither_left (v == g) (among earlier g) (sent-apart S p h (v ∷ earlier) later five.0 five.1 g k there),
    )) i at

sent-position : (S : State) (p h : ℕ) (values : List ℕ) (all : List Held) → sent S p h [] values ≡ Ok all → (g i : ℕ) → slice_get values i ≡ Some g → position (λ n. n == g) values ≡ Some i
sent-position S p h values all e g i at =
    ap (λ n. cond (nat_lt n (length values)) (Some n) None) (sent-first S p h [] values all e g i at)
    ∙ ap (λ b. cond b (Some i) None) (lt-ltb i (length values) (slice_get_within values i g at))

-- ---- the calls

-- what a found handle gives
handle-found : (S : State) (p h : ℕ) (wanted : Kind → Bool) (rights : ℕ) (w : Held × ObjectRow) → handle S p h wanted rights ≡ Ok w → (entry S p h ≡ Some w.0) × (object S w.0.koid ≡ Some w.1)
handle-found S p h wanted rights w e =
    let one = bound (ok_or (entry S p h) status.BadHandle) _ w e in
    let two = bound (ok_or (object S one.0.koid) status.BadHandle) _ w one.2 in
    let three = bound (check (wanted two.0.kind) status.WrongType) _ w two.2 in
    let four = bound (check (has_all one.0.rights.0 rights) status.AccessDenied) _ w three.2 in
    let here : entry S p h ≡ Some one.0 = found (entry S p h) status.BadHandle one.0 one.1 in
    let there : object S one.0.koid ≡ Some two.0 = found (object S one.0.koid) status.BadHandle two.0 two.1 in
    let is : (one.0, two.0) ≡ w = ok_one (one.0, two.0) w four.2 in
    subst (λ (v : Held × ObjectRow). (entry S p h ≡ Some v.0) × (object S v.0.koid ≡ Some v.1)) is (here, there)

-- a fact of the state and the reply that a call leaves, from each way through its checks
after : {A : Type 0} (P : State × Reply → Type 0) (T : State) (r : Result A Status) (f : A → Result (State × Reply) Status) → ((wrong : Status) → P (T, reply.Status wrong)) → ((v : A) → r ≡ Ok v → P (answered T (f v))) → P (answered T (r >>= f))
after P T (Ok v) f base next = next v refl
after P T (Err wrong) f base next = base wrong

-- where the other place is filled from this one, the way on from this one leads there
record Follows (S : State) (p : ℕ) (c : Call) (at other : Place) (held : Held) (D : State × Reply) : Type 0 where
  is : held_at D.0 other ≡ Some held → filled_by S p c other ≡ From at → successor S p c D.1 at ≡ Some other

-- this entry is still there
record Keeps (p h : ℕ) (D : State × Reply) : Type 0 where
  is : entry D.0 p h ≡ None → ⊥

keeps-duplicate : (S : State) (p h mask : ℕ) (old : Held) → entry S p h ≡ Some old → Keeps p h (handle_duplicate S p h mask)
keeps-duplicate S p h mask old there =
    let base : (wrong : Status) → Keeps p h (S, reply.Status wrong) = (λ wrong. record { is = λ none. missing (entry S p h) old none there }) in
    after (Keeps p h) S (handle S p h any_kind 0x1) _ base (λ w e.
    after (Keeps p h) S (ok_or (asked_rights mask w.0.rights.0) status.InvalidArgs) _ base (λ rights f.
    let given : Held = record (w.0) { rights = record { 0 = rights } } in
    record { is = λ none. install-kept p (caller S p) given S h old there none }))

module _ (S : State) (sound : IsSound S) (p : ℕ) (live : has_live_process S p ≡ true) (at other : Place) (held : Held) (empty : held_at S other ≡ None) where
  -- the call fills no place
  unfilled : (c : Call) (T : State) (r : Reply) → (held_at T other ≡ Some held → held_at S other ≡ Some held) → Follows S p c at other held (T, r)
  unfilled c T r less = record { is = λ there by. absurd (missing (held_at S other) held empty (less there)) }

  followed-handle_replace : (h mask : ℕ) → Follows S p (call.HandleReplace h mask) at other held (handle_replace S p h mask)
  followed-handle_replace h mask =
      let c : Call = call.HandleReplace h mask in
      let T : State = take_out S p h in
      let less : held_at T other ≡ Some held → held_at S other ≡ Some held = held-taken p (λ g. g == h) S other held in
      after (Follows S p c at other held) S (ok_or (entry S p h) status.BadHandle) _ (λ wrong. unfilled c S (reply.Status wrong) (λ e. e)) (λ old e.
      after (Follows S p c at other held) T (ok_or (asked_rights mask old.rights.0) status.InvalidArgs) _ (λ wrong. unfilled c T (reply.Status wrong) less) (λ rights f.
      let given : Held = record old { rights = record { 0 = rights } } in
      record {
        is = λ there by.
            either_way (held-install p (caller S p) given T other held there)
            (λ same. ap (λ z. Some z) same)
            (λ g. absurd (missing (held_at S other) held empty (less g)));
      }))

  followed-channel_write : (h : ℕ) (c : Call) (bytes values : List ℕ) → ((e n i : ℕ) → filled_by S p c (place.Message e n i) ≡ from_value p (slice_get values i)) → ((r : Reply) → successor S p c r at ≡ sent_to S p h values at) → Follows S p c at other held (channel_write S p h bytes values)
  followed-channel_write h c bytes values by to =
      let T : State = take_out_all S p (among values) in
      let less : held_at T other ≡ Some held → held_at S other ≡ Some held = held-taken p (among values) S other held in
      let base : (wrong : Status) → Follows S p c at other held (T, reply.Status wrong) = (λ wrong. unfilled c T (reply.Status wrong) less) in
      after (Follows S p c at other held) T (handle S p h is_channel 0x8) _ base (λ w e.
      after (Follows S p c at other held) T (sent S p h [] values) _ base (λ all f.
      after (Follows S p c at other held) T (ok_or (object S w.1.link) status.PeerClosed) _ base (λ peer g.
      let m : MessageContent = record { bytes = bytes; handles = all } in
      let U : State = put T (key.Msg w.1.link peer.next) (Some (rows.Msg m)) in
      let known = handle-found S p h is_channel 0x8 w e in
      let link : link_at S w.0.koid ≡ w.1.link = ap object_link known.1 in
      let next : next_at S w.1.link ≡ peer.next = ap object_next (found (object S w.1.link) status.PeerClosed peer g) in
      record {
        is = λ there from.
            either_way (held-message T w.1.link peer.next m other held (sym (held-object U w.1.link (Some (rows.Object (raised peer))) other) ∙ there))
            (λ filled.
            let i : ℕ = filled.0 in
            let given = sent-at S p h [] values all f i held filled.2 in
            let here : place.Entry p given.0 ≡ at = from_one (place.Entry p given.0) at (sym (by w.1.link peer.next i ∙ ap (λ r. from_value p r) given.1) ∙ ap (λ z. filled_by S p c z) filled.1 ∙ from) in
            to done ∙ subst (λ z. sent_to S p h values z ≡ Some other) here (
            ap (λ r. message_place S r (position (λ v. v == given.0) values)) known.0
            ∙ ap (λ r. message_place S (Some w.0) r) (sent-position S p h values all f given.0 i given.1)
            ∙ ap (λ y. Some (place.Message y (next_at S y) i)) link
            ∙ ap (λ n. Some (place.Message w.1.link n i)) next
            ∙ ap (λ z. Some z) filled.1))
            (λ k. absurd (missing (held_at S other) held empty (less k)));
      })))

  followed-channel_read : (h bytes handles : ℕ) (discard : Bool) → Follows S p (call.ChannelRead h bytes handles discard) at other held (channel_read S p h bytes handles discard)
  followed-channel_read h bytes handles discard =
      let c : Call = call.ChannelRead h bytes handles discard in
      let base : (wrong : Status) → Follows S p c at other held (S, reply.Status wrong) = (λ wrong. unfilled c S (reply.Status wrong) (λ e. e)) in
      after (Follows S p c at other held) S (handle S p h is_channel 0x4) _ base (λ w e.
      after (Follows S p c at other held) S (ok_or (first (queue S w.0.koid)) (if w.1.link == 0 then status.PeerClosed else status.ShouldWait)) _ base (λ m f.
      let x : ℕ = w.0.koid in
      let known = handle-found S p h is_channel 0x4 w e in
      let queued : first (queue S x) ≡ Some m = found (first (queue S x)) (if w.1.link == 0 then status.PeerClosed else status.ShouldWait) m f in
      let T : State = put S (key.Msg x m.0) None in
      let less : held_at T other ≡ Some held → held_at S other ≡ Some held = held-gone S x m.0 other held in
      let value : ℕ → ℕ = (λ i. value_of ((caller S p).next + i)) in
      elim (has_room_for bytes handles m.1) as (λ b. Follows S p c at other held (answered S (Ok (if b then take_message S p x m.0 m.1 else refuse_message S x m.0 m.1 discard)))) [
        | true ↦ record {
          is = λ there from.
              either_way (held-install_all m.1.handles p (caller S p) T other held there)
              (λ filled.
              let i : ℕ = filled.0 in
              let source : filled_by S p c (place.Entry p (value i)) ≡ From (place.Message x m.0 i) =
              ap (λ r. from_queue S (received_as S p (value i)) r) known.0
              ∙ ap (λ r. from_first x (received_as S p (value i)) r) queued
              ∙ ap (λ j. From (place.Message x m.0 j)) (received-at S sound p live i) in
              let here : place.Message x m.0 i ≡ at = from_one (place.Message x m.0 i) at (sym source ∙ ap (λ z. filled_by S p c z) filled.1 ∙ from) in
              subst (λ z. taken_to p (reply.Message m.1.bytes (values_from (caller S p).next m.1.handles)) z ≡ Some other) here
              (ap (λ r. option_map (place.Entry p) r) filled.2 ∙ ap (λ z. Some z) filled.1))
              (λ g. absurd (missing (held_at S other) held empty (less g)));
        }
        | false ↦ elim discard as (λ b. Follows S p c at other held (answered S (Ok (refuse_message S x m.0 m.1 b)))) [
          | true ↦ unfilled c T (reply.TooSmall (length m.1.bytes) (length m.1.handles)) less
          | false ↦ unfilled c S (reply.TooSmall (length m.1.bytes) (length m.1.handles)) (λ e. e)
        ]
      ]))

  followed-spawn : (h arg : ℕ) → Follows S p (call.Spawn h arg) at other held (spawn S p h arg)
  followed-spawn h arg =
      let c : Call = call.Spawn h arg in
      let x : ℕ = next_koid S in
      let base : (wrong : Status) → Follows S p c at other held (S, reply.Status wrong) = (λ wrong. unfilled c S (reply.Status wrong) (λ e. e)) in
      after (Follows S p c at other held) S (handle S p h is_job 0x20000) _ base (λ w e.
      after (Follows S p c at other held) S (argument S p arg) _ base (λ given f.
      after (Follows S p c at other held) S (check (is_live w.1.life) status.BadState) _ base (λ lives g.
      let R : State = give_up given p arg S in
      let T : State = make (counters S) (child given w.0.koid) R in
      record {
        is = λ there from.
            either_way (held-install p (caller S p) (whole x kind.Process) (hand_over given x T) other held there)
            (λ same. absurd (made-from at (sym (spawned-made S sound p live h arg) ∙ ap (λ z. filled_by S p c z) same ∙ from)))
            (λ k. either_way (held-hand_over given x T other held k)
            (λ same. ap (λ z. Some z) same)
            (λ l. absurd (missing (held_at S other) held empty (held-give_up given p arg S other held (sym (held-make (counters S) (child given w.0.koid) R other) ∙ l)))));
      })))

  -- every call; a duplicated handle would still be in its entry
  followed-call : (c : Call) (old : Held) → held_at S at ≡ Some old → ((q g : ℕ) → at ≡ place.Entry q g → entry (direct S p c).0 q g ≡ None) → Follows S p c at other held (direct S p c)
  unfolding direct
  followed-call (call.HandleDuplicate h rights) old there gone = record {
    is = λ arrived from.
        let here : at ≡ place.Entry p h = sym (from_one (place.Entry p h) at from) in
        absurd ((keeps-duplicate S p h rights old (subst (λ z. held_at S z ≡ Some old) here there)).is (gone p h here));
  }
  followed-call (call.HandleReplace h rights) old there gone = followed-handle_replace h rights
  followed-call (call.ChannelWrite h parcel) old there gone = followed-channel_write h (call.ChannelWrite h parcel) parcel.bytes parcel.handles (λ e n i. refl) (λ r. refl)
  followed-call (call.ChannelRead h bytes handles discard) old there gone = followed-channel_read h bytes handles discard
  followed-call (call.Spawn job arg) old there gone = followed-spawn job arg
  followed-call c old there gone = record { is = λ arrived from. absurd (made-from at from) }

pub followed_step : (S : State) (p : ℕ) (c : Call) (at other : Place) (old held : Held) → IsConsistent S → has_live_process S p ≡ true → IsCall c → held_at S at ≡ Some old → held_at (step S p c).0 at ≡ None → held_at (step S p c).0 other ≡ Some held → origin S p c other ≡ From at → if_from S p c at (successor S p c (step S p c).1 at) ≡ Some other
unfolding step
followed_step S p c at other old held consistent live is before gone after from =
    let D : State × Reply = direct S p c in
    let sound : IsSound D.0 = sound-direct S p c consistent.sound live is in
    let new = only_filled (held_at S other) (filled_by S p c other) at from in
    let arrived : held_at D.0 other ≡ Some held = held-completed S D.0 sound other held after in
    let left : (q g : ℕ) → at ≡ place.Entry q g → entry D.0 q g ≡ None = (λ q g same.
    sym (entry-completed S D.0 sound q g) ∙ subst (λ z. held_at (settle S (collect D.0)) z ≡ None) same gone) in
    let next : successor S p c D.1 at ≡ Some other = (followed-call S consistent.sound p live at other held new.0 c old before left).is arrived new.1 in
    ap (λ r. if_from S p c at r) next
    ∙ ap (λ z. if is_from z at then Some other else None) from
    ∙ ap (λ b. if b then Some other else None) (is_same-self at)

-- what a place loses by a call comes to one place at most: two places that both got theirs from it are one
pub one_place : (S : State) (p : ℕ) (c : Call) (at one two : Place) (old held same : Held) → IsConsistent S → has_live_process S p ≡ true → IsCall c → held_at S at ≡ Some old → held_at (step S p c).0 at ≡ None → held_at (step S p c).0 one ≡ Some held → origin S p c one ≡ From at → held_at (step S p c).0 two ≡ Some same → origin S p c two ≡ From at → one ≡ two
one_place S p c at one two old held same consistent live is before gone there from other by =
    some_one one two
    (sym (followed_step S p c at one old held consistent live is before gone there from) ∙ followed_step S p c at two old same consistent live is before gone other by)
