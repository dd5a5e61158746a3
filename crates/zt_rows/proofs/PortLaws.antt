-- A new wait, a packet that comes to the end of a port or leaves it, and what is cancelled, leave a sound state
-- sound; a call gives out one number at most with them.
use Rattle.std.proofs.Common.{◌≡◌, ◌≤◌, ◌<◌, ℕ, ◌+◌, Bool, true, false, cond, ◌&&◌, ◌⊎◌, inl, inr, refl, sym, ap, ◌∙◌, subst, arith}
use Rattle.std.specs.Prelude.{Option, None, Some, option_and_then, is_some, if◌then◌else◌, ◌==◌}
use Rattle.std.specs.Option.{option_map}
use Rattle.std.proofs.lemmas.Bool.{eqb-true}
use Rattle.zt_bits.specs.declared.kinds.Kind.{Kind}
use Rattle.zt_bits.specs.declared.kinds.Kind.TheVariants as kind
use Rattle.zt_rows.specs.declared.keys.RowKey.{RowKey}
use Rattle.zt_rows.specs.declared.keys.RowKey.TheVariants as key
use Rattle.zt_rows.specs.declared.rows.Counters.{Counters}
use Rattle.zt_rows.specs.declared.rows.Held.{Held}
use Rattle.zt_rows.specs.declared.rows.ObjectRow.{ObjectRow}
use Rattle.zt_rows.specs.declared.rows.Packet.{Packet}
use Rattle.zt_rows.specs.declared.rows.Wait.{Wait}
use Rattle.zt_rows.specs.declared.rows.Row.{Row}
use Rattle.zt_rows.specs.declared.rows.Row.TheVariants as rows
use Rattle.zt_rows.specs.State.{State, row, put}
use Rattle.zt_rows.specs.Reads.{as_counters, as_object, as_entry, as_message, as_packet, as_wait, counters, object, entry, message, packet, wait}
use Rattle.zt_rows.specs.Tests.{kind_at, next_at, object_next, is_port, count_row, raised}
use Rattle.zt_rows.specs.Room.{suits, is_wait}
use Rattle.zt_rows.specs.Settle.{push_packet}
use Rattle.zt_rows.specs.PortCalls.{add_wait, is_user, is_user_packet_of, pending, most_pending, is_cancelled, cancel}
use Rattle.zt_rows.specs.Handles.{next_koid}
use Rattle.zt_rows.specs.Consistent.{SoundPacket, SoundWait, IsSound}
use Rattle.zt_rows.proofs.StateLaws.{row-put, row-change}
use Rattle.zt_rows.proofs.RowLaws.{and_left, and_right, count_row-change, count_row-put, count_row-put-out, count_row-take}
use Rattle.zt_rows.proofs.ReadLaws.{some_one, exists-some, typed-put, chosen, if_none}
use Rattle.zt_rows.proofs.SoundLaws.{changed-suits}
use Rattle.zt_rows.proofs.GrownLaws.{Grown, kept_itself, sound-grown}
use Rattle.zt_rows.proofs.PutLaws.{put-apart, count_row-put-any, sound-raised, object-raised, Beside, sound-beside}
use Rattle.zt_rows.proofs.GivenLaws.{growth, as_it_was, Spends, spends-none, spends-spends, spends-raised}

-- ---- ports

pub is_port-is : (k : Kind) → is_port k ≡ true → k ≡ kind.Port
is_port-is kind.Port e = refl
is_port-is _ e = cc

-- ---- a new wait

module _ (S : State) (w : Wait) where
  abbrev added : State
  added = add_wait (counters S) w S

  abbrev number : ℕ
  number = (counters S).next_wait

  abbrev with_wait : State
  with_wait = put S (key.Wait number) (Some (rows.Wait w))

  abbrev raised_counters : Counters
  raised_counters = record (counters S) { next_wait = number + 1 }

  pub object-added : (x : ℕ) → object (add_wait (counters S) w S) x ≡ object S x
  object-added x = ap as_object (row-put with_wait key.Counters (Some (rows.Counters raised_counters)) (key.Object x) ∙ row-put S (key.Wait number) (Some (rows.Wait w)) (key.Object x))

  entry-added : (p h : ℕ) → entry added p h ≡ entry S p h
  entry-added p h = ap as_entry (row-put with_wait key.Counters (Some (rows.Counters raised_counters)) (key.Entry p h) ∙ row-put S (key.Wait number) (Some (rows.Wait w)) (key.Entry p h))

  message-added : (e n : ℕ) → message added e n ≡ message S e n
  message-added e n = ap as_message (row-put with_wait key.Counters (Some (rows.Counters raised_counters)) (key.Msg e n) ∙ row-put S (key.Wait number) (Some (rows.Wait w)) (key.Msg e n))

  packet-added : (p n : ℕ) → packet added p n ≡ packet S p n
  packet-added p n = ap as_packet (row-put with_wait key.Counters (Some (rows.Counters raised_counters)) (key.Packet p n) ∙ row-put S (key.Wait number) (Some (rows.Wait w)) (key.Packet p n))

  wait-added : (n : ℕ) → wait added n ≡ cond (n == number) (Some w) (wait S n)
  wait-added n =
      ap as_wait (row-put with_wait key.Counters (Some (rows.Counters raised_counters)) (key.Wait n) ∙ row-put S (key.Wait number) (Some (rows.Wait w)) (key.Wait n))
      ∙ chosen as_wait (n == number) (Some (rows.Wait w)) (row S (key.Wait n))

  pub counters-added : counters (add_wait (counters S) w S) ≡ record (counters S) { next_wait = (counters S).next_wait + 1 }
  counters-added = ap as_counters (row-put with_wait key.Counters (Some (rows.Counters raised_counters)) key.Counters)

  module _ (sound : IsSound S) (held : Held) (there : entry S w.process w.handle ≡ Some held) (port : kind_at S w.port ≡ Some kind.Port) where
    numbers-added : (counters added).next_wait ≡ number + 1
    numbers-added = ap (λ (c : Counters). c.next_wait) counters-added

    sound-new-wait : SoundWait added number w
    sound-new-wait = record {
      number = let e : (counters added).next_wait ≡ number + 1 = numbers-added in omega arith;
      held = held;
      there = entry-added w.process w.handle ∙ there;
      port = ap (option_map (λ (q : ObjectRow). q.kind)) (object-added w.port) ∙ port;
    }

    grown-add_wait : Grown S added
    grown-add_wait = record {
      of_rows = typed-put with_wait (typed-put S sound.typed (key.Wait number) (Some (rows.Wait w)) (λ r e. subst (λ z. suits (key.Wait number) z ≡ true) (some_one _ r e) refl)) key.Counters (Some (rows.Counters raised_counters)) (λ r e. subst (λ z. suits key.Counters z ≡ true) (some_one _ r e) refl);
      of_koids = let e : next_koid added ≡ next_koid S = ap (λ (c : Counters). c.next_koid) counters-added in omega arith;
      of_numbers = let e : (counters added).next_wait ≡ number + 1 = numbers-added in omega arith;
      of_objects = λ x o h. (o, object-added x ∙ h, kept_itself o);
      new_objects = λ x o h. inl (sym (object-added x) ∙ h);
      new_entries = λ p h held e. inl (sym (entry-added p h) ∙ e);
      new_messages = λ e n m h. inl (sym (message-added e n) ∙ h);
      new_packets = λ p n k h. inl (sym (packet-added p n) ∙ h);
      new_waits = λ n v h. elim (n == number) as (λ b. (n == number) ≡ b → cond b (Some w) (wait S n) ≡ Some v → ((wait S n ≡ Some v) × ((held : Held) → entry S v.process v.handle ≡ Some held → entry added v.process v.handle ≡ Some held)) ⊎ SoundWait added n v) [
        | true ↦ λ t e. inr (subst (λ z. SoundWait added z v) (sym (eqb-true n number t)) (subst (λ z. SoundWait added number z) (some_one w v e) sound-new-wait))
        | false ↦ λ t e. inl (e, λ held f. entry-added v.process v.handle ∙ f)
      ] refl (sym (wait-added n) ∙ h);
      of_pending = λ x.
          let a : pending added x ≤ pending with_wait x = count_row-put-out (is_user_packet_of x) with_wait key.Counters (rows.Counters raised_counters) refl in
          let b : pending with_wait x ≤ pending S x = count_row-put-out (is_user_packet_of x) S (key.Wait number) (rows.Wait w) refl in
          let c : pending S x ≤ most_pending = sound.ports x in
          omega arith;
      new_depths = λ x o h job. inl (exists-some S x o (sym (object-added x) ∙ h));
      new_criticals = λ x o h. inl (o, sym (object-added x) ∙ h, refl);
    }

    -- a wait on an entry that is there, for a port, can be made
    pub sound-add_wait : IsSound (add_wait (counters S) w S)
    sound-add_wait = sound-grown S added sound grown-add_wait

-- a call gives out one number with it
pub spends-add_wait : (S : State) (w : Wait) → Spends 0 0 1 S (add_wait (counters S) w S)
spends-add_wait S w =
    let T : State = put S (key.Wait (counters S).next_wait) (Some (rows.Wait w)) in
    let same : counters T ≡ counters S = ap as_counters (row-put S (key.Wait (counters S).next_wait) (Some (rows.Wait w)) key.Counters) in
    let at : (x : ℕ) → object (add_wait (counters S) w S) x ≡ object S x = object-added S w in
    record {
      koids = let k : next_koid (add_wait (counters S) w S) ≡ next_koid S = ap (λ (c : Counters). c.next_koid) (counters-added S w) in omega arith;
      waits = let k : (counters (add_wait (counters S) w S)).next_wait ≡ (counters S).next_wait + 1 = ap (λ (c : Counters). c.next_wait) (counters-added S w) in omega arith;
      waiting =
          let a : count_row is_wait (add_wait (counters S) w S) ≤ count_row is_wait T = count_row-put-out is_wait T key.Counters (rows.Counters (record (counters S) { next_wait = (counters S).next_wait + 1 })) refl in
          let b : count_row is_wait T ≤ 1 + count_row is_wait S = count_row-put is_wait S (key.Wait (counters S).next_wait) (rows.Wait w) in
          omega arith;
      still = λ x e. ap (λ r. is_some r) (at x) ∙ e;
      owners = λ x q e. as_it_was S 0 1 x q (sym (at x) ∙ e);
    }

-- ---- a packet at its place

module _ (S : State) (x n : ℕ) (new : Option Packet) where
  abbrev packed_anew : State
  packed_anew = put S (key.Packet x n) (option_map rows.Packet new)

  object-packet : (y : ℕ) → object packed_anew y ≡ object S y
  object-packet y = ap as_object (row-put S (key.Packet x n) (option_map rows.Packet new) (key.Object y))

  counters-packet : counters packed_anew ≡ counters S
  counters-packet = ap as_counters (row-put S (key.Packet x n) (option_map rows.Packet new) key.Counters)

  as-packet : (r : Option Packet) → as_packet (option_map rows.Packet r) ≡ r
  as-packet (Some k) = refl
  as-packet None = refl

  packet-packet : (p m : ℕ) → packet packed_anew p m ≡ cond ((p == x) && (m == n)) new (packet S p m)
  packet-packet p m =
      ap as_packet (row-put S (key.Packet x n) (option_map rows.Packet new) (key.Packet p m))
      ∙ chosen as_packet ((p == x) && (m == n)) (option_map rows.Packet new) (row S (key.Packet p m))
      ∙ ap (λ r. cond ((p == x) && (m == n)) r (packet S p m)) (as-packet new)

  suits-packet : (o : Option Packet) (r : Row) → option_map rows.Packet o ≡ Some r → suits (key.Packet x n) r ≡ true
  suits-packet (Some k) r q = subst (λ z. suits (key.Packet x n) z ≡ true) (some_one _ r q) refl
  suits-packet None r q = cc

  beside-packet : IsSound S → ((k : Packet) → new ≡ Some k → SoundPacket S x n) → ((y : ℕ) → pending packed_anew y ≤ most_pending) → Beside S packed_anew
  beside-packet sound fits few = record {
    of_rows = typed-put S sound.typed (key.Packet x n) (option_map rows.Packet new) (suits-packet new);
    of_objects = object-packet;
    of_counters = counters-packet;
    of_entries = λ p h. ap as_entry (row-put S (key.Packet x n) (option_map rows.Packet new) (key.Entry p h));
    new_messages = λ e m c h. inl (sym (ap as_message (row-put S (key.Packet x n) (option_map rows.Packet new) (key.Msg e m))) ∙ h);
    new_packets = λ p m k h. elim ((p == x) && (m == n)) as (λ b. ((p == x) && (m == n)) ≡ b → cond b new (packet S p m) ≡ Some k → (packet S p m ≡ Some k) ⊎ SoundPacket S p m) [
      | true ↦ λ t g.
          let owner : p ≡ x = eqb-true p x (and_left (p == x) _ t) in
          let number : m ≡ n = eqb-true m n (and_right (p == x) _ t) in
          inr (subst (λ z. SoundPacket S z m) (sym owner) (subst (λ z. SoundPacket S x z) (sym number) (fits k g)))
      | false ↦ λ t g. inl g
    ] refl (sym (packet-packet p m) ∙ h);
    of_waits = λ m w h. sym (ap as_wait (row-put S (key.Packet x n) (option_map rows.Packet new) (key.Wait m))) ∙ h;
    of_pending = few;
  }

  only-packet : (o : Option Packet) (r : Row) → option_map rows.Packet o ≡ Some r → is_wait (key.Packet x n) r ≡ false
  only-packet (Some k) r q = subst (λ z. is_wait (key.Packet x n) z ≡ false) (some_one _ r q) refl
  only-packet None r q = cc

  spends-packet : Spends 0 0 0 S packed_anew
  spends-packet = spends-none S packed_anew object-packet counters-packet (count_row-put-any is_wait S (key.Packet x n) (option_map rows.Packet new) (only-packet new))

-- any packet may leave
pub sound-unpack : (S : State) → IsSound S → (x n : ℕ) → IsSound (put S (key.Packet x n) None)
sound-unpack S sound x n =
    let T : State = put S (key.Packet x n) None in
    let few : (y : ℕ) → pending T y ≤ most_pending = λ y.
    let a : pending T y ≤ pending S y = count_row-take (is_user_packet_of y) S (key.Packet x n) in
    let b : pending S y ≤ most_pending = sound.ports y in
    omega arith in
    sound-beside S T sound (beside-packet S x n None sound (λ k e. cc) few)

pub spends-unpack : (S : State) (x n : ℕ) → Spends 0 0 0 S (put S (key.Packet x n) None)
spends-unpack S x n = spends-packet S x n None

-- ---- a packet at the end of a port

-- the port gives out the number before the packet is put
pushed : (S : State) (x : ℕ) (o : ObjectRow) (k : Packet) → push_packet x o k S ≡ put (put S (key.Object x) (Some (rows.Object (raised o)))) (key.Packet x o.next) (option_map rows.Packet (Some k))
pushed S x o k = put-apart S (key.Packet x o.next) (key.Object x) (Some (rows.Packet k)) (Some (rows.Object (raised o))) refl

bit-one : (b : Bool) → cond b 1 0 ≤ 1
bit-one true = omega arith
bit-one false = omega arith

-- with one packet more in a port that has room no port has too many
pending-pushed : (T : State) (x n : ℕ) (k : Packet) → ((y : ℕ) → pending T y ≤ most_pending) → pending T x < most_pending → (y : ℕ) → pending (put T (key.Packet x n) (Some (rows.Packet k))) y ≤ most_pending
pending-pushed T x n k few room y =
    let a : pending (put T (key.Packet x n) (Some (rows.Packet k))) y ≤ cond ((x == y) && is_user k) 1 0 + pending T y = count_row-put (is_user_packet_of y) T (key.Packet x n) (rows.Packet k) in
    elim (x == y) as (λ b. (x == y) ≡ b → pending (put T (key.Packet x n) (Some (rows.Packet k))) y ≤ cond (b && is_user k) 1 0 + pending T y → pending (put T (key.Packet x n) (Some (rows.Packet k))) y ≤ most_pending) [
      | true ↦ λ t e.
          let c : cond (is_user k) 1 0 ≤ 1 = bit-one (is_user k) in
          let d : pending T y < most_pending = subst (λ z. pending T z < most_pending) (eqb-true x y t) room in
          omega arith
      | false ↦ λ t e. let c : pending T y ≤ most_pending = few y in omega arith
    ] refl a

-- a port with room takes a packet more
pub sound-push_packet : (S : State) → IsSound S → (x : ℕ) (o : ObjectRow) → object S x ≡ Some o → o.kind ≡ kind.Port → (k : Packet) → pending S x < most_pending → IsSound (push_packet x o k S)
sound-push_packet S sound x o here port k room =
    let T : State = put S (key.Object x) (Some (rows.Object (raised o))) in
    let made : IsSound T = sound-raised S sound x o here in
    let there : object T x ≡ Some (raised o) = object-raised S x o in
    let next : next_at T x ≡ o.next + 1 = ap object_next there in
    let one : SoundPacket T x o.next = record { owner = ap (option_map (λ (q : ObjectRow). q.kind)) there ∙ ap Some port; number = omega arith } in
    let same : pending T x ≤ pending S x = count_row-put-out (is_user_packet_of x) S (key.Object x) (rows.Object (raised o)) refl in
    subst IsSound (sym (pushed S x o k))
    (sound-beside T (put T (key.Packet x o.next) (Some (rows.Packet k))) made (beside-packet T x o.next (Some k) made (λ _ e. one) (pending-pushed T x o.next k made.ports (omega arith))))

-- a call gives out one number with it
pub spends-push_packet : (S : State) (x : ℕ) (o : ObjectRow) → object S x ≡ Some o → o.kind ≡ kind.Port → (k : Packet) → Spends 0 0 1 S (push_packet x o k S)
spends-push_packet S x o here port k =
    let T : State = put S (key.Object x) (Some (rows.Object (raised o))) in
    let U : State = put T (key.Packet x o.next) (Some (rows.Packet k)) in
    subst (Spends 0 0 1 S) (sym (pushed S x o k)) (spends-spends 0 0 1 0 0 0 S T U (spends-raised S x o here (ap (growth 0 1) port)) (spends-packet T x o.next (Some k)))

-- ---- what is cancelled

module _ (x p h l : ℕ) where
  abbrev cancelled : RowKey → Row → Bool
  cancelled = is_cancelled x p h l

  abbrev uncancelled : RowKey → Row → Option Row
  uncancelled k r = if cancelled k r then None else Some r

  -- a row that is left is as it was
  left-is : (k : RowKey) (r s : Row) → uncancelled k r ≡ Some s → r ≡ s
  left-is k r s e = (if_none (cancelled k r) r s e).1

  object-left : (y : ℕ) (r : Option Row) → as_object (option_and_then (uncancelled (key.Object y)) r) ≡ as_object r
  object-left y (Some r) = refl
  object-left y None = refl

  entry-left : (q g : ℕ) (r : Option Row) → as_entry (option_and_then (uncancelled (key.Entry q g)) r) ≡ as_entry r
  entry-left q g (Some r) = refl
  entry-left q g None = refl

  message-left : (e n : ℕ) (r : Option Row) → as_message (option_and_then (uncancelled (key.Msg e n)) r) ≡ as_message r
  message-left e n (Some r) = refl
  message-left e n None = refl

  counters-left : (r : Option Row) → as_counters (option_and_then (uncancelled key.Counters) r) ≡ as_counters r
  counters-left (Some r) = refl
  counters-left None = refl

  -- what is seen under a key where rows were cancelled was seen before
  was-seen : {A : Type 0} (see : Option Row → Option A) (k : RowKey) (r : Option Row) (v : A) → see None ≡ None → see (option_and_then (uncancelled k) r) ≡ Some v → see r ≡ Some v
  was-seen see k None v none e = e
  was-seen see k (Some r) v none e =
      elim (cancelled k r) as (λ b. see (if b then None else Some r) ≡ Some v → see (Some r) ≡ Some v) [
        | true ↦ λ f. cc
        | false ↦ λ f. f
      ] e

  module _ (S : State) where
    abbrev rest : State
    rest = cancel (is_cancelled x p h l) S

    object-cancel : (y : ℕ) → object rest y ≡ object S y
    object-cancel y = ap as_object (row-change uncancelled S (key.Object y)) ∙ object-left y (row S (key.Object y))

    counters-cancel : counters rest ≡ counters S
    counters-cancel = ap as_counters (row-change uncancelled S key.Counters) ∙ counters-left (row S key.Counters)

    beside-cancel : IsSound S → Beside S rest
    beside-cancel sound = record {
      of_rows = λ k r e. changed-suits uncancelled k (λ r s f g. subst (λ z. suits k z ≡ true) (left-is k r s f) g) (row S k) (sound.typed k) r (sym (row-change uncancelled S k) ∙ e);
      of_objects = object-cancel;
      of_counters = counters-cancel;
      of_entries = λ q g. ap as_entry (row-change uncancelled S (key.Entry q g)) ∙ entry-left q g (row S (key.Entry q g));
      new_messages = λ e n m f. inl (sym (ap as_message (row-change uncancelled S (key.Msg e n)) ∙ message-left e n (row S (key.Msg e n))) ∙ f);
      new_packets = λ q n k e. inl (was-seen as_packet (key.Packet q n) (row S (key.Packet q n)) k refl (sym (ap as_packet (row-change uncancelled S (key.Packet q n))) ∙ e));
      of_waits = λ n w e. was-seen as_wait (key.Wait n) (row S (key.Wait n)) w refl (sym (ap as_wait (row-change uncancelled S (key.Wait n))) ∙ e);
      of_pending = λ y.
          let a : pending rest y ≤ pending S y = count_row-change (is_user_packet_of y) uncancelled (λ k r s f g. subst (λ z. is_user_packet_of y k z ≡ true) (sym (left-is k r s f)) g) S in
          let b : pending S y ≤ most_pending = sound.ports y in
          omega arith;
    }

    -- waits and packets may be cancelled
    pub sound-cancel : IsSound S → IsSound (cancel (is_cancelled x p h l) S)
    sound-cancel sound = sound-beside S rest sound (beside-cancel sound)

    pub spends-cancel : Spends 0 0 0 S (cancel (is_cancelled x p h l) S)
    spends-cancel = spends-none S rest object-cancel counters-cancel (count_row-change is_wait uncancelled (λ k r s f g. subst (λ z. is_wait k z ≡ true) (sym (left-is k r s f)) g) S)
