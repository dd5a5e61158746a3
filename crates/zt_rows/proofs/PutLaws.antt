-- Puts that leave a sound state sound, whichever call makes them: an object in its outline, as one that gave out a
-- number, and a row of what objects own. Puts under two keys may change places, so that an owner gives out the
-- number before what has it is put.
use Rattle.std.proofs.Common.{◌≡◌, ◌≤◌, ℕ, Bool, true, false, cond, ◌&&◌, ◌⊎◌, inl, inr, refl, sym, ap, ◌∙◌, subst, arith}
use Rattle.std.specs.Prelude.{Option, None, Some, is_some, ◌==◌}
use Rattle.std.specs.Option.{option_map}
use Rattle.std.proofs.lemmas.Bool.{eqb-true}
use Rattle.zt_rows.specs.declared.keys.RowKey.{RowKey}
use Rattle.zt_rows.specs.declared.keys.RowKey.TheVariants as key
use Rattle.zt_rows.specs.declared.rows.Counters.{Counters}
use Rattle.zt_rows.specs.declared.rows.ObjectRow.{ObjectRow}
use Rattle.zt_rows.specs.declared.rows.Packet.{Packet}
use Rattle.zt_rows.specs.declared.rows.Wait.{Wait}
use Rattle.zt_rows.specs.declared.rows.Row.{Row}
use Rattle.zt_rows.specs.declared.rows.Row.TheVariants as rows
use Rattle.zt_rows.specs.Contents.{MessageContent}
use Rattle.zt_rows.specs.Keys.{rowkey_eq}
use Rattle.zt_rows.specs.ProofsOnly.KeyOrder.{rowkey_eq-self, rowkey_eq-equal}
use Rattle.zt_rows.specs.State.{State, row, put}
use Rattle.zt_rows.specs.Reads.{as_counters, as_object, as_entry, as_message, as_packet, as_wait, counters, object, entry, message, packet, wait}
use Rattle.zt_rows.specs.Tests.{exists, without_bits, count_row, raised}
use Rattle.zt_rows.specs.Room.{suits}
use Rattle.zt_rows.specs.PortCalls.{is_user_packet_of, pending, most_pending}
use Rattle.zt_rows.specs.JobCalls.{most_depth}
use Rattle.zt_rows.specs.End.{chain, depth}
use Rattle.zt_rows.specs.Handles.{next_koid}
use Rattle.zt_rows.specs.Consistent.{possible_signals, SoundCritical, SoundMessage, SoundPacket, IsSound}
use Rattle.zt_rows.proofs.StateLaws.{row-put, same_state}
use Rattle.zt_rows.proofs.RowLaws.{true≢false, and_left, and_right, count_row-put-out, count_row-take}
use Rattle.zt_rows.proofs.ReadLaws.{some_one, exists-some, chosen, object-put, typed-put}
use Rattle.zt_rows.proofs.SoundLaws.{is_running_task, same_chain, sound-above}
use Rattle.zt_rows.proofs.GrownLaws.{Kept, KeepsObjects, kept_itself, CriticalAsIn, Grown, links-kept, object-kept, message-kept, packet-kept, sound-grown, HasObject, keeps-with, new-with, has-object}

-- ---- two puts

swapped : (a b : Bool) (s r x : Option Row) → (a ≡ true → b ≡ true → ⊥) → cond a s (cond b r x) ≡ cond b r (cond a s x)
swapped true true s r x h = absurd (h refl refl)
swapped true false s r x h = refl
swapped false b s r x h = refl

-- puts under two keys may change places
pub put-apart : (S : State) (k q : RowKey) (r s : Option Row) → rowkey_eq q k ≡ false → put (put S k r) q s ≡ put (put S q s) k r
put-apart S k q r s apart =
    same_state _ _ (λ z.
    row-put (put S k r) q s z
    ∙ ap (cond (rowkey_eq z q) s) (row-put S k r z)
    ∙ swapped (rowkey_eq z q) (rowkey_eq z k) s r (row S z) (both z)
    ∙ ap (cond (rowkey_eq z k) r) (sym (row-put S q s z))
    ∙ sym (row-put (put S q s) k r z))
  where
    both : (z : RowKey) → rowkey_eq z q ≡ true → rowkey_eq z k ≡ true → ⊥
    both z e f =
        let same : q ≡ k = sym (rowkey_eq-equal z q e) ∙ rowkey_eq-equal z k f in
        true≢false (rowkey_eq q k) (ap (λ w. rowkey_eq w k) same ∙ rowkey_eq-self k) apart

-- no row more passes after a put of one that does not, or of none
pub count_row-put-any : (test : RowKey → Row → Bool) (S : State) (k : RowKey) (new : Option Row) → ((r : Row) → new ≡ Some r → test k r ≡ false) → count_row test (put S k new) ≤ count_row test S
count_row-put-any test S k (Some r) h = count_row-put-out test S k r (h r refl)
count_row-put-any test S k None h = count_row-take test S k

-- ---- an object in its outline

module _ (S : State) (sound : IsSound S) (x : ℕ) (o : ObjectRow) (here : object S x ≡ Some o) (q : ObjectRow) (kept : Kept o q) (possible : without_bits q.signals.0 (possible_signals q.kind) ≡ 0) where
  abbrev shaped_anew : State
  shaped_anew = put S (key.Object x) (Some (rows.Object q))

  has-shaped : HasObject S shaped_anew x q
  has-shaped y = object-put S x (Some (rows.Object q)) y

  keeps-shaped : KeepsObjects S shaped_anew
  keeps-shaped = keeps-with S shaped_anew x q has-shaped (λ p h. subst (λ z. Kept z q) (some_one o p (sym here ∙ h)) kept)

  counters-shaped : counters shaped_anew ≡ counters S
  counters-shaped = ap as_counters (row-put S (key.Object x) (Some (rows.Object q)) key.Counters)

  koids-shaped : next_koid shaped_anew ≡ next_koid S
  koids-shaped = ap (λ (c : Counters). c.next_koid) counters-shaped

  -- the jobs above it are as before
  pub chain-shaped : is_running_task o ≡ true → chain (put S (key.Object x) (Some (rows.Object q))) x ≡ chain S x
  chain-shaped task = sym (same_chain S shaped_anew (sound-above S sound.of_objects) (links-kept S shaped_anew keeps-shaped) x o here task)

  -- it is critical to what it was critical to, or soundly
  abbrev pub Bound : Type 0
  Bound = (q.critical ≡ o.critical) ⊎ SoundCritical (put S (key.Object x) (Some (rows.Object q))) x q

  critical-here : Bound → (y : ℕ) (p : ObjectRow) → y ≡ x → q ≡ p → CriticalAsIn S shaped_anew y p
  critical-here bound y p at is = elim bound [
    | inl same ↦ inl (o, ap (object S) at ∙ here, ap (λ (z : ObjectRow). z.critical) (sym is) ∙ same)
    | inr s ↦ inr (subst (λ z. SoundCritical shaped_anew z p) (sym at) (subst (λ z. SoundCritical shaped_anew x z) is s))
  ]

  grown-shaped : Bound → Grown S shaped_anew
  grown-shaped bound = record {
    of_rows = typed-put S sound.typed (key.Object x) (Some (rows.Object q)) (λ r e. subst (λ z. suits (key.Object x) z ≡ true) (some_one _ r e) refl);
    of_koids = let e : next_koid shaped_anew ≡ next_koid S = koids-shaped in omega arith;
    of_numbers = let e : (counters shaped_anew).next_wait ≡ (counters S).next_wait = ap (λ (c : Counters). c.next_wait) counters-shaped in omega arith;
    of_objects = keeps-shaped;
    new_objects = new-with S shaped_anew x q has-shaped (object-kept S shaped_anew keeps-shaped (let e : next_koid shaped_anew ≡ next_koid S = koids-shaped in omega arith) x o q kept possible (sound.of_objects x o here));
    new_entries = λ p h held e. inl (sym (ap as_entry (row-put S (key.Object x) (Some (rows.Object q)) (key.Entry p h))) ∙ e);
    new_messages = λ e n m h. inl (sym (ap as_message (row-put S (key.Object x) (Some (rows.Object q)) (key.Msg e n))) ∙ h);
    new_packets = λ p n k h. inl (sym (ap as_packet (row-put S (key.Object x) (Some (rows.Object q)) (key.Packet p n))) ∙ h);
    new_waits = λ n w h. inl (sym (ap as_wait (row-put S (key.Object x) (Some (rows.Object q)) (key.Wait n))) ∙ h, λ held e. ap as_entry (row-put S (key.Object x) (Some (rows.Object q)) (key.Entry w.process w.handle)) ∙ e);
    of_pending = λ y.
        let a : pending shaped_anew y ≤ pending S y = count_row-put-out (is_user_packet_of y) S (key.Object x) (rows.Object q) refl in
        let c : pending S y ≤ most_pending = sound.ports y in
        omega arith;
    new_depths = λ y p h job. elim (y == x) as (λ b. (y == x) ≡ b → (exists S y ≡ true) ⊎ (depth shaped_anew y ≤ most_depth)) [
      | true ↦ λ t. inl (exists-some S y o (ap (object S) (eqb-true y x t) ∙ here))
      | false ↦ λ t. inl (exists-some S y p (sym (has-shaped y ∙ ap (λ b. cond b (Some q) (object S y)) t) ∙ h))
    ] refl;
    new_criticals = λ y p h. elim (y == x) as (λ b. (y == x) ≡ b → cond b (Some q) (object S y) ≡ Some p → CriticalAsIn S shaped_anew y p) [
      | true ↦ λ t e. critical-here bound y p (eqb-true y x t) (some_one q p e)
      | false ↦ λ t e. inl (p, e, refl)
    ] refl (sym (has-shaped y) ∙ h);
  }

  -- an object's row may become one of its outline
  pub sound-shaped : Bound → IsSound (put S (key.Object x) (Some (rows.Object q)))
  sound-shaped bound = sound-grown S shaped_anew sound (grown-shaped bound)

-- an owner may give out one more number
pub sound-raised : (S : State) → IsSound S → (x : ℕ) (o : ObjectRow) → object S x ≡ Some o → IsSound (put S (key.Object x) (Some (rows.Object (raised o))))
sound-raised S sound x o here = sound-shaped S sound x o here (raised o) (record { same = refl; next = omega arith }) (sound.of_objects x o here).signals (inl refl)

pub exists-raised : (S : State) (x : ℕ) (o : ObjectRow) → (y : ℕ) → exists S y ≡ true → exists (put S (key.Object x) (Some (rows.Object (raised o)))) y ≡ true
exists-raised S x o y e = elim (y == x) as (λ b. object (put S (key.Object x) (Some (rows.Object (raised o)))) y ≡ cond b (Some (raised o)) (object S y) → exists (put S (key.Object x) (Some (rows.Object (raised o)))) y ≡ true) [
  | true ↦ λ h. ap (λ r. is_some r) h
  | false ↦ λ h. ap (λ r. is_some r) h ∙ e
] (object-put S x (Some (rows.Object (raised o))) y)

pub object-raised : (S : State) (x : ℕ) (o : ObjectRow) → object (put S (key.Object x) (Some (rows.Object (raised o)))) x ≡ Some (raised o)
object-raised S x o = has-object S (put S (key.Object x) (Some (rows.Object (raised o)))) x (raised o) (object-put S x (Some (rows.Object (raised o))))

-- ---- what objects own

-- T has the objects, counters and entries of S, and its messages, packets and waits are those of S or sound
pub record Beside (S T : State) : Type 0 where
  pub of_rows : (k : RowKey) (r : Row) → row T k ≡ Some r → suits k r ≡ true
  pub of_objects : (x : ℕ) → object T x ≡ object S x
  pub of_counters : counters T ≡ counters S
  pub of_entries : (p h : ℕ) → entry T p h ≡ entry S p h
  pub new_messages : (e n : ℕ) (m : MessageContent) → message T e n ≡ Some m → (message S e n ≡ Some m) ⊎ SoundMessage S e n m
  pub new_packets : (p n : ℕ) (k : Packet) → packet T p n ≡ Some k → (packet S p n ≡ Some k) ⊎ SoundPacket S p n
  pub of_waits : (n : ℕ) (w : Wait) → wait T n ≡ Some w → wait S n ≡ Some w
  pub of_pending : (x : ℕ) → pending T x ≤ most_pending

pub sound-beside : (S T : State) → IsSound S → Beside S T → IsSound T
sound-beside S T sound b =
    let keeps : KeepsObjects S T = (λ x o h. (o, b.of_objects x ∙ h, kept_itself o)) in
    sound-grown S T sound (record {
      of_rows = b.of_rows;
      of_koids = let e : next_koid T ≡ next_koid S = ap (λ (c : Counters). c.next_koid) b.of_counters in omega arith;
      of_numbers = let e : (counters T).next_wait ≡ (counters S).next_wait = ap (λ (c : Counters). c.next_wait) b.of_counters in omega arith;
      of_objects = keeps;
      new_objects = λ x o h. inl (sym (b.of_objects x) ∙ h);
      new_entries = λ p h held e. inl (sym (b.of_entries p h) ∙ e);
      new_messages = λ e n m h. elim (b.new_messages e n m h) [ inl f ↦ inl f | inr s ↦ inr (message-kept S T keeps e n m s) ];
      new_packets = λ p n k h. elim (b.new_packets p n k h) [ inl f ↦ inl f | inr s ↦ inr (packet-kept S T keeps p n s) ];
      new_waits = λ n w h. inl (b.of_waits n w h, λ held e. b.of_entries w.process w.handle ∙ e);
      of_pending = b.of_pending;
      new_depths = λ x o h job. inl (exists-some S x o (sym (b.of_objects x) ∙ h));
      new_criticals = λ x o h. inl (o, sym (b.of_objects x) ∙ h, refl);
    })

-- ---- a message

module _ (S : State) (e n : ℕ) (new : Option MessageContent) where
  abbrev queued_anew : State
  queued_anew = put S (key.Msg e n) (option_map rows.Msg new)

  -- a message that is put, or goes, leaves every object as it is
  pub object-message : (x : ℕ) → object (put S (key.Msg e n) (option_map rows.Msg new)) x ≡ object S x
  object-message x = ap as_object (row-put S (key.Msg e n) (option_map rows.Msg new) (key.Object x))

  pub counters-message : counters (put S (key.Msg e n) (option_map rows.Msg new)) ≡ counters S
  counters-message = ap as_counters (row-put S (key.Msg e n) (option_map rows.Msg new) key.Counters)

  as-message : (r : Option MessageContent) → as_message (option_map rows.Msg r) ≡ r
  as-message (Some m) = refl
  as-message None = refl

  message-message : (f m : ℕ) → message queued_anew f m ≡ cond ((f == e) && (m == n)) new (message S f m)
  message-message f m =
      ap as_message (row-put S (key.Msg e n) (option_map rows.Msg new) (key.Msg f m))
      ∙ chosen as_message ((f == e) && (m == n)) (option_map rows.Msg new) (row S (key.Msg f m))
      ∙ ap (λ r. cond ((f == e) && (m == n)) r (message S f m)) (as-message new)

  only-message : (test : RowKey → Row → Bool) (o : Option MessageContent) → ((m : MessageContent) → test (key.Msg e n) (rows.Msg m) ≡ false) → (r : Row) → option_map rows.Msg o ≡ Some r → test (key.Msg e n) r ≡ false
  only-message test (Some m) h r q = subst (λ z. test (key.Msg e n) z ≡ false) (some_one _ r q) (h m)
  only-message test None h r q = cc

  -- no row of another kind more passes
  pub count-message : (test : RowKey → Row → Bool) → ((m : MessageContent) → test (key.Msg e n) (rows.Msg m) ≡ false) → count_row test (put S (key.Msg e n) (option_map rows.Msg new)) ≤ count_row test S
  count-message test h = count_row-put-any test S (key.Msg e n) (option_map rows.Msg new) (only-message test new h)

  suits-message : (o : Option MessageContent) (r : Row) → option_map rows.Msg o ≡ Some r → suits (key.Msg e n) r ≡ true
  suits-message (Some m) r q = subst (λ z. suits (key.Msg e n) z ≡ true) (some_one _ r q) refl
  suits-message None r q = cc

  beside-message : IsSound S → ((m : MessageContent) → new ≡ Some m → SoundMessage S e n m) → Beside S queued_anew
  beside-message sound fits = record {
    of_rows = typed-put S sound.typed (key.Msg e n) (option_map rows.Msg new) (suits-message new);
    of_objects = object-message;
    of_counters = counters-message;
    of_entries = λ p h. ap as_entry (row-put S (key.Msg e n) (option_map rows.Msg new) (key.Entry p h));
    new_messages = λ f l m h. elim ((f == e) && (l == n)) as (λ b. ((f == e) && (l == n)) ≡ b → cond b new (message S f l) ≡ Some m → (message S f l ≡ Some m) ⊎ SoundMessage S f l m) [
      | true ↦ λ t g.
          let owner : f ≡ e = eqb-true f e (and_left (f == e) _ t) in
          let number : l ≡ n = eqb-true l n (and_right (f == e) _ t) in
          inr (subst (λ z. SoundMessage S z l m) (sym owner) (subst (λ z. SoundMessage S e z m) (sym number) (fits m g)))
      | false ↦ λ t g. inl g
    ] refl (sym (message-message f l) ∙ h);
    new_packets = λ p l k h. inl (sym (ap as_packet (row-put S (key.Msg e n) (option_map rows.Msg new) (key.Packet p l))) ∙ h);
    of_waits = λ l w h. sym (ap as_wait (row-put S (key.Msg e n) (option_map rows.Msg new) (key.Wait l))) ∙ h;
    of_pending = λ x.
        let a : pending queued_anew x ≤ pending S x = count-message (is_user_packet_of x) (λ m. refl) in
        let c : pending S x ≤ most_pending = sound.ports x in
        omega arith;
  }

  -- a message that is sound at its place may be put, and any may go
  pub sound-message : IsSound S → ((m : MessageContent) → new ≡ Some m → SoundMessage S e n m) → IsSound (put S (key.Msg e n) (option_map rows.Msg new))
  sound-message sound fits = sound-beside S queued_anew sound (beside-message sound fits)
