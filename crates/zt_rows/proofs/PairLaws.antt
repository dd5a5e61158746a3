-- Two new objects at the next two koids, each the other's peer, leave a sound state sound.
use Rattle.std.proofs.Common.{◌≡◌, ◌≢◌, ◌≤◌, ◌<◌, ℕ, ◌+◌, ◌-◌, true, false, cond, ◌⊎◌, inl, inr, refl, sym, ap, ◌∙◌, subst, arith}
use Rattle.std.specs.Prelude.{Some, ◌==◌}
use Rattle.std.specs.Int.Bits.{and_zero_l}
use Rattle.std.proofs.lemmas.Bool.{eqb-true, eq-eqb}
use Rattle.std.proofs.lemmas.Bool.Decides.{nat_tests}
use Rattle.zt_bits.specs.declared.kinds.Kind.{Kind}
use Rattle.zt_rows.specs.declared.keys.RowKey.TheVariants as key
use Rattle.zt_rows.specs.declared.rows.Counters.{Counters}
use Rattle.zt_rows.specs.declared.rows.ObjectRow.{ObjectRow}
use Rattle.zt_rows.specs.declared.rows.Row.TheVariants as rows
use Rattle.zt_rows.specs.State.{State, put}
use Rattle.zt_rows.specs.Reads.{as_counters, as_object, as_entry, as_message, as_packet, as_wait, counters, object, entry, message, packet, wait, is_live_job}
use Rattle.zt_rows.specs.Tests.{exists, is_endpoint}
use Rattle.zt_rows.specs.Room.{suits}
use Rattle.zt_rows.specs.Support.{root_job}
use Rattle.zt_rows.specs.PortCalls.{is_user_packet_of, pending, most_pending}
use Rattle.zt_rows.specs.Handles.{fresh, next_koid, make_pair}
use Rattle.zt_rows.specs.Consistent.{possible_signals, SoundObject, IsSound}
use Rattle.zt_rows.proofs.StateLaws.{row-put}
use Rattle.zt_rows.proofs.RowLaws.{true≢false, or_left, count_row-put-out}
use Rattle.zt_rows.proofs.ReadLaws.{some_one, exists-some, object-put, typed-put}
use Rattle.zt_rows.proofs.SoundLaws.{task-not-endpoint, has_parent-not-endpoint}
use Rattle.zt_rows.proofs.GrownLaws.{KeepsObjects, CriticalAsIn, Grown, kept_itself, sound-grown}
use Rattle.zt_rows.proofs.MakeLaws.{koid-low, may_be-live}

module _ (S : State) (sound : IsSound S) (made : Kind) (ends : is_endpoint made ≡ true) where
  abbrev near : ℕ
  near = next_koid S

  abbrev far : ℕ
  far = near + 1

  abbrev with_near : State
  with_near = put S (key.Object near) (Some (rows.Object (fresh made far)))

  abbrev with_both : State
  with_both = put with_near (key.Object far) (Some (rows.Object (fresh made near)))

  abbrev new_counters : Counters
  new_counters = record (counters S) { next_koid = near + 2 }

  abbrev paired : State
  paired = make_pair (counters S) made S

  -- ---- what stands under each key

  object-paired : (x : ℕ) → object paired x ≡ cond (x == far) (Some (fresh made near)) (cond (x == near) (Some (fresh made far)) (object S x))
  object-paired x =
      ap as_object (row-put with_both key.Counters (Some (rows.Counters new_counters)) (key.Object x))
      ∙ object-put with_near far (Some (rows.Object (fresh made near))) x
      ∙ ap (cond (x == far) (Some (fresh made near))) (object-put S near (Some (rows.Object (fresh made far))) x)

  counters-paired : counters paired ≡ new_counters
  counters-paired = ap as_counters (row-put with_both key.Counters (Some (rows.Counters new_counters)) key.Counters)

  koids-paired : next_koid paired ≡ near + 2
  koids-paired = ap (λ (c : Counters). c.next_koid) counters-paired

  entry-paired : (p h : ℕ) → entry paired p h ≡ entry S p h
  entry-paired p h = ap as_entry (row-put with_both key.Counters (Some (rows.Counters new_counters)) (key.Entry p h) ∙ row-put with_near (key.Object far) (Some (rows.Object (fresh made near))) (key.Entry p h) ∙ row-put S (key.Object near) (Some (rows.Object (fresh made far))) (key.Entry p h))

  message-paired : (e n : ℕ) → message paired e n ≡ message S e n
  message-paired e n = ap as_message (row-put with_both key.Counters (Some (rows.Counters new_counters)) (key.Msg e n) ∙ row-put with_near (key.Object far) (Some (rows.Object (fresh made near))) (key.Msg e n) ∙ row-put S (key.Object near) (Some (rows.Object (fresh made far))) (key.Msg e n))

  packet-paired : (p n : ℕ) → packet paired p n ≡ packet S p n
  packet-paired p n = ap as_packet (row-put with_both key.Counters (Some (rows.Counters new_counters)) (key.Packet p n) ∙ row-put with_near (key.Object far) (Some (rows.Object (fresh made near))) (key.Packet p n) ∙ row-put S (key.Object near) (Some (rows.Object (fresh made far))) (key.Packet p n))

  wait-paired : (n : ℕ) → wait paired n ≡ wait S n
  wait-paired n = ap as_wait (row-put with_both key.Counters (Some (rows.Counters new_counters)) (key.Wait n) ∙ row-put with_near (key.Object far) (Some (rows.Object (fresh made near))) (key.Wait n) ∙ row-put S (key.Object near) (Some (rows.Object (fresh made far))) (key.Wait n))

  -- ---- both new objects, and the old ones

  apart : (near == far) ≡ false
  apart = grind (arith, nat_tests)

  pub near-there : object (make_pair (counters S) made S) (next_koid S) ≡ Some (fresh made (next_koid S + 1))
  near-there =
      object-paired near
      ∙ ap (λ b. cond b (Some (fresh made near)) (cond (near == near) (Some (fresh made far)) (object S near))) apart
      ∙ ap (λ b. cond b (Some (fresh made far)) (object S near)) (eq-eqb near near refl)

  pub far-there : object (make_pair (counters S) made S) (next_koid S + 1) ≡ Some (fresh made (next_koid S))
  far-there = object-paired far ∙ ap (λ b. cond b (Some (fresh made near)) (cond (far == near) (Some (fresh made far)) (object S far))) (eq-eqb far far refl)

  -- no object stands yet at the next koid or above it
  not_yet : (x : ℕ) (o : ObjectRow) → near ≤ x → object S x ≡ Some o → ⊥
  not_yet x o above h =
      let s : SoundObject S x o = sound.of_objects x o h in
      let a : x < near = s.high in
      omega arith

  -- the objects that were there are as they were
  pub others-paired : (x : ℕ) (o : ObjectRow) → object S x ≡ Some o → object (make_pair (counters S) made S) x ≡ Some o
  others-paired x o h =
      object-paired x
      ∙ elim (x == far) as (λ b. (x == far) ≡ b → cond b (Some (fresh made near)) (cond (x == near) (Some (fresh made far)) (object S x)) ≡ Some o) [
        | true ↦ λ t. let e : x ≡ far = eqb-true x far t in absurd (not_yet x o (omega arith) h)
        | false ↦ λ _. elim (x == near) as (λ b. (x == near) ≡ b → cond b (Some (fresh made far)) (object S x) ≡ Some o) [
          | true ↦ λ t. let e : x ≡ near = eqb-true x near t in absurd (not_yet x o (omega arith) h)
          | false ↦ λ _. h
        ] refl
      ] refl

  keeps-paired : KeepsObjects S paired
  keeps-paired x o h = (o, others-paired x o h, kept_itself o)

  no_job : (l : ℕ) → is_live_job (fresh made l) ≡ true → ⊥
  no_job l e = true≢false (is_endpoint made) ends (task-not-endpoint (fresh made l) (or_left (is_live_job (fresh made l)) _ e))

  -- an end whose peer is there is sound
  sound-end : (x l : ℕ) → near ≤ x → x < near + 2 → l ≢ x → object paired l ≡ Some (fresh made x) → SoundObject paired x (fresh made l)
  sound-end x l low high other there =
      let first : root_job ≤ near = koid-low S sound in
      let koids : next_koid paired ≡ near + 2 = koids-paired in
      record {
        low = omega arith;
        high = omega arith;
        peers = λ _. inr (record { peer = fresh made x; there = there; same_kind = refl; back = refl; apart = other });
        parents = λ e. absurd (true≢false (is_endpoint made) ends (has_parent-not-endpoint x (fresh made l) e));
        alone = λ e f. absurd (true≢false (is_endpoint made) ends e);
        lives = may_be-live made;
        signals = and_zero_l (4294967295 - possible_signals made);
      }

  sound-near : SoundObject paired near (fresh made far)
  sound-near = sound-end near far (omega arith) (omega arith) (λ e. omega arith) far-there

  sound-far : SoundObject paired far (fresh made near)
  sound-far = sound-end far near (omega arith) (omega arith) (λ e. omega arith) near-there

  new-paired : (x : ℕ) (o : ObjectRow) → object paired x ≡ Some o → (object S x ≡ Some o) ⊎ SoundObject paired x o
  new-paired x o h =
      elim (x == far) as (λ b. (x == far) ≡ b → cond b (Some (fresh made near)) (cond (x == near) (Some (fresh made far)) (object S x)) ≡ Some o → (object S x ≡ Some o) ⊎ SoundObject paired x o) [
        | true ↦ λ t e. inr (subst (λ z. SoundObject paired z o) (sym (eqb-true x far t)) (subst (λ z. SoundObject paired far z) (some_one _ o e) sound-far))
        | false ↦ λ _ f. elim (x == near) as (λ b. (x == near) ≡ b → cond b (Some (fresh made far)) (object S x) ≡ Some o → (object S x ≡ Some o) ⊎ SoundObject paired x o) [
          | true ↦ λ t e. inr (subst (λ z. SoundObject paired z o) (sym (eqb-true x near t)) (subst (λ z. SoundObject paired near z) (some_one _ o e) sound-near))
          | false ↦ λ _ e. inl e
        ] refl f
      ] refl (sym (object-paired x) ∙ h)

  -- a job that is there was there
  jobs-paired : (x : ℕ) (o : ObjectRow) → object paired x ≡ Some o → is_live_job o ≡ true → exists S x ≡ true
  jobs-paired x o h job =
      elim (x == far) as (λ b. cond b (Some (fresh made near)) (cond (x == near) (Some (fresh made far)) (object S x)) ≡ Some o → exists S x ≡ true) [
        | true ↦ λ e. absurd (no_job near (ap is_live_job (some_one _ o e) ∙ job))
        | false ↦ λ f. elim (x == near) as (λ b. cond b (Some (fresh made far)) (object S x) ≡ Some o → exists S x ≡ true) [
          | true ↦ λ e. absurd (no_job far (ap is_live_job (some_one _ o e) ∙ job))
          | false ↦ λ e. exists-some S x o e
        ] f
      ] (sym (object-paired x) ∙ h)

  criticals-paired : (x : ℕ) (o : ObjectRow) → object paired x ≡ Some o → CriticalAsIn S paired x o
  criticals-paired x o h =
      elim (x == far) as (λ b. cond b (Some (fresh made near)) (cond (x == near) (Some (fresh made far)) (object S x)) ≡ Some o → CriticalAsIn S paired x o) [
        | true ↦ λ e. inr (inl (ap (λ (z : ObjectRow). z.critical) (sym (some_one _ o e))))
        | false ↦ λ f. elim (x == near) as (λ b. cond b (Some (fresh made far)) (object S x) ≡ Some o → CriticalAsIn S paired x o) [
          | true ↦ λ e. inr (inl (ap (λ (z : ObjectRow). z.critical) (sym (some_one _ o e))))
          | false ↦ λ e. inl (o, e, refl)
        ] f
      ] (sym (object-paired x) ∙ h)

  grown-pair : Grown S paired
  grown-pair = record {
    of_rows = typed-put with_both (typed-put with_near (typed-put S sound.typed (key.Object near) (Some (rows.Object (fresh made far))) (λ r e. subst (λ z. suits (key.Object near) z ≡ true) (some_one _ r e) refl)) (key.Object far) (Some (rows.Object (fresh made near))) (λ r e. subst (λ z. suits (key.Object far) z ≡ true) (some_one _ r e) refl)) key.Counters (Some (rows.Counters new_counters)) (λ r e. subst (λ z. suits key.Counters z ≡ true) (some_one _ r e) refl);
    of_koids = let e : next_koid paired ≡ near + 2 = koids-paired in omega arith;
    of_numbers = let e : (counters paired).next_wait ≡ (counters S).next_wait = ap (λ (c : Counters). c.next_wait) counters-paired in omega arith;
    of_objects = keeps-paired;
    new_objects = new-paired;
    new_entries = λ p h held e. inl (sym (entry-paired p h) ∙ e);
    new_messages = λ e n m h. inl (sym (message-paired e n) ∙ h);
    new_packets = λ p n k h. inl (sym (packet-paired p n) ∙ h);
    new_waits = λ n w h. inl (sym (wait-paired n) ∙ h, λ held e. entry-paired w.process w.handle ∙ e);
    of_pending = λ x.
        let a : pending paired x ≤ pending with_both x = count_row-put-out (is_user_packet_of x) with_both key.Counters (rows.Counters new_counters) refl in
        let b : pending with_both x ≤ pending with_near x = count_row-put-out (is_user_packet_of x) with_near (key.Object far) (rows.Object (fresh made near)) refl in
        let c : pending with_near x ≤ pending S x = count_row-put-out (is_user_packet_of x) S (key.Object near) (rows.Object (fresh made far)) refl in
        let d : pending S x ≤ most_pending = sound.ports x in
        omega arith;
    new_depths = λ x o h job. inl (jobs-paired x o h job);
    new_criticals = criticals-paired;
  }

  -- two ends of a channel or of a pair of events can be made
  pub sound-make_pair : IsSound (make_pair (counters S) made S)
  sound-make_pair = sound-grown S paired sound grown-pair
