-- A new process or job under a live job, also with its first handle, leaves a sound state sound.
use Rattle.std.proofs.Common.{◌≡◌, ◌≤◌, ◌<◌, ℕ, suc, ◌+◌, ◌*◌, ◌-◌, true, false, cond, ◌&&◌, List, ◌∷◌, ◌⊎◌, inl, inr, length, refl, sym, ap, ◌∙◌, subst, arith}
use Rattle.std.specs.Prelude.{Some, ◌==◌}
use Rattle.std.specs.Int.Bits.{and_zero_l}
use Rattle.std.proofs.lemmas.Bool.{eqb-true}
use Rattle.std.proofs.lemmas.Bool.Decides.{nat_tests}
use Rattle.zt_bits.specs.declared.kinds.Kind.{Kind}
use Rattle.zt_bits.specs.declared.kinds.Kind.TheVariants as kind
use Rattle.zt_rows.specs.declared.keys.RowKey.TheVariants as key
use Rattle.zt_rows.specs.declared.rows.Counters.{Counters}
use Rattle.zt_rows.specs.declared.rows.Held.{Held}
use Rattle.zt_rows.specs.declared.rows.ObjectRow.{ObjectRow}
use Rattle.zt_rows.specs.declared.rows.Row.TheVariants as rows
use Rattle.zt_rows.specs.State.{State, row, put}
use Rattle.zt_rows.specs.Reads.{as_counters, as_object, as_entry, as_message, as_packet, as_wait, counters, object, entry, is_live_process, is_live_job, has_live_process}
use Rattle.zt_rows.specs.Tests.{exists, link_at, next_at, object_link, object_next, is_task as is_task_kind, is_endpoint}
use Rattle.zt_rows.specs.Room.{suits}
use Rattle.zt_rows.specs.Support.{root_job}
use Rattle.zt_rows.specs.PortCalls.{is_user_packet_of, pending, most_pending}
use Rattle.zt_rows.specs.JobCalls.{most_depth}
use Rattle.zt_rows.specs.End.{links, chain, depth}
use Rattle.zt_rows.specs.Handles.{value_of, install, whole, fresh, next_koid, make}
use Rattle.zt_rows.specs.Consistent.{has_parent, possible_signals, SoundObject, SoundEntry, IsSound}
use Rattle.zt_rows.proofs.StateLaws.{row-put}
use Rattle.zt_rows.proofs.RowLaws.{true≢false, or_left, and_left, and_right, count_row-put-out}
use Rattle.zt_rows.proofs.ReadLaws.{some_one, exists-some, some-exists, typed-put, chosen}
use Rattle.zt_rows.proofs.SoundLaws.{some-has_live_process, has_live_process-some, same_links, sound-above}
use Rattle.zt_rows.proofs.GrownLaws.{KeepsObjects, Grown, kept_itself, links-kept, exists-kept, sound-grown, sound-install}
use Rattle.zt_rows.proofs.MakeLaws.{fresh-koid, entry-made, koids-made, object-made, others-made, sound-make, may_be-live}
use Rattle.zt_rows.proofs.ChainLaws.{chain-from, links-chain}
use Rattle.zt_rows.proofs.GivenLaws.{Spends, spends-spends, spends-entry, spends-make_given, spends-make, spends-install}

-- ---- a new task

not_endpoint : (k : Kind) → is_task_kind k ≡ true → is_endpoint k ≡ false
not_endpoint kind.Channel e = cc
not_endpoint kind.EventPair e = cc
not_endpoint kind.Job e = refl
not_endpoint kind.Process e = refl
not_endpoint kind.Event e = refl
not_endpoint kind.Port e = refl

-- a live task under a job, that gave out so many numbers
abbrev pub new_task : Kind → ℕ → ℕ → ObjectRow
new_task k l n = record (fresh k l) { next = n }

below_parent : (x l n : ℕ) (k : Kind) → is_task_kind k ≡ true → root_job < x → has_parent x (new_task k l n) ≡ true
below_parent x l n kind.Process e above = refl
below_parent x l n kind.Job e above = grind (arith, nat_tests)
below_parent x l n kind.Channel e above = cc
below_parent x l n kind.Event e above = cc
below_parent x l n kind.EventPair e above = cc
below_parent x l n kind.Port e above = cc

module _ (S : State) (sound : IsSound S) (l : ℕ) (job : ObjectRow) (there : object S l ≡ Some job) (live : is_live_job job ≡ true) (k : Kind) (task : is_task_kind k ≡ true) (n : ℕ) where
  abbrev spawned : State
  spawned = make (counters S) (new_task k l n) S

  keeps-spawned : KeepsObjects S spawned
  keeps-spawned x o h = (o, others-made S sound (new_task k l n) x o h, kept_itself o)

  parent-low : root_job ≤ l
  parent-low = (sound.of_objects l job there).low

  parent-high : l < next_koid S
  parent-high = (sound.of_objects l job there).high

  sound-new_task : SoundObject spawned (next_koid S) (new_task k l n)
  sound-new_task =
      let koids : next_koid spawned ≡ next_koid S + 1 = koids-made S sound (new_task k l n) in
      let low : root_job ≤ l = parent-low in
      let high : l < next_koid S = parent-high in
      record {
        low = omega arith;
        high = omega arith;
        peers = λ e. absurd (true≢false (is_endpoint k) e (not_endpoint k task));
        parents = λ e. record { parent = job; there = others-made S sound (new_task k l n) l job there; live = live; smaller = parent-high };
        alone = λ e f. absurd (true≢false (has_parent (next_koid S) (new_task k l n)) (below_parent (next_koid S) l n k task (omega arith)) f);
        lives = may_be-live k;
        signals = and_zero_l (4294967295 - possible_signals k);
      }

  -- it has one job more above it than its parent
  depth-spawned : depth spawned (next_koid S) ≡ depth S l + 1
  depth-spawned =
      let low : root_job ≤ l = parent-low in
      let link : link_at spawned (next_koid S) ≡ l = ap object_link (object-made S sound (new_task k l n)) in
      let same : links (next_koid S) S l ≡ links (next_koid S) spawned l = same_links S spawned (sound-above S sound.of_objects) (links-kept S spawned keeps-spawned) (next_koid S) l job there (or_left _ _ live) in
      let whole : chain spawned (next_koid S) ≡ l ∷ chain S l =
      chain-from spawned (next_koid S) l link (omega arith)
      ∙ ap (λ c. l ∷ c) (sym same ∙ links-chain S sound (next_koid S) l job there (or_left _ _ live) parent-high) in
      let e : depth spawned (next_koid S) ≡ suc (depth S l) = ap (λ (c : List ℕ). length c) whole in
      omega arith

  -- a live process, or a live job that lies not too deep, can be made under a live job
  pub sound-task : (is_live_job (new_task k l n) ≡ true → depth S l < most_depth) → IsSound (make (counters S) (new_task k l n) S)
  sound-task deep = sound-make S sound (new_task k l n) sound-new_task (λ e. let a : depth S l < most_depth = deep e in let b : depth spawned (next_koid S) ≡ depth S l + 1 = depth-spawned in omega arith) refl

-- ---- a first entry

module _ (S : State) (sound : IsSound S) (p h : ℕ) (held : Held) (free : (old : Held) → entry S p h ≡ Some old → ⊥) (owner : has_live_process S p ≡ true) (n : ℕ) (value : h ≡ 4 * n + 3) (given : n < next_at S p) (names : exists S held.koid ≡ true) where
  abbrev handed : State
  handed = put S (key.Entry p h) (Some (rows.Entry held))

  object-handed : (x : ℕ) → object handed x ≡ object S x
  object-handed x = ap as_object (row-put S (key.Entry p h) (Some (rows.Entry held)) (key.Object x))

  counters-handed : counters handed ≡ counters S
  counters-handed = ap as_counters (row-put S (key.Entry p h) (Some (rows.Entry held)) key.Counters)

  entry-handed : (q g : ℕ) → entry handed q g ≡ cond ((q == p) && (g == h)) (Some held) (entry S q g)
  entry-handed q g = ap as_entry (row-put S (key.Entry p h) (Some (rows.Entry held)) (key.Entry q g)) ∙ chosen as_entry ((q == p) && (g == h)) (Some (rows.Entry held)) (row S (key.Entry q g))

  keeps-handed : KeepsObjects S handed
  keeps-handed x o e = (o, object-handed x ∙ e, kept_itself o)

  sound-handed-entry : SoundEntry handed p h held
  sound-handed-entry =
      let w = has_live_process-some S p owner in
      let next : next_at handed p ≡ next_at S p = ap object_next (object-handed p) in
      record {
        owner = some-has_live_process handed p w.0 (object-handed p ∙ w.1) w.2;
        value = (n, value, omega arith);
        names = exists-kept S handed keeps-handed held.koid names;
      }

  new-handed : (q g : ℕ) (other : Held) → entry handed q g ≡ Some other → (entry S q g ≡ Some other) ⊎ SoundEntry handed q g other
  new-handed q g other e =
      elim ((q == p) && (g == h)) as (λ b. ((q == p) && (g == h)) ≡ b → cond b (Some held) (entry S q g) ≡ Some other → (entry S q g ≡ Some other) ⊎ SoundEntry handed q g other) [
        | true ↦ λ t f.
            let process : q ≡ p = eqb-true q p (and_left (q == p) _ t) in
            let handle : g ≡ h = eqb-true g h (and_right (q == p) _ t) in
            inr (subst (λ z. SoundEntry handed z g other) (sym process) (subst (λ z. SoundEntry handed p z other) (sym handle) (subst (λ z. SoundEntry handed p h z) (some_one held other f) sound-handed-entry)))
        | false ↦ λ t f. inl f
      ] refl (sym (entry-handed q g) ∙ e)

  -- every old entry is still there
  entries-handed : (q g : ℕ) (old : Held) → entry S q g ≡ Some old → entry handed q g ≡ Some old
  entries-handed q g old e =
      elim ((q == p) && (g == h)) as (λ b. ((q == p) && (g == h)) ≡ b → entry handed q g ≡ cond b (Some held) (entry S q g) → entry handed q g ≡ Some old) [
        | true ↦ λ t _.
            let process : q ≡ p = eqb-true q p (and_left (q == p) _ t) in
            let handle : g ≡ h = eqb-true g h (and_right (q == p) _ t) in
            absurd (free old (ap (λ z. entry S z h) (sym process) ∙ ap (entry S q) (sym handle) ∙ e))
        | false ↦ λ t f. f ∙ e
      ] refl (entry-handed q g)

  grown-handed : Grown S handed
  grown-handed = record {
    of_rows = typed-put S sound.typed (key.Entry p h) (Some (rows.Entry held)) (λ r e. subst (λ z. suits (key.Entry p h) z ≡ true) (some_one _ r e) refl);
    of_koids = let e : next_koid handed ≡ next_koid S = ap (λ (c : Counters). c.next_koid) counters-handed in omega arith;
    of_numbers = let e : (counters handed).next_wait ≡ (counters S).next_wait = ap (λ (c : Counters). c.next_wait) counters-handed in omega arith;
    of_objects = keeps-handed;
    new_objects = λ x o e. inl (sym (object-handed x) ∙ e);
    new_entries = new-handed;
    new_messages = λ e m c f. inl (sym (ap as_message (row-put S (key.Entry p h) (Some (rows.Entry held)) (key.Msg e m))) ∙ f);
    new_packets = λ e m c f. inl (sym (ap as_packet (row-put S (key.Entry p h) (Some (rows.Entry held)) (key.Packet e m))) ∙ f);
    new_waits = λ m w f. inl (sym (ap as_wait (row-put S (key.Entry p h) (Some (rows.Entry held)) (key.Wait m))) ∙ f, λ old e. entries-handed w.process w.handle old e);
    of_pending = λ x.
        let a : pending handed x ≤ pending S x = count_row-put-out (is_user_packet_of x) S (key.Entry p h) (rows.Entry held) refl in
        let c : pending S x ≤ most_pending = sound.ports x in
        omega arith;
    new_depths = λ x o f job. inl (exists-some S x o (sym (object-handed x) ∙ f));
    new_criticals = λ x o f. inl (o, sym (object-handed x) ∙ f, refl);
  }

  -- a process that runs may hold what exists by a value that it was given and that it does not hold
  pub sound-hand : IsSound (put S (key.Entry p h) (Some (rows.Entry held)))
  sound-hand = sound-grown S handed sound grown-handed

-- ---- a process with its first handle or none

module _ (S : State) (sound : IsSound S) (p : ℕ) (me : ObjectRow) (here : object S p ≡ Some me) (live : is_live_process me ≡ true) (l : ℕ) (job : ObjectRow) (there : object S l ≡ Some job) (lives : is_live_job job ≡ true) where
  -- ---- none

  abbrev bare : State
  bare = make (counters S) (new_task kind.Process l 0) S

  pub sound-spawn_bare : IsSound (install p me (whole (next_koid S) kind.Process) (make (counters S) (new_task kind.Process l 0) S))
  sound-spawn_bare =
      let made : IsSound bare = sound-task S sound l job there lives kind.Process refl 0 (λ e. cc) in
      let new : exists bare (next_koid S) ≡ true = exists-some bare (next_koid S) (new_task kind.Process l 0) (object-made S sound (new_task kind.Process l 0)) in
      sound-install bare made p me (others-made S sound (new_task kind.Process l 0) p me here) live (whole (next_koid S) kind.Process) new

  pub spends-spawn_bare : Spends 1 1 0 S (install p me (whole (next_koid S) kind.Process) (make (counters S) (new_task kind.Process l 0) S))
  spends-spawn_bare =
      spends-spends 1 0 0 0 1 0 S bare (install p me (whole (next_koid S) kind.Process) bare) (spends-make S sound (new_task kind.Process l 0) refl)
      (spends-install bare p me (whole (next_koid S) kind.Process) (others-made S sound (new_task kind.Process l 0) p me here) live)

  -- ---- a handle to what exists

  module _ (held : Held) (names : exists S held.koid ≡ true) where
    abbrev receiver : ObjectRow
    receiver = new_task kind.Process l 1

    abbrev ready : State
    ready = make (counters S) receiver S

    abbrev supplied : State
    supplied = put ready (key.Entry (next_koid S) (value_of 0)) (Some (rows.Entry held))

    ready-there : object ready (next_koid S) ≡ Some receiver
    ready-there = object-made S sound receiver

    supplied-is : (x : ℕ) (o : ObjectRow) → object ready x ≡ Some o → object supplied x ≡ Some o
    supplied-is x o e = ap as_object (row-put ready (key.Entry (next_koid S) (value_of 0)) (Some (rows.Entry held)) (key.Object x)) ∙ e

    -- a process that is not there yet holds nothing
    nothing-yet : (h : ℕ) (old : Held) → entry ready (next_koid S) h ≡ Some old → ⊥
    nothing-yet h old e =
        let w = has_live_process-some S (next_koid S) (sound.of_entries (next_koid S) h old (sym (entry-made S sound receiver (next_koid S) h) ∙ e)).owner in
        fresh-koid S sound w.0 w.1

    sound-supplied : IsSound supplied
    sound-supplied =
        let made : IsSound ready = sound-task S sound l job there lives kind.Process refl 1 (λ e. cc) in
        let next : next_at ready (next_koid S) ≡ 1 = ap object_next ready-there in
        let named = some-exists S held.koid names in
        sound-hand ready made (next_koid S) (value_of 0) held (nothing-yet (value_of 0)) (some-has_live_process ready (next_koid S) receiver ready-there refl) 0 refl (omega arith)
        (exists-some ready held.koid named.0 (others-made S sound receiver held.koid named.0 named.1))

    pub sound-spawn_given : IsSound (install p me (whole (next_koid S) kind.Process) (put (make (counters S) (new_task kind.Process l 1) S) (key.Entry (next_koid S) (value_of 0)) (Some (rows.Entry held))))
    sound-spawn_given =
        sound-install supplied sound-supplied p me (supplied-is p me (others-made S sound receiver p me here)) live (whole (next_koid S) kind.Process)
        (exists-some supplied (next_koid S) receiver (supplied-is (next_koid S) receiver ready-there))

    pub spends-spawn_given : Spends 1 2 0 S (install p me (whole (next_koid S) kind.Process) (put (make (counters S) (new_task kind.Process l 1) S) (key.Entry (next_koid S) (value_of 0)) (Some (rows.Entry held))))
    spends-spawn_given =
        spends-spends 1 1 0 0 1 0 S supplied (install p me (whole (next_koid S) kind.Process) supplied)
        (spends-spends 1 1 0 0 0 0 S ready supplied (spends-make_given S sound 1 receiver (omega arith)) (spends-entry ready (next_koid S) (value_of 0) held))
        (spends-install supplied p me (whole (next_koid S) kind.Process) (supplied-is p me (others-made S sound receiver p me here)) live)
