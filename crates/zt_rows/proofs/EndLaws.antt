-- A set of live processes and jobs that ends leaves a sound state sound where no live process or job is left under
-- a job that ended; what ends with a job is such a set.
use Rattle.std.proofs.Common.{◌≡◌, ◌≤◌, ◌<◌, ℕ, ◌+◌, Bool, true, false, cond, ◌&&◌, ◌||◌, inl, inr, refl, sym, ap, ◌∙◌, subst, arith}
use Rattle.std.specs.Prelude.{Option, None, Some, option_and_then, is_some, if◌then◌else◌, ◌==◌}
use Rattle.std.specs.Option.{option_map}
use Rattle.std.proofs.lemmas.Bool.{eqb-true}
use Rattle.zt_bits.specs.declared.kinds.Kind.{Kind}
use Rattle.zt_bits.specs.declared.kinds.Kind.TheVariants as kind
use Rattle.zt_rows.specs.declared.keys.RowKey.{RowKey}
use Rattle.zt_rows.specs.declared.keys.RowKey.TheVariants as key
use Rattle.zt_rows.specs.declared.rows.Counters.{Counters}
use Rattle.zt_rows.specs.declared.rows.Held.{Held}
use Rattle.zt_rows.specs.declared.rows.Life.{Life}
use Rattle.zt_rows.specs.declared.rows.ObjectRow.{ObjectRow}
use Rattle.zt_rows.specs.declared.rows.Packet.{Packet}
use Rattle.zt_rows.specs.declared.rows.Wait.{Wait}
use Rattle.zt_rows.specs.declared.rows.Row.{Row}
use Rattle.zt_rows.specs.declared.rows.Row.TheVariants as rows
use Rattle.zt_rows.specs.Contents.{MessageContent}
use Rattle.zt_rows.specs.State.{State, row}
use Rattle.zt_rows.specs.Reads.{as_counters, as_object, as_entry, as_message, as_packet, as_wait, counters, object, entry, message, packet, wait, is_live, is_job, is_process, is_live_process, is_live_job, has_live_process}
use Rattle.zt_rows.specs.Tests.{exists, kind_at, next_at, object_link, object_next, is_endpoint, count_row}
use Rattle.zt_rows.specs.Room.{suits, is_wait}
use Rattle.zt_rows.specs.Support.{root_job}
use Rattle.zt_rows.specs.PortCalls.{is_user_packet_of, pending, most_pending}
use Rattle.zt_rows.specs.JobCalls.{most_depth}
use Rattle.zt_rows.specs.Handles.{next_koid}
use Rattle.zt_rows.specs.End.{depth, left_by, end}
use Rattle.zt_rows.specs.Consistent.{IsPeer, IsChild, has_parent, may_be, SoundObject, SoundCritical, SoundEntry, SoundMessage, SoundPacket, SoundWait, IsSound}
use Rattle.zt_rows.proofs.StateLaws.{row-change}
use Rattle.zt_rows.proofs.RowLaws.{or_left, or_right, true≢false, not_true, count_row-change}
use Rattle.zt_rows.proofs.ReadLaws.{some_one, only_if, none_either, if_none}
use Rattle.zt_rows.proofs.SoundLaws.{is_running_task, task-not-endpoint, process-not-job, has_parent-task, has_live_process-some, some-has_live_process, all_map, SameLinks, same_chain, same_depth, same_critical, sound-above, changed-suits}
use Rattle.zt_rows.proofs.GivenLaws.{growth, OfKind, as_it_was, Spends}

module _ (ending : ℕ → Bool) (how : Life) where
  -- ---- what stands under each key

  -- the row of a process or job, which ends if it is of the set
  abbrev pub ended : ℕ → ObjectRow → ObjectRow
  ended x o = record o { link = if ending x then 0 else o.link; life = if ending x then how else o.life; critical = if ending x then 0 else o.critical }

  -- what has ended is not live
  pub not_live_after : is_live how ≡ false → (x : ℕ) (o : ObjectRow) → ending x ≡ true → is_running_task (ended x o) ≡ false
  not_live_after over x o t =
      let dead : is_live (ended x o).life ≡ false = ap (λ b. is_live (if b then how else o.life)) t ∙ over in
      (λ i. (is_job o.kind && dead i) || (is_process o.kind && dead i)) ∙ neither (is_job o.kind) (is_process o.kind)
    where
      neither : (a b : Bool) → ((a && false) || (b && false)) ≡ false
      neither true true = refl
      neither true false = refl
      neither false true = refl
      neither false false = refl

  object-left : (x : ℕ) (r : Option Row) → as_object (option_and_then (left_by ending how (key.Object x)) r) ≡ option_map (ended x) (as_object r)
  object-left x (Some (rows.Object o)) = refl
  object-left x None = refl
  object-left x _ = refl

  counters-left : (r : Option Row) → as_counters (option_and_then (left_by ending how key.Counters) r) ≡ as_counters r
  counters-left (Some r) = refl
  counters-left None = refl

  message-left : (e n : ℕ) (r : Option Row) → as_message (option_and_then (left_by ending how (key.Msg e n)) r) ≡ as_message r
  message-left e n (Some r) = refl
  message-left e n None = refl

  packet-left : (e n : ℕ) (r : Option Row) → as_packet (option_and_then (left_by ending how (key.Packet e n)) r) ≡ as_packet r
  packet-left e n (Some r) = refl
  packet-left e n None = refl

  entry-left : (p h : ℕ) (r : Option Row) → as_entry (option_and_then (left_by ending how (key.Entry p h)) r) ≡ cond (ending p) None (as_entry r)
  entry-left p h (Some (rows.Entry held)) = elim (ending p) as (λ b. as_entry (if b then None else Some (rows.Entry held)) ≡ cond b None (Some held)) [ true ↦ refl | false ↦ refl ]
  entry-left p h None = none_either (ending p)
  entry-left p h _ = none_either (ending p)

  abbrev staying : Wait → Option Wait
  staying w = if ending w.process then None else Some w

  wait-left : (n : ℕ) (r : Option Row) → as_wait (option_and_then (left_by ending how (key.Wait n)) r) ≡ option_and_then staying (as_wait r)
  wait-left n (Some (rows.Wait w)) = elim (ending w.process) as (λ b. as_wait (if b then None else Some (rows.Wait w)) ≡ (if b then None else Some w)) [ true ↦ refl | false ↦ refl ]
  wait-left n None = refl
  wait-left n _ = refl

  left-suits : (k : RowKey) (r s : Row) → left_by ending how k r ≡ Some s → suits k r ≡ true → suits k s ≡ true
  left-suits (key.Object x) (rows.Object o) s e f = subst (λ z. suits (key.Object x) z ≡ true) (some_one _ s e) refl
  left-suits (key.Entry p h) (rows.Entry held) s e f = subst (λ z. suits (key.Entry p h) z ≡ true) (if_none (ending p) _ s e).1 refl
  left-suits (key.Wait n) (rows.Wait w) s e f = subst (λ z. suits (key.Wait n) z ≡ true) (if_none (ending w.process) _ s e).1 refl
  left-suits k r s e f = subst (λ z. suits k z ≡ true) (some_one r s e) f

  left-user : (x : ℕ) (k : RowKey) (r s : Row) → left_by ending how k r ≡ Some s → is_user_packet_of x k s ≡ true → is_user_packet_of x k r ≡ true
  left-user x (key.Packet p n) r s e h = subst (λ z. is_user_packet_of x (key.Packet p n) z ≡ true) (sym (some_one r s e)) h
  left-user x _ r s e h = cc

  module _ (S : State) where
    abbrev rest : State
    rest = end S ending how

    row-end : (k : RowKey) → row rest k ≡ option_and_then (left_by ending how k) (row S k)
    unfolding end
    row-end k = row-change (left_by ending how) S k

    pub object-end : (x : ℕ) → object (end S ending how) x ≡ option_map (ended x) (object S x)
    object-end x = ap as_object (row-end (key.Object x)) ∙ object-left x (row S (key.Object x))

    pub counters-end : counters (end S ending how) ≡ counters S
    counters-end = ap as_counters (row-end key.Counters) ∙ counters-left (row S key.Counters)

    message-end : (e n : ℕ) → message rest e n ≡ message S e n
    message-end e n = ap as_message (row-end (key.Msg e n)) ∙ message-left e n (row S (key.Msg e n))

    packet-end : (e n : ℕ) → packet rest e n ≡ packet S e n
    packet-end e n = ap as_packet (row-end (key.Packet e n)) ∙ packet-left e n (row S (key.Packet e n))

    entry-end : (p h : ℕ) → entry rest p h ≡ cond (ending p) None (entry S p h)
    entry-end p h = ap as_entry (row-end (key.Entry p h)) ∙ entry-left p h (row S (key.Entry p h))

    wait-end : (n : ℕ) → wait rest n ≡ option_and_then staying (wait S n)
    wait-end n = ap as_wait (row-end (key.Wait n)) ∙ wait-left n (row S (key.Wait n))

    pending-end : (x : ℕ) → pending rest x ≤ pending S x
    unfolding end
    pending-end x = count_row-change (is_user_packet_of x) (left_by ending how) (left-user x) S

    left-wait : (k : RowKey) (r s : Row) → left_by ending how k r ≡ Some s → is_wait k s ≡ true → is_wait k r ≡ true
    left-wait (key.Wait n) (rows.Wait w) s e h = refl
    left-wait (key.Wait n) r s e h = subst (λ z. is_wait (key.Wait n) z ≡ true) (sym (some_one r s e)) h
    left-wait _ r s e h = cc

    waiting-end : count_row is_wait rest ≤ count_row is_wait S
    unfolding end
    waiting-end = count_row-change is_wait (left_by ending how) left-wait S

    -- ---- what is kept

    -- an object that is there was there
    pub ended-was : (x : ℕ) (o : ObjectRow) → object (end S ending how) x ≡ Some o → (q : ObjectRow) × (object S x ≡ Some q) × (o ≡ ended x q)
    ended-was x o e = of_map (object S x) (sym (object-end x) ∙ e)
      where
        of_map : (r : Option ObjectRow) → option_map (ended x) r ≡ Some o → (q : ObjectRow) × (r ≡ Some q) × (o ≡ ended x q)
        of_map (Some q) f = (q, refl, cc)
        of_map None f = cc

    -- one outside the set is as it was
    pub outside-is : (x : ℕ) (o : ObjectRow) → ending x ≡ false → ended x o ≡ o
    outside-is x o out = ap (λ b. record o { link = if b then 0 else o.link; life = if b then how else o.life; critical = if b then 0 else o.critical }) out

    stays : (x : ℕ) (o : ObjectRow) → ending x ≡ false → object S x ≡ Some o → object rest x ≡ Some o
    stays x o out e = object-end x ∙ ap (option_map (ended x)) e ∙ ap Some (outside-is x o out)

    kind-end : (x : ℕ) → kind_at rest x ≡ kind_at S x
    kind-end x = ap (option_map (λ (o : ObjectRow). o.kind)) (object-end x) ∙ of_map (object S x)
      where
        of_map : (r : Option ObjectRow) → option_map (λ (o : ObjectRow). o.kind) (option_map (ended x) r) ≡ option_map (λ (o : ObjectRow). o.kind) r
        of_map (Some o) = refl
        of_map None = refl

    next-end : (x : ℕ) → next_at rest x ≡ next_at S x
    next-end x = ap object_next (object-end x) ∙ of_map (object S x)
      where
        of_map : (r : Option ObjectRow) → object_next (option_map (ended x) r) ≡ object_next r
        of_map (Some o) = refl
        of_map None = refl

    exists-end : (x : ℕ) → exists rest x ≡ exists S x
    exists-end x = ap (λ r. is_some r) (object-end x) ∙ of_map (object S x)
      where
        of_map : (r : Option ObjectRow) → is_some (option_map (ended x) r) ≡ is_some r
        of_map (Some o) = refl
        of_map None = refl

    -- a call gives out nothing with it
    pub spends-end : Spends 0 0 0 S (end S ending how)
    spends-end = record {
      koids = let e : next_koid rest ≡ next_koid S = ap (λ (c : Counters). c.next_koid) counters-end in omega arith;
      waits = let e : (counters rest).next_wait ≡ (counters S).next_wait = ap (λ (c : Counters). c.next_wait) counters-end in omega arith;
      waiting = let e : count_row is_wait rest ≤ count_row is_wait S = waiting-end in omega arith;
      still = λ x e. exists-end x ∙ e;
      owners = λ x o e.
          let w = ended-was x o e in
          subst (λ (z : ObjectRow). OfKind (object S x) z.kind × (z.next ≤ next_at S x + growth 0 0 z.kind)) (sym w.2) (as_it_was S 0 0 x w.0 w.1);
    }

    -- ---- a set of tasks with all that is under them

    module _ (sound : IsSound S) (tasks : (x : ℕ) (o : ObjectRow) → object S x ≡ Some o → ending x ≡ true → (is_running_task o ≡ true) × (may_be o.kind how ≡ true)) (down : (x : ℕ) (o : ObjectRow) → object S x ≡ Some o → has_parent x o ≡ true → ending o.link ≡ true → ending x ≡ true) (over : is_live how ≡ false) where
      -- no end of a pair is of the set
      plain : (x : ℕ) (o : ObjectRow) → object S x ≡ Some o → is_endpoint o.kind ≡ true → ending x ≡ false
      plain x o e ends = not_true (ending x) (λ t. true≢false (is_endpoint o.kind) ends (task-not-endpoint o (tasks x o e t).0))

      -- what is live afterwards is outside the set
      live-out : (x : ℕ) (o : ObjectRow) → is_running_task (ended x o) ≡ true → ending x ≡ false
      live-out x o t = not_true (ending x) (λ e. true≢false (is_running_task (ended x o)) t (not_live_after over x o e))

      peer-end : (x : ℕ) (o : ObjectRow) → ending x ≡ false → is_endpoint o.kind ≡ true → IsPeer S x o → IsPeer rest x o
      peer-end x o out ends p = record {
        peer = p.peer;
        there = stays o.link p.peer (plain o.link p.peer p.there (ap is_endpoint p.same_kind ∙ ends)) p.there;
        same_kind = p.same_kind;
        back = p.back;
        apart = p.apart;
      }

      child-end : (x : ℕ) (o : ObjectRow) → object S x ≡ Some o → ending x ≡ false → has_parent x o ≡ true → IsChild rest x o
      child-end x o e out h =
          let c : IsChild S x o = (sound.of_objects x o e).parents h in
          let above : ending o.link ≡ false = not_true (ending o.link) (λ t. true≢false (ending x) (down x o e h t) out) in
          record { parent = c.parent; there = stays o.link c.parent above c.there; live = c.live; smaller = c.smaller }

      -- outside the set an object is as sound
      sound-outside : (x : ℕ) (o : ObjectRow) → object S x ≡ Some o → ending x ≡ false → SoundObject rest x o
      sound-outside x o e out =
          let s : SoundObject S x o = sound.of_objects x o e in
          record {
            low = s.low;
            high = subst (λ (c : Counters). x < c.next_koid) (sym counters-end) s.high;
            peers = λ ends. elim (s.peers ends) [ inl z ↦ inl z | inr p ↦ inr (peer-end x o out ends p) ];
            parents = λ h. child-end x o e out h;
            alone = s.alone;
            lives = s.lives;
            signals = s.signals;
          }

      -- and what ended is sound
      sound-inside : (x : ℕ) (o : ObjectRow) → object S x ≡ Some o → ending x ≡ true → SoundObject rest x (ended x o)
      sound-inside x o e t =
          let s : SoundObject S x o = sound.of_objects x o e in
          record {
            low = s.low;
            high = subst (λ (c : Counters). x < c.next_koid) (sym counters-end) s.high;
            peers = λ ends. absurd (true≢false (ending x) t (plain x o e ends));
            parents = λ h. absurd (true≢false (is_running_task (ended x o)) (has_parent-task x (ended x o) h) (not_live_after over x o t));
            alone = λ a b. ap (λ b. if b then 0 else o.link) t;
            lives = ap (λ b. may_be o.kind (if b then how else o.life)) t ∙ (tasks x o e t).1;
            signals = s.signals;
          }

      objects-end : (x : ℕ) (o : ObjectRow) → object rest x ≡ Some o → SoundObject rest x o
      objects-end x o e =
          let w = ended-was x o e in
          subst (λ z. SoundObject rest x z) (sym w.2)
          (elim (ending x) as (λ b. ending x ≡ b → SoundObject rest x (ended x w.0)) [
            | true ↦ λ t. sound-inside x w.0 w.1 t
            | false ↦ λ out. subst (λ z. SoundObject rest x z) (sym (outside-is x w.0 out)) (sound-outside x w.0 w.1 out)
          ] refl)

      entries-end : (p h : ℕ) (held : Held) → entry rest p h ≡ Some held → SoundEntry rest p h held
      entries-end p h held e =
          let was = only_if (ending p) (entry S p h) held (sym (entry-end p h) ∙ e) in
          let s : SoundEntry S p h held = sound.of_entries p h held was.1 in
          let w = has_live_process-some S p s.owner in
          record {
            owner = some-has_live_process rest p w.0 (stays p w.0 was.0 w.1) w.2;
            value = (s.value.0, s.value.1, subst (λ m. s.value.0 < m) (sym (next-end p)) s.value.2);
            names = exists-end held.koid ∙ s.names;
          }

      messages-end : (e n : ℕ) (m : MessageContent) → message rest e n ≡ Some m → SoundMessage rest e n m
      messages-end e n m h =
          let s : SoundMessage S e n m = sound.of_messages e n m (sym (message-end e n) ∙ h) in
          record {
            owner = kind-end e ∙ s.owner;
            number = subst (λ b. n < b) (sym (next-end e)) s.number;
            names = all_map m.handles (λ held l x. exists-end held.koid ∙ x) s.names;
            within = s.within;
          }

      packets-end : (p n : ℕ) (k : Packet) → packet rest p n ≡ Some k → SoundPacket rest p n
      packets-end p n k h =
          let s : SoundPacket S p n = sound.of_packets p n k (sym (packet-end p n) ∙ h) in
          record { owner = kind-end p ∙ s.owner; number = subst (λ b. n < b) (sym (next-end p)) s.number }

      -- a wait that is left was there, and was not made by what ended
      wait-was : (n : ℕ) (w : Wait) → wait rest n ≡ Some w → (wait S n ≡ Some w) × (ending w.process ≡ false)
      wait-was n w e = of_wait (wait S n) (sym (wait-end n) ∙ e)
        where
          of_wait : (r : Option Wait) → option_and_then staying r ≡ Some w → (r ≡ Some w) × (ending w.process ≡ false)
          of_wait None f = cc
          of_wait (Some v) f = let g = if_none (ending v.process) v w f in (ap Some g.1, ap (λ (z : Wait). ending z.process) (sym g.1) ∙ g.0)

      waits-end : (n : ℕ) (w : Wait) → wait rest n ≡ Some w → SoundWait rest n w
      waits-end n w h =
          let was = wait-was n w h in
          let s : SoundWait S n w = sound.of_waits n w was.0 in
          record {
            number = subst (λ (c : Counters). n < c.next_wait) (sym counters-end) s.number;
            held = s.held;
            there = entry-end w.process w.handle ∙ ap (λ b. cond b None (entry S w.process w.handle)) was.1 ∙ s.there;
            port = kind-end w.port ∙ s.port;
          }

      links-end : SameLinks rest S
      links-end x o e t =
          let w = ended-was x o e in
          let out : ending x ≡ false = live-out x w.0 (ap is_running_task (sym w.2) ∙ t) in
          ap object_link w.1 ∙ sym (ap (λ (q : ObjectRow). q.link) (w.2 ∙ outside-is x w.0 out))

      depths-end : (x : ℕ) (o : ObjectRow) → object rest x ≡ Some o → is_live_job o ≡ true → depth rest x ≤ most_depth
      depths-end x o e job =
          let w = ended-was x o e in
          let out : ending x ≡ false = live-out x w.0 (ap is_running_task (sym w.2) ∙ or_left _ _ job) in
          let is : o ≡ w.0 = w.2 ∙ outside-is x w.0 out in
          let same : depth rest x ≡ depth S x = same_depth rest S (sound-above rest objects-end) links-end x o e (or_left _ _ job) in
          subst (λ d. d ≤ most_depth) (sym same) (sound.depths x w.0 w.1 (ap is_live_job (sym is) ∙ job))

      criticals-end : (x : ℕ) (o : ObjectRow) → object rest x ≡ Some o → SoundCritical rest x o
      criticals-end x o e =
          let w = ended-was x o e in
          elim (ending x) as (λ b. ending x ≡ b → SoundCritical rest x o) [
            | true ↦ λ t. inl (ap (λ (q : ObjectRow). q.critical) w.2 ∙ ap (λ b. if b then 0 else w.0.critical) t)
            | false ↦ λ out.
                let is : o ≡ w.0 = w.2 ∙ outside-is x w.0 out in
                same_critical S rest x w.0 o (ap (λ (q : ObjectRow). q.critical) is) (ap is_live_process is)
                (λ live. same_chain rest S (sound-above rest objects-end) links-end x o e (or_right (is_live_job o) _ (ap is_live_process is ∙ live)))
                (sound.criticals x w.0 w.1)
          ] refl

      -- such a set may end
      pub sound-end : IsSound (end S ending how)
      sound-end = record {
        typed = λ k r e. changed-suits (left_by ending how) k (left-suits k) (row S k) (sound.typed k) r (sym (row-end k) ∙ e);
        root = kind-end root_job ∙ sound.root;
        of_objects = objects-end;
        of_entries = entries-end;
        of_messages = messages-end;
        of_packets = packets-end;
        of_waits = waits-end;
        ports = λ x. let a : pending rest x ≤ pending S x = pending-end x in let b : pending S x ≤ most_pending = sound.ports x in omega arith;
        depths = depths-end;
        criticals = criticals-end;
      }

-- ---- a process alone

-- a live process may end, as nothing is under it
pub sound-end_process : (S : State) → IsSound S → (p : ℕ) → has_live_process S p ≡ true → (how : Life) → is_live how ≡ false → IsSound (end S (λ x. x == p) how)
sound-end_process S sound p live how over =
    let w = has_live_process-some S p live in
    let here : (x : ℕ) (o : ObjectRow) → object S x ≡ Some o → (x == p) ≡ true → o ≡ w.0 = λ x o e t. some_one o w.0 (sym e ∙ ap (object S) (eqb-true x p t) ∙ w.1) in
    sound-end (λ x. x == p) how S sound
    (λ x o e t.
    let same : o ≡ w.0 = here x o e t in
    (ap is_running_task same ∙ or_right (is_live_job w.0) _ w.2, ap (λ (z : ObjectRow). may_be z.kind how) same ∙ any_end w.0.kind (is_live w.0.life) w.2))
    (λ x o e h t.
    let c : IsChild S x o = (sound.of_objects x o e).parents h in
    absurd (process-not-job c.parent (ap is_live_process (here o.link c.parent c.there t) ∙ w.2) c.live))
    over
  where
    any_end : (k : Kind) (lives : Bool) → (is_process k && lives) ≡ true → may_be k how ≡ true
    any_end kind.Process lives e = refl
    any_end kind.Job lives e = cc
    any_end kind.Channel lives e = cc
    any_end kind.Event lives e = cc
    any_end kind.EventPair lives e = cc
    any_end kind.Port lives e = cc
