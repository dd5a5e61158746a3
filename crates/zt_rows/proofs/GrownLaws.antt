-- A state with all the objects of a sound one, each in its shape, and rows that are the old ones or sound: it
-- is sound. What a call puts is shown so: a new object, a new entry, new signals.
use Rattle.std.proofs.Common.{◌≡◌, ◌≤◌, ◌<◌, ℕ, ◌+◌, ◌*◌, true, false, cond, ◌&&◌, ◌||◌, ◌⊎◌, inl, inr, refl, sym, ap, ◌∙◌, subst, arith}
use Rattle.std.specs.Prelude.{Some, ◌==◌}
use Rattle.std.specs.Option.{option_map}
use Rattle.std.proofs.lemmas.Bool.{eqb-true, eq-eqb}
use Rattle.zt_bits.specs.declared.kinds.Kind.{Kind}
use Rattle.zt_bits.specs.declared.kinds.Kind.TheVariants as kind
use Rattle.zt_rows.specs.declared.keys.RowKey.{RowKey}
use Rattle.zt_rows.specs.declared.keys.RowKey.TheVariants as key
use Rattle.zt_rows.specs.declared.rows.Counters.{Counters}
use Rattle.zt_rows.specs.declared.rows.Held.{Held}
use Rattle.zt_rows.specs.declared.rows.ObjectRow.{ObjectRow}
use Rattle.zt_rows.specs.declared.rows.Packet.{Packet}
use Rattle.zt_rows.specs.declared.rows.Wait.{Wait}
use Rattle.zt_rows.specs.declared.rows.Row.{Row}
use Rattle.zt_rows.specs.declared.rows.Row.TheVariants as rows
use Rattle.zt_rows.specs.Contents.{MessageContent}
use Rattle.zt_rows.specs.State.{State, row, put}
use Rattle.zt_rows.specs.Reads.{as_counters, as_object, as_entry, as_message, as_packet, as_wait, counters, object, entry, message, packet, wait, is_live_process, is_live_job, has_live_process}
use Rattle.zt_rows.specs.Tests.{exists, kind_at, next_at, object_link, object_next, is_endpoint, without_bits, raised}
use Rattle.zt_rows.specs.Room.{suits}
use Rattle.zt_rows.specs.Support.{root_job}
use Rattle.zt_rows.specs.PortCalls.{is_user_packet_of, pending, most_pending}
use Rattle.zt_rows.specs.JobCalls.{most_depth}
use Rattle.zt_rows.specs.End.{depth}
use Rattle.zt_rows.specs.Handles.{value_of, install, next_koid}
use Rattle.zt_rows.specs.Consistent.{IsPeer, IsChild, has_parent, may_be, possible_signals, SoundObject, SoundCritical, SoundEntry, SoundMessage, SoundPacket, SoundWait, IsSound}
use Rattle.zt_rows.proofs.StateLaws.{row-put}
use Rattle.zt_rows.proofs.RowLaws.{and_left, and_right, or_right, count_row-put-out}
use Rattle.zt_rows.proofs.ReadLaws.{some_one, exists-some, some-exists, kind_at-some, chosen, object-put, typed-put}
use Rattle.zt_rows.proofs.SoundLaws.{is_running_task, all_map, SameLinks, same_chain, same_depth, same_critical, sound-above, has_live_process-some, some-has_live_process}
use Rattle.zt_rows.proofs.FramedLaws.{shaped}

-- an object but for its signals, its next number and what it is critical to
abbrev pub outline : ObjectRow → ObjectRow
outline o = record (shaped o) { critical = 0 }

-- the object has its outline, and its next number did not fall
pub record Kept (o q : ObjectRow) : Type 0 where
  pub same : outline q ≡ outline o
  pub next : o.next ≤ q.next

pub kept_itself : (o : ObjectRow) → Kept o o
kept_itself o = record { same = refl; next = omega arith }

-- every object of S is kept in T
abbrev pub KeepsObjects : State → State → Type 0
KeepsObjects S T = (x : ℕ) (o : ObjectRow) → object S x ≡ Some o → (q : ObjectRow) × (object T x ≡ Some q) × Kept o q

-- the object is critical to what it was critical to, or soundly
abbrev pub CriticalAsIn : State → State → ℕ → ObjectRow → Type 0
CriticalAsIn S T x o = ((q : ObjectRow) × (object S x ≡ Some q) × (o.critical ≡ q.critical)) ⊎ SoundCritical T x o

-- T has the objects of S, and its rows are those of S or sound
pub record Grown (S T : State) : Type 0 where
  pub of_rows : (k : RowKey) (r : Row) → row T k ≡ Some r → suits k r ≡ true
  pub of_koids : next_koid S ≤ next_koid T
  pub of_numbers : (counters S).next_wait ≤ (counters T).next_wait
  pub of_objects : KeepsObjects S T
  pub new_objects : (x : ℕ) (o : ObjectRow) → object T x ≡ Some o → (object S x ≡ Some o) ⊎ SoundObject T x o
  pub new_entries : (p h : ℕ) (held : Held) → entry T p h ≡ Some held → (entry S p h ≡ Some held) ⊎ SoundEntry T p h held
  pub new_messages : (e n : ℕ) (m : MessageContent) → message T e n ≡ Some m → (message S e n ≡ Some m) ⊎ SoundMessage T e n m
  pub new_packets : (p n : ℕ) (k : Packet) → packet T p n ≡ Some k → (packet S p n ≡ Some k) ⊎ SoundPacket T p n
  pub new_waits : (n : ℕ) (w : Wait) → wait T n ≡ Some w → ((wait S n ≡ Some w) × ((held : Held) → entry S w.process w.handle ≡ Some held → entry T w.process w.handle ≡ Some held)) ⊎ SoundWait T n w
  pub of_pending : (x : ℕ) → pending T x ≤ most_pending
  pub new_depths : (x : ℕ) (o : ObjectRow) → object T x ≡ Some o → is_live_job o ≡ true → (exists S x ≡ true) ⊎ (depth T x ≤ most_depth)
  pub new_criticals : (x : ℕ) (o : ObjectRow) → object T x ≡ Some o → CriticalAsIn S T x o

-- ---- what is kept of objects

module _ (S T : State) (keeps : KeepsObjects S T) where
  pub exists-kept : (x : ℕ) → exists S x ≡ true → exists T x ≡ true
  exists-kept x e = let w = some-exists S x e in let k = keeps x w.0 w.1 in exists-some T x k.0 k.1

  pub kind-kept : (x : ℕ) (made : Kind) → kind_at S x ≡ Some made → kind_at T x ≡ Some made
  kind-kept x made e =
      let w = kind_at-some S x made e in
      let k = keeps x w.0 w.1 in
      ap (option_map (λ (o : ObjectRow). o.kind)) k.1 ∙ ap Some (ap (λ (o : ObjectRow). o.kind) k.2.same ∙ w.2)

  pub next-kept : (x : ℕ) → exists S x ≡ true → next_at S x ≤ next_at T x
  next-kept x e =
      let w = some-exists S x e in
      let k = keeps x w.0 w.1 in
      let a : next_at S x ≡ w.0.next = ap object_next w.1 in
      let b : next_at T x ≡ k.0.next = ap object_next k.1 in
      let c : w.0.next ≤ k.0.next = k.2.next in
      omega arith

  pub has_live_process-kept : (p : ℕ) → has_live_process S p ≡ true → has_live_process T p ≡ true
  has_live_process-kept p e =
      let w = has_live_process-some S p e in
      let k = keeps p w.0 w.1 in
      some-has_live_process T p k.0 k.1 (ap is_live_process k.2.same ∙ w.2)

  pub links-kept : SameLinks S T
  links-kept x o h t = let k = keeps x o h in ap object_link k.1 ∙ ap (λ (q : ObjectRow). q.link) k.2.same

  peer-kept : (x : ℕ) (o q : ObjectRow) → Kept o q → IsPeer S x o → IsPeer T x q
  peer-kept x o q kept p =
      let link : q.link ≡ o.link = ap (λ (z : ObjectRow). z.link) kept.same in
      let k = keeps o.link p.peer p.there in
      record {
        peer = k.0;
        there = ap (object T) link ∙ k.1;
        same_kind = ap (λ (z : ObjectRow). z.kind) k.2.same ∙ p.same_kind ∙ ap (λ (z : ObjectRow). z.kind) (sym kept.same);
        back = ap (λ (z : ObjectRow). z.link) k.2.same ∙ p.back;
        apart = λ h. p.apart (sym link ∙ h);
      }

  child-kept : (x : ℕ) (o q : ObjectRow) → Kept o q → IsChild S x o → IsChild T x q
  child-kept x o q kept c =
      let link : q.link ≡ o.link = ap (λ (z : ObjectRow). z.link) kept.same in
      let k = keeps o.link c.parent c.there in
      record {
        parent = k.0;
        there = ap (object T) link ∙ k.1;
        live = ap is_live_job k.2.same ∙ c.live;
        smaller = subst (λ l. l < x) (sym link) c.smaller;
      }

  -- an object that is kept, with possible signals, is sound
  pub object-kept : next_koid S ≤ next_koid T → (x : ℕ) (o q : ObjectRow) → Kept o q → without_bits q.signals.0 (possible_signals q.kind) ≡ 0 → SoundObject S x o → SoundObject T x q
  object-kept koids x o q kept signals s =
      let e : outline q ≡ outline o = kept.same in
      let link : q.link ≡ o.link = ap (λ (z : ObjectRow). z.link) e in
      let ends : is_endpoint q.kind ≡ is_endpoint o.kind = ap (λ (z : ObjectRow). is_endpoint z.kind) e in
      let parent : has_parent x q ≡ has_parent x o = ap (λ (z : ObjectRow). has_parent x z) e in
      let high : x < next_koid S = s.high in
      record {
        low = s.low;
        high = omega arith;
        peers = λ t. elim (s.peers (sym ends ∙ t)) [ inl z ↦ inl (link ∙ z) | inr p ↦ inr (peer-kept x o q kept p) ];
        parents = λ t. child-kept x o q kept (s.parents (sym parent ∙ t));
        alone = λ a b. link ∙ s.alone (sym ends ∙ a) (sym parent ∙ b);
        lives = ap (λ (z : ObjectRow). may_be z.kind z.life) e ∙ s.lives;
        signals = signals;
      }

  has_live_process-exists : (p : ℕ) → has_live_process S p ≡ true → exists S p ≡ true
  has_live_process-exists p e = let w = has_live_process-some S p e in exists-some S p w.0 w.1

  kind-exists : (p : ℕ) (made : Kind) → kind_at S p ≡ Some made → exists S p ≡ true
  kind-exists p made e = let w = kind_at-some S p made e in exists-some S p w.0 w.1

  pub entry-kept : (p h : ℕ) (held : Held) → SoundEntry S p h held → SoundEntry T p h held
  entry-kept p h held s =
      let a : s.value.0 < next_at S p = s.value.2 in
      let b : next_at S p ≤ next_at T p = next-kept p (has_live_process-exists p s.owner) in
      record { owner = has_live_process-kept p s.owner; value = (s.value.0, s.value.1, omega arith); names = exists-kept held.koid s.names }

  pub message-kept : (e n : ℕ) (m : MessageContent) → SoundMessage S e n m → SoundMessage T e n m
  message-kept e n m s =
      let a : n < next_at S e = s.number in
      let b : next_at S e ≤ next_at T e = next-kept e (kind-exists e kind.Channel s.owner) in
      record { owner = kind-kept e kind.Channel s.owner; number = omega arith; names = all_map m.handles (λ held l x. exists-kept held.koid x) s.names; within = s.within }

  pub packet-kept : (p n : ℕ) → SoundPacket S p n → SoundPacket T p n
  packet-kept p n s =
      let a : n < next_at S p = s.number in
      let b : next_at S p ≤ next_at T p = next-kept p (kind-exists p kind.Port s.owner) in
      record { owner = kind-kept p kind.Port s.owner; number = omega arith }

-- a grown state is as sound
pub sound-grown : (S T : State) → IsSound S → Grown S T → IsSound T
sound-grown S T sound g =
    let objects : (x : ℕ) (o : ObjectRow) → object T x ≡ Some o → SoundObject T x o = λ x o h. elim (g.new_objects x o h) [
      | inl e ↦ let s : SoundObject S x o = sound.of_objects x o e in object-kept S T g.of_objects g.of_koids x o o (kept_itself o) s.signals s
      | inr s ↦ s
    ] in
    record {
      typed = g.of_rows;
      root = kind-kept S T g.of_objects root_job kind.Job sound.root;
      of_objects = objects;
      of_entries = λ p h held e. elim (g.new_entries p h held e) [ inl f ↦ entry-kept S T g.of_objects p h held (sound.of_entries p h held f) | inr s ↦ s ];
      of_messages = λ e n m h. elim (g.new_messages e n m h) [ inl f ↦ message-kept S T g.of_objects e n m (sound.of_messages e n m f) | inr s ↦ s ];
      of_packets = λ p n k h. elim (g.new_packets p n k h) [ inl f ↦ packet-kept S T g.of_objects p n (sound.of_packets p n k f) | inr s ↦ s ];
      of_waits = λ n w h. elim (g.new_waits n w h) [
        | inl f ↦
            let s : SoundWait S n w = sound.of_waits n w f.0 in
            let a : n < (counters S).next_wait = s.number in
            let b : (counters S).next_wait ≤ (counters T).next_wait = g.of_numbers in
            record { number = omega arith; held = s.held; there = f.1 s.held s.there; port = kind-kept S T g.of_objects w.port kind.Port s.port }
        | inr s ↦ s
      ];
      ports = g.of_pending;
      depths = λ x o h live. elim (g.new_depths x o h live) [ inl e ↦ depths-kept x o h live e | inr d ↦ d ];
      criticals = λ x o h. elim (g.new_criticals x o h) [ inl w ↦ criticals-kept x o h w.0 w.1 w.2 | inr s ↦ s ];
    }
  where
    live_task : (o : ObjectRow) → is_live_job o ≡ true → is_running_task o ≡ true
    live_task o e = ap (λ b. b || is_live_process o) e

    depths-kept : (x : ℕ) (q : ObjectRow) → object T x ≡ Some q → is_live_job q ≡ true → exists S x ≡ true → depth T x ≤ most_depth
    depths-kept x q h live e =
        let w = some-exists S x e in
        let k = g.of_objects x w.0 w.1 in
        let here : q ≡ k.0 = some_one q k.0 (sym h ∙ k.1) in
        let job : is_live_job w.0 ≡ true = ap is_live_job (sym k.2.same) ∙ ap is_live_job (sym here) ∙ live in
        let same : depth S x ≡ depth T x = same_depth S T (sound-above S sound.of_objects) (links-kept S T g.of_objects) x w.0 w.1 (live_task w.0 job) in
        subst (λ d. d ≤ most_depth) same (sound.depths x w.0 w.1 job)

    criticals-kept : (x : ℕ) (o : ObjectRow) → object T x ≡ Some o → (q : ObjectRow) → object S x ≡ Some q → o.critical ≡ q.critical → SoundCritical T x o
    criticals-kept x o h q e to =
        let k = g.of_objects x q e in
        let here : o ≡ k.0 = some_one o k.0 (sym h ∙ k.1) in
        same_critical S T x q o to (ap is_live_process here ∙ ap is_live_process k.2.same)
        (λ live. sym (same_chain S T (sound-above S sound.of_objects) (links-kept S T g.of_objects) x q e (or_right (is_live_job q) _ live)))
        (sound.criticals x q e)

-- ---- one object over the old one, or new

-- T has this object under the koid, and every other of S
abbrev pub HasObject : State → State → ℕ → ObjectRow → Type 0
HasObject S T y q = (x : ℕ) → object T x ≡ cond (x == y) (Some q) (object S x)

pub keeps-with : (S T : State) (y : ℕ) (q : ObjectRow) → HasObject S T y q → ((o : ObjectRow) → object S y ≡ Some o → Kept o q) → KeepsObjects S T
keeps-with S T y q has kept x o h =
    elim (x == y) as (λ b. (x == y) ≡ b → object T x ≡ cond b (Some q) (object S x) → (p : ObjectRow) × (object T x ≡ Some p) × Kept o p) [
      | true ↦ λ t e. (q, e, kept o (ap (object S) (sym (eqb-true x y t)) ∙ h))
      | false ↦ λ t e. (o, e ∙ h, kept_itself o)
    ] refl (has x)

pub new-with : (S T : State) (y : ℕ) (q : ObjectRow) → HasObject S T y q → SoundObject T y q → (x : ℕ) (o : ObjectRow) → object T x ≡ Some o → (object S x ≡ Some o) ⊎ SoundObject T x o
new-with S T y q has s x o h =
    elim (x == y) as (λ b. (x == y) ≡ b → cond b (Some q) (object S x) ≡ Some o → (object S x ≡ Some o) ⊎ SoundObject T x o) [
      | true ↦ λ t e. inr (subst (λ z. SoundObject T z o) (sym (eqb-true x y t)) (subst (λ z. SoundObject T y z) (some_one q o e) s))
      | false ↦ λ t e. inl e
    ] refl (sym (has x) ∙ h)

-- the object that T has under the koid
pub has-object : (S T : State) (y : ℕ) (q : ObjectRow) → HasObject S T y q → object T y ≡ Some q
has-object S T y q has = has y ∙ ap (λ b. cond b (Some q) (object S y)) (eq-eqb y y refl)

-- ---- a new entry

-- no entry stands yet under the next value of a process
pub fresh-entry : (S : State) → IsSound S → (p : ℕ) (me : ObjectRow) → object S p ≡ Some me → (held : Held) → entry S p (value_of me.next) ≡ Some held → ⊥
fresh-entry S sound p me here held h =
    let s : SoundEntry S p (value_of me.next) held = sound.of_entries p (value_of me.next) held h in
    let a : s.value.0 < next_at S p = s.value.2 in
    let b : 4 * me.next + 3 ≡ 4 * s.value.0 + 3 = s.value.1 in
    let c : next_at S p ≡ me.next = ap object_next here in
    omega arith

module _ (S : State) (sound : IsSound S) (p : ℕ) (me : ObjectRow) (here : object S p ≡ Some me) (live : is_live_process me ≡ true) (held : Held) (names : exists S held.koid ≡ true) where
  abbrev installed : State
  installed = install p me held S

  abbrev with_entry : State
  with_entry = put S (key.Entry p (value_of me.next)) (Some (rows.Entry held))

  has-installed : HasObject S installed p (raised me)
  has-installed x =
      object-put with_entry p (Some (rows.Object (raised me))) x
      ∙ ap (cond (x == p) (Some (raised me))) (ap as_object (row-put S (key.Entry p (value_of me.next)) (Some (rows.Entry held)) (key.Object x)))

  kept-installed : Kept me (raised me)
  kept-installed = record { same = refl; next = omega arith }

  keeps-installed : KeepsObjects S installed
  keeps-installed = keeps-with S installed p (raised me) has-installed (λ o h. subst (λ z. Kept z (raised me)) (some_one me o (sym here ∙ h)) kept-installed)

  entry-installed : (q h : ℕ) → entry installed q h ≡ cond ((q == p) && (h == value_of me.next)) (Some held) (entry S q h)
  entry-installed q h =
      ap as_entry (row-put with_entry (key.Object p) (Some (rows.Object (raised me))) (key.Entry q h) ∙ row-put S (key.Entry p (value_of me.next)) (Some (rows.Entry held)) (key.Entry q h))
      ∙ chosen as_entry ((q == p) && (h == value_of me.next)) (Some (rows.Entry held)) (row S (key.Entry q h))

  -- every old entry is still there
  entries-installed : (q h : ℕ) (old : Held) → entry S q h ≡ Some old → entry installed q h ≡ Some old
  entries-installed q h old e =
      elim ((q == p) && (h == value_of me.next)) as (λ b. ((q == p) && (h == value_of me.next)) ≡ b → entry installed q h ≡ cond b (Some held) (entry S q h) → entry installed q h ≡ Some old) [
        | true ↦ λ t _.
            let owner : q ≡ p = eqb-true q p (and_left (q == p) _ t) in
            let value : h ≡ value_of me.next = eqb-true h (value_of me.next) (and_right (q == p) _ t) in
            absurd (fresh-entry S sound p me here old (ap (λ z. entry S z (value_of me.next)) (sym owner) ∙ ap (entry S q) (sym value) ∙ e))
        | false ↦ λ t f. f ∙ e
      ] refl (entry-installed q h)

  sound-new-entry : SoundEntry installed p (value_of me.next) held
  sound-new-entry =
      let next : next_at installed p ≡ me.next + 1 = ap object_next (has-object S installed p (raised me) has-installed) in
      record {
        owner = has_live_process-kept S installed keeps-installed p (some-has_live_process S p me here live);
        value = (me.next, refl, omega arith);
        names = exists-kept S installed keeps-installed held.koid names;
      }

  new-installed : (q h : ℕ) (other : Held) → entry installed q h ≡ Some other → (entry S q h ≡ Some other) ⊎ SoundEntry installed q h other
  new-installed q h other e =
      elim ((q == p) && (h == value_of me.next)) as (λ b. ((q == p) && (h == value_of me.next)) ≡ b → cond b (Some held) (entry S q h) ≡ Some other → (entry S q h ≡ Some other) ⊎ SoundEntry installed q h other) [
        | true ↦ λ t f.
            let owner : q ≡ p = eqb-true q p (and_left (q == p) _ t) in
            let value : h ≡ value_of me.next = eqb-true h (value_of me.next) (and_right (q == p) _ t) in
            let one : SoundEntry installed p (value_of me.next) other = subst (λ z. SoundEntry installed p (value_of me.next) z) (some_one held other f) sound-new-entry in
            inr (subst (λ z. SoundEntry installed z h other) (sym owner) (subst (λ z. SoundEntry installed p z other) (sym value) one))
        | false ↦ λ t f. inl f
      ] refl (sym (entry-installed q h) ∙ e)

  counters-installed : counters installed ≡ counters S
  counters-installed = ap as_counters (row-put with_entry (key.Object p) (Some (rows.Object (raised me))) key.Counters ∙ row-put S (key.Entry p (value_of me.next)) (Some (rows.Entry held)) key.Counters)

  message-installed : (e n : ℕ) → message installed e n ≡ message S e n
  message-installed e n = ap as_message (row-put with_entry (key.Object p) (Some (rows.Object (raised me))) (key.Msg e n) ∙ row-put S (key.Entry p (value_of me.next)) (Some (rows.Entry held)) (key.Msg e n))

  packet-installed : (e n : ℕ) → packet installed e n ≡ packet S e n
  packet-installed e n = ap as_packet (row-put with_entry (key.Object p) (Some (rows.Object (raised me))) (key.Packet e n) ∙ row-put S (key.Entry p (value_of me.next)) (Some (rows.Entry held)) (key.Packet e n))

  wait-installed : (n : ℕ) → wait installed n ≡ wait S n
  wait-installed n = ap as_wait (row-put with_entry (key.Object p) (Some (rows.Object (raised me))) (key.Wait n) ∙ row-put S (key.Entry p (value_of me.next)) (Some (rows.Entry held)) (key.Wait n))

  grown-install : Grown S installed
  grown-install = record {
    of_rows = typed-put with_entry (typed-put S sound.typed (key.Entry p (value_of me.next)) (Some (rows.Entry held)) (λ r e. subst (λ z. suits (key.Entry p (value_of me.next)) z ≡ true) (some_one _ r e) refl)) (key.Object p) (Some (rows.Object (raised me))) (λ r e. subst (λ z. suits (key.Object p) z ≡ true) (some_one _ r e) refl);
    of_koids = let e : next_koid installed ≡ next_koid S = ap (λ (c : Counters). c.next_koid) counters-installed in omega arith;
    of_numbers = let e : (counters installed).next_wait ≡ (counters S).next_wait = ap (λ (c : Counters). c.next_wait) counters-installed in omega arith;
    of_objects = keeps-installed;
    new_objects = new-with S installed p (raised me) has-installed
        (object-kept S installed keeps-installed (let e : next_koid installed ≡ next_koid S = ap (λ (c : Counters). c.next_koid) counters-installed in omega arith) p me (raised me) kept-installed (sound.of_objects p me here).signals (sound.of_objects p me here));
    new_entries = new-installed;
    new_messages = λ e n m h. inl (sym (message-installed e n) ∙ h);
    new_packets = λ e n k h. inl (sym (packet-installed e n) ∙ h);
    new_waits = λ n w h. inl (sym (wait-installed n) ∙ h, λ old e. entries-installed w.process w.handle old e);
    of_pending = λ x.
        let a : pending installed x ≤ pending with_entry x = count_row-put-out (is_user_packet_of x) with_entry (key.Object p) (rows.Object (raised me)) refl in
        let b : pending with_entry x ≤ pending S x = count_row-put-out (is_user_packet_of x) S (key.Entry p (value_of me.next)) (rows.Entry held) refl in
        let c : pending S x ≤ most_pending = sound.ports x in
        omega arith;
    new_depths = λ x o h job. elim (x == p) as (λ b. (x == p) ≡ b → (exists S x ≡ true) ⊎ (depth installed x ≤ most_depth)) [
      | true ↦ λ t. inl (exists-some S x me (ap (object S) (eqb-true x p t) ∙ here))
      | false ↦ λ t. inl (exists-some S x o (sym (has-installed x ∙ ap (λ b. cond b (Some (raised me)) (object S x)) t) ∙ h))
    ] refl;
    new_criticals = λ x o h. elim (x == p) as (λ b. (x == p) ≡ b → cond b (Some (raised me)) (object S x) ≡ Some o → CriticalAsIn S installed x o) [
      | true ↦ λ t e. inl (me, ap (object S) (eqb-true x p t) ∙ here, ap (λ (z : ObjectRow). z.critical) (sym (some_one (raised me) o e)))
      | false ↦ λ t e. inl (o, e, refl)
    ] refl (sym (has-installed x) ∙ h);
  }

  -- the process has given out one more handle value
  pub object-installed : object (install p me held S) p ≡ Some (raised me)
  object-installed = has-object S installed p (raised me) has-installed

  -- what was there is there
  pub exists-installed : (x : ℕ) → exists S x ≡ true → exists (install p me held S) x ≡ true
  exists-installed = exists-kept S installed keeps-installed

  -- a process that runs receives a handle to what exists
  pub sound-install : IsSound (install p me held S)
  sound-install = sound-grown S installed sound grown-install
