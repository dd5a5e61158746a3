-- A state with the same objects but for their signals and next numbers, the same entries and messages, and no
-- new waits: it is as sound, its objects are supported alike, and its derived signals are the same.
use Rattle.std.proofs.Common.{◌≡◌, ◌≤◌, ◌<◌, ℕ, true, not, ◌&&◌, ◌||◌, inl, inr, refl, sym, ap, ◌∙◌, subst, arith}
use Rattle.std.specs.Prelude.{Option, None, Some, is_some, ◌==◌, bit_or}
use Rattle.std.specs.Option.{option_map}
use Rattle.zt_bits.specs.declared.kinds.Kind.{Kind}
use Rattle.zt_bits.specs.declared.kinds.Kind.TheVariants as kind
use Rattle.zt_rows.specs.declared.keys.RowKey.{RowKey}
use Rattle.zt_rows.specs.declared.keys.RowKey.TheVariants as key
use Rattle.zt_rows.specs.declared.rows.Counters.{Counters}
use Rattle.zt_rows.specs.declared.rows.Held.{Held}
use Rattle.zt_rows.specs.declared.rows.ObjectRow.{ObjectRow}
use Rattle.zt_rows.specs.declared.rows.Packet.{Packet}
use Rattle.zt_rows.specs.declared.rows.Wait.{Wait}
use Rattle.zt_rows.specs.declared.rows.Row.{Row}
use Rattle.zt_rows.specs.declared.rows.Row.TheVariants as rows
use Rattle.zt_rows.specs.Contents.{MessageContent}
use Rattle.zt_rows.specs.State.{State, row}
use Rattle.zt_rows.specs.Reads.{as_object, as_message, counters, object, entry, message, packet, wait, is_live_process, is_live_job, on_object, has_live_process}
use Rattle.zt_rows.specs.Tests.{exists, kind_at, link_at, next_at, object_link, is_endpoint, without_bits, any_row}
use Rattle.zt_rows.specs.Room.{suits}
use Rattle.zt_rows.specs.Support.{root_job, is_supported}
use Rattle.zt_rows.specs.PortCalls.{pending, most_pending}
use Rattle.zt_rows.specs.JobCalls.{most_depth}
use Rattle.zt_rows.specs.Settle.{is_message_of, is_child_job_of, is_child_process_of, bit_if, terminated, writable, peer_closed, derived_by, derived}
use Rattle.zt_rows.specs.End.{depth}
use Rattle.zt_rows.specs.Consistent.{IsPeer, IsChild, has_parent, may_be, possible_signals, SoundObject, SoundCritical, SoundEntry, SoundMessage, SoundPacket, SoundWait, IsSound}
use Rattle.zt_rows.proofs.RowLaws.{same_test, or_right, any_row-at, at-any_row}
use Rattle.zt_rows.proofs.ReadLaws.{some_one, object-row, message-row}
use Rattle.zt_rows.proofs.SupportLaws.{KeptBy, by_entry, by_message, by_child, by_itself, supported-kept, kept-supported}
use Rattle.zt_rows.proofs.SoundLaws.{is_running_task, all_map, SameLinks, same_chain, same_depth, same_critical, sound-above}

-- an object but for its signals and its next number
abbrev pub shaped : ObjectRow → ObjectRow
shaped o = record o { signals = record { 0 = 0 }; next = 0 }

abbrev pub shape : State → ℕ → Option ObjectRow
shape S x = option_map shaped (object S x)

-- T is S but for signals, next numbers, packets and the waits that went
pub record Framed (S T : State) : Type 0 where
  pub of_rows : (k : RowKey) (r : Row) → row T k ≡ Some r → suits k r ≡ true
  pub of_shapes : (x : ℕ) → shape T x ≡ shape S x
  pub of_nexts : (x : ℕ) → next_at S x ≤ next_at T x
  pub of_signals : (x : ℕ) (o : ObjectRow) → object T x ≡ Some o → without_bits o.signals.0 (possible_signals o.kind) ≡ 0
  pub of_entries : (p h : ℕ) → entry T p h ≡ entry S p h
  pub of_messages : (e n : ℕ) → message T e n ≡ message S e n
  pub of_counters : counters T ≡ counters S
  pub of_waits : (n : ℕ) (w : Wait) → wait T n ≡ Some w → wait S n ≡ Some w
  pub of_packets : (p n : ℕ) (k : Packet) → packet T p n ≡ Some k → SoundPacket T p n
  pub of_pending : (x : ℕ) → pending T x ≤ most_pending

-- ---- through the shapes

blind : {B : Type 0} (f : Option ObjectRow → B) → ((o : ObjectRow) → f (Some (shaped o)) ≡ f (Some o)) → (r : Option ObjectRow) → f (option_map shaped r) ≡ f r
blind f h (Some o) = h o
blind f h None = refl

through : {B : Type 0} (f : Option ObjectRow → B) → ((o : ObjectRow) → f (Some (shaped o)) ≡ f (Some o)) → (r s : Option ObjectRow) → option_map shaped r ≡ option_map shaped s → f r ≡ f s
through f h r s e = sym (blind f h r) ∙ ap f e ∙ blind f h s

-- one and the same shape stands under the koid in both
abbrev pub SameShapes : State → State → Type 0
SameShapes S T = (x : ℕ) → shape T x ≡ shape S x

pub exists-shaped : (S T : State) → SameShapes S T → (x : ℕ) → exists T x ≡ exists S x
exists-shaped S T same x = through (λ r. is_some r) (λ o. refl) (object T x) (object S x) (same x)

pub kind_at-shaped : (S T : State) → SameShapes S T → (x : ℕ) → kind_at T x ≡ kind_at S x
kind_at-shaped S T same x = through (λ r. option_map (λ (o : ObjectRow). o.kind) r) (λ o. refl) (object T x) (object S x) (same x)

pub link_at-shaped : (S T : State) → SameShapes S T → (x : ℕ) → link_at T x ≡ link_at S x
link_at-shaped S T same x = through object_link (λ o. refl) (object T x) (object S x) (same x)

pub has_live_process-shaped : (S T : State) → SameShapes S T → (x : ℕ) → has_live_process T x ≡ has_live_process S x
has_live_process-shaped S T same x = through (on_object is_live_process) (λ o. refl) (object T x) (object S x) (same x)

shaped-some : (r s : Option ObjectRow) (q : ObjectRow) → option_map shaped r ≡ option_map shaped s → s ≡ Some q → (o : ObjectRow) × (r ≡ Some o) × (shaped o ≡ shaped q)
shaped-some (Some o) s q e h = (o, refl, some_one (shaped o) (shaped q) (e ∙ ap (option_map shaped) h))
shaped-some None s q e h = let g : None ≡ Some (shaped q) = e ∙ ap (option_map shaped) h in cc

-- the object of S is in T in its shape
pub shaped-there : (S T : State) → SameShapes S T → (x : ℕ) (q : ObjectRow) → object S x ≡ Some q → (o : ObjectRow) × (object T x ≡ Some o) × (shaped o ≡ shaped q)
shaped-there S T same x q h = shaped-some (object T x) (object S x) q (same x) h

pub turned : (S T : State) → SameShapes S T → SameShapes T S
turned S T same x = sym (same x)

-- ---- supports

kept-shaped : (S T : State) → SameShapes S T → ((p h : ℕ) → entry T p h ≡ entry S p h) → ((e n : ℕ) → message T e n ≡ message S e n) → (x : ℕ) → KeptBy S x → KeptBy T x
kept-shaped S T same entries messages x (by_entry p h held e g) = by_entry p h held (entries p h ∙ e) g
kept-shaped S T same entries messages x (by_message e n m held h l g) = by_message e n m held (messages e n ∙ h) l g
kept-shaped S T same entries messages x (by_child o y c h live d task g) =
    let a = shaped-there S T same x o h in
    let b = shaped-there S T same y c d in
    by_child a.0 y b.0 a.1 (ap is_live_job a.2 ∙ live) b.1 (ap is_running_task b.2 ∙ task) (ap (λ (q : ObjectRow). q.link) b.2 ∙ g)
kept-shaped S T same entries messages x (by_itself o h t) =
    let a = shaped-there S T same x o h in
    by_itself a.0 a.1 (ap (λ (q : ObjectRow). is_live_process q || (x == root_job)) a.2 ∙ t)

pub supported-framed : (S T : State) → Framed S T → (x : ℕ) → is_supported T x ≡ is_supported S x
supported-framed S T f x =
    same_test (is_supported T x) (is_supported S x)
    (λ t. kept-supported S x (kept-shaped T S (turned S T f.of_shapes) (λ p h. sym (f.of_entries p h)) (λ e n. sym (f.of_messages e n)) x (supported-kept T x t)))
    (λ t. kept-supported T x (kept-shaped S T f.of_shapes f.of_entries f.of_messages x (supported-kept S x t)))

-- ---- derived signals

message_there : (S T : State) → ((e n : ℕ) → message T e n ≡ message S e n) → (x : ℕ) (k : RowKey) (r : Row) → row S k ≡ Some r → is_message_of x k r ≡ true → any_row (is_message_of x) T ≡ true
message_there S T messages x (key.Msg e n) (rows.Msg m) h t = any_row-at (is_message_of x) T (key.Msg e n) (rows.Msg m) (message-row T e n m (messages e n ∙ ap as_message h)) t
message_there S T messages x _ _ h t = cc

any_message : (S T : State) → ((e n : ℕ) → message T e n ≡ message S e n) → (x : ℕ) → any_row (is_message_of x) S ≡ true → any_row (is_message_of x) T ≡ true
any_message S T messages x t = let w = at-any_row (is_message_of x) S t in message_there S T messages x w.0 w.1 w.2 w.3

job_there : (S T : State) → SameShapes S T → (x : ℕ) (k : RowKey) (r : Row) → row S k ≡ Some r → is_child_job_of x k r ≡ true → any_row (is_child_job_of x) T ≡ true
job_there S T same x (key.Object y) (rows.Object c) h t =
    let a = shaped-there S T same y c (ap as_object h) in
    any_row-at (is_child_job_of x) T (key.Object y) (rows.Object a.0) (object-row T y a.0 a.1) (ap (λ (q : ObjectRow). is_live_job q && (q.link == x)) a.2 ∙ t)
job_there S T same x _ _ h t = cc

any_job : (S T : State) → SameShapes S T → (x : ℕ) → any_row (is_child_job_of x) S ≡ true → any_row (is_child_job_of x) T ≡ true
any_job S T same x t = let w = at-any_row (is_child_job_of x) S t in job_there S T same x w.0 w.1 w.2 w.3

process_there : (S T : State) → SameShapes S T → (x : ℕ) (k : RowKey) (r : Row) → row S k ≡ Some r → is_child_process_of x k r ≡ true → any_row (is_child_process_of x) T ≡ true
process_there S T same x (key.Object y) (rows.Object c) h t =
    let a = shaped-there S T same y c (ap as_object h) in
    any_row-at (is_child_process_of x) T (key.Object y) (rows.Object a.0) (object-row T y a.0 a.1) (ap (λ (q : ObjectRow). is_live_process q && (q.link == x)) a.2 ∙ t)
process_there S T same x _ _ h t = cc

any_process : (S T : State) → SameShapes S T → (x : ℕ) → any_row (is_child_process_of x) S ≡ true → any_row (is_child_process_of x) T ≡ true
any_process S T same x t = let w = at-any_row (is_child_process_of x) S t in process_there S T same x w.0 w.1 w.2 w.3

derived_alike : (S T : State) (x : ℕ) → any_row (is_message_of x) T ≡ any_row (is_message_of x) S → any_row (is_child_job_of x) T ≡ any_row (is_child_job_of x) S → any_row (is_child_process_of x) T ≡ any_row (is_child_process_of x) S → (made : Kind) (o : ObjectRow) → derived_by made T x o ≡ derived_by made S x o
derived_alike S T x m j p kind.Job o = λ i. bit_or (terminated o) (bit_or (bit_if (not (j i)) 0x10) (bit_if (not (p i)) 0x20))
derived_alike S T x m j p kind.Channel o = λ i. bit_or (bit_if (m i) 0x1) (bit_or (writable o) (peer_closed o))
derived_alike S T x m j p kind.Process o = refl
derived_alike S T x m j p kind.Event o = refl
derived_alike S T x m j p kind.EventPair o = refl
derived_alike S T x m j p kind.Port o = refl

derived_shaped : (S : State) (x : ℕ) (made : Kind) (o : ObjectRow) → derived_by made S x (shaped o) ≡ derived_by made S x o
derived_shaped S x kind.Job o = refl
derived_shaped S x kind.Channel o = refl
derived_shaped S x kind.Process o = refl
derived_shaped S x kind.Event o = refl
derived_shaped S x kind.EventPair o = refl
derived_shaped S x kind.Port o = refl

-- objects of one shape have the same derived signals
pub derived-framed : (S T : State) → Framed S T → (x : ℕ) (o q : ObjectRow) → shaped o ≡ shaped q → derived T x o ≡ derived S x q
derived-framed S T f x o q e =
    let back : SameShapes T S = turned S T f.of_shapes in
    let old : (e n : ℕ) → message S e n ≡ message T e n = λ e n. sym (f.of_messages e n) in
    let m : any_row (is_message_of x) T ≡ any_row (is_message_of x) S = same_test _ _ (any_message T S old x) (any_message S T f.of_messages x) in
    let j : any_row (is_child_job_of x) T ≡ any_row (is_child_job_of x) S = same_test _ _ (any_job T S back x) (any_job S T f.of_shapes x) in
    let p : any_row (is_child_process_of x) T ≡ any_row (is_child_process_of x) S = same_test _ _ (any_process T S back x) (any_process S T f.of_shapes x) in
    derived_alike S T x m j p o.kind o ∙ sym (derived_shaped S x o.kind o) ∙ ap (λ (z : ObjectRow). derived S x z) e ∙ derived_shaped S x q.kind q

-- ---- soundness

pub packet-framed : (S T : State) → SameShapes S T → ((x : ℕ) → next_at S x ≤ next_at T x) → (p n : ℕ) → SoundPacket S p n → SoundPacket T p n
packet-framed S T same nexts p n s =
    let a : n < next_at S p = s.number in
    let b : next_at S p ≤ next_at T p = nexts p in
    record { owner = kind_at-shaped S T same p ∙ s.owner; number = omega arith }

module _ (S T : State) (sound : IsSound S) (f : Framed S T) where
  peer-framed : (x : ℕ) (o q : ObjectRow) → shaped o ≡ shaped q → IsPeer S x q → IsPeer T x o
  peer-framed x o q e p =
      let link : o.link ≡ q.link = ap (λ (z : ObjectRow). z.link) e in
      let a = shaped-there S T f.of_shapes q.link p.peer p.there in
      record {
        peer = a.0;
        there = ap (object T) link ∙ a.1;
        same_kind = ap (λ (z : ObjectRow). z.kind) a.2 ∙ p.same_kind ∙ ap (λ (z : ObjectRow). z.kind) (sym e);
        back = ap (λ (z : ObjectRow). z.link) a.2 ∙ p.back;
        apart = λ h. p.apart (sym link ∙ h);
      }

  child-framed : (x : ℕ) (o q : ObjectRow) → shaped o ≡ shaped q → IsChild S x q → IsChild T x o
  child-framed x o q e c =
      let link : o.link ≡ q.link = ap (λ (z : ObjectRow). z.link) e in
      let a = shaped-there S T f.of_shapes q.link c.parent c.there in
      record {
        parent = a.0;
        there = ap (object T) link ∙ a.1;
        live = ap is_live_job a.2 ∙ c.live;
        smaller = subst (λ l. l < x) (sym link) c.smaller;
      }

  objects-framed : (x : ℕ) (o : ObjectRow) → object T x ≡ Some o → SoundObject T x o
  objects-framed x o h =
      let w = shaped-there T S (turned S T f.of_shapes) x o h in
      let q : ObjectRow = w.0 in
      let e : shaped o ≡ shaped q = sym w.2 in
      let s : SoundObject S x q = sound.of_objects x q w.1 in
      let link : o.link ≡ q.link = ap (λ (z : ObjectRow). z.link) e in
      let ends : is_endpoint o.kind ≡ is_endpoint q.kind = ap (λ (z : ObjectRow). is_endpoint z.kind) e in
      let parent : has_parent x o ≡ has_parent x q = ap (λ (z : ObjectRow). has_parent x z) e in
      record {
        low = s.low;
        high = subst (λ (c : Counters). x < c.next_koid) (sym f.of_counters) s.high;
        peers = λ t. elim (s.peers (sym ends ∙ t)) [ inl z ↦ inl (link ∙ z) | inr p ↦ inr (peer-framed x o q e p) ];
        parents = λ t. child-framed x o q e (s.parents (sym parent ∙ t));
        alone = λ a b. link ∙ s.alone (sym ends ∙ a) (sym parent ∙ b);
        lives = ap (λ (z : ObjectRow). may_be z.kind z.life) e ∙ s.lives;
        signals = f.of_signals x o h;
      }

  entries-framed : (p h : ℕ) (held : Held) → entry T p h ≡ Some held → SoundEntry T p h held
  entries-framed p h held e =
      let s : SoundEntry S p h held = sound.of_entries p h held (sym (f.of_entries p h) ∙ e) in
      let a : s.value.0 < next_at S p = s.value.2 in
      let b : next_at S p ≤ next_at T p = f.of_nexts p in
      record {
        owner = has_live_process-shaped S T f.of_shapes p ∙ s.owner;
        value = (s.value.0, s.value.1, omega arith);
        names = exists-shaped S T f.of_shapes held.koid ∙ s.names;
      }

  messages-framed : (e n : ℕ) (m : MessageContent) → message T e n ≡ Some m → SoundMessage T e n m
  messages-framed e n m h =
      let s : SoundMessage S e n m = sound.of_messages e n m (sym (f.of_messages e n) ∙ h) in
      let a : n < next_at S e = s.number in
      let b : next_at S e ≤ next_at T e = f.of_nexts e in
      record {
        owner = kind_at-shaped S T f.of_shapes e ∙ s.owner;
        number = omega arith;
        names = all_map m.handles (λ held l x. exists-shaped S T f.of_shapes held.koid ∙ x) s.names;
        within = s.within;
      }

  waits-framed : (n : ℕ) (w : Wait) → wait T n ≡ Some w → SoundWait T n w
  waits-framed n w h =
      let s : SoundWait S n w = sound.of_waits n w (f.of_waits n w h) in
      record {
        number = subst (λ (c : Counters). n < c.next_wait) (sym f.of_counters) s.number;
        held = s.held;
        there = f.of_entries w.process w.handle ∙ s.there;
        port = kind_at-shaped S T f.of_shapes w.port ∙ s.port;
      }

  links-framed : SameLinks T S
  links-framed x o h t = sym (link_at-shaped S T f.of_shapes x) ∙ ap object_link h

  depths-framed : (x : ℕ) (o : ObjectRow) → object T x ≡ Some o → is_live_job o ≡ true → depth T x ≤ most_depth
  depths-framed x o h live =
      let w = shaped-there T S (turned S T f.of_shapes) x o h in
      let same : depth T x ≡ depth S x = same_depth T S (sound-above T objects-framed) links-framed x o h (live_task o live) in
      subst (λ d. d ≤ most_depth) (sym same) (sound.depths x w.0 w.1 (ap is_live_job w.2 ∙ live))
    where
      live_task : (o : ObjectRow) → is_live_job o ≡ true → is_running_task o ≡ true
      live_task o e = ap (λ b. b || is_live_process o) e

  criticals-framed : (x : ℕ) (o : ObjectRow) → object T x ≡ Some o → SoundCritical T x o
  criticals-framed x o h =
      let w = shaped-there T S (turned S T f.of_shapes) x o h in
      let e : shaped o ≡ shaped w.0 = sym w.2 in
      let lives : is_live_process o ≡ is_live_process w.0 = ap is_live_process e in
      same_critical S T x w.0 o (ap (λ (z : ObjectRow). z.critical) e) lives
      (λ live. same_chain T S (sound-above T objects-framed) links-framed x o h (or_right (is_live_job o) _ (lives ∙ live)))
      (sound.criticals x w.0 w.1)

  -- such a state is as sound
  pub sound-framed : IsSound T
  sound-framed = record {
    typed = f.of_rows;
    root = kind_at-shaped S T f.of_shapes root_job ∙ sound.root;
    of_objects = objects-framed;
    of_entries = entries-framed;
    of_messages = messages-framed;
    of_packets = f.of_packets;
    of_waits = waits-framed;
    ports = f.of_pending;
    depths = depths-framed;
    criticals = criticals-framed;
  }

-- one after the other
pub framed-framed : (S T U : State) → Framed S T → Framed T U → Framed S U
framed-framed S T U f g = record {
  of_rows = g.of_rows;
  of_shapes = λ x. g.of_shapes x ∙ f.of_shapes x;
  of_nexts = λ x. let a : next_at S x ≤ next_at T x = f.of_nexts x in let b : next_at T x ≤ next_at U x = g.of_nexts x in omega arith;
  of_signals = g.of_signals;
  of_entries = λ p h. g.of_entries p h ∙ f.of_entries p h;
  of_messages = λ e n. g.of_messages e n ∙ f.of_messages e n;
  of_counters = g.of_counters ∙ f.of_counters;
  of_waits = λ n w h. f.of_waits n w (g.of_waits n w h);
  of_packets = g.of_packets;
  of_pending = g.of_pending;
}

pub framed_itself : (S : State) → IsSound S → Framed S S
framed_itself S sound = record {
  of_rows = sound.typed;
  of_shapes = λ x. refl;
  of_nexts = λ x. omega arith;
  of_signals = λ x o h. (sound.of_objects x o h).signals;
  of_entries = λ p h. refl;
  of_messages = λ e n. refl;
  of_counters = refl;
  of_waits = λ n w h. h;
  of_packets = sound.of_packets;
  of_pending = sound.ports;
}
