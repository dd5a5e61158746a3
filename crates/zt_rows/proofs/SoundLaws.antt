-- A sound state stays sound when objects that nothing supports go from it.
use Rattle.std.proofs.Common.{◌≡◌, ◌≤◌, ◌<◌, ℕ, zero, suc, ◌+◌, Bool, true, false, ◌&&◌, ◌||◌, List, [], ◌∷◌, ◌⊎◌, inl, inr, refl, sym, ap, ◌∙◌, subst, arith}
use Rattle.std.specs.Prelude.{Option, None, Some, option_and_then, if◌then◌else◌, length}
use Rattle.std.specs.Option.{option_map}
use Rattle.std.specs.List.{AllByRecursion}
use Rattle.zt_bits.specs.declared.kinds.Kind.{Kind}
use Rattle.zt_bits.specs.declared.kinds.Kind.TheVariants as kind
use Rattle.zt_rows.specs.declared.keys.RowKey.{RowKey}
use Rattle.zt_rows.specs.declared.keys.RowKey.TheVariants as key
use Rattle.zt_rows.specs.declared.rows.Counters.{Counters}
use Rattle.zt_rows.specs.declared.rows.Held.{Held}
use Rattle.zt_rows.specs.declared.rows.ObjectRow.{ObjectRow}
use Rattle.zt_rows.specs.declared.rows.Packet.{Packet}
use Rattle.zt_rows.specs.declared.rows.Wait.{Wait}
use Rattle.zt_rows.specs.declared.rows.Row.{Row}
use Rattle.zt_rows.specs.declared.rows.Row.TheVariants as rows
use Rattle.zt_rows.specs.Contents.{MessageContent}
use Rattle.zt_rows.specs.State.{State, row}
use Rattle.zt_rows.specs.Reads.{counters, object, entry, message, packet, wait, is_live, is_job, is_process, is_live_process, is_live_job, on_object, has_live_process}
use Rattle.zt_rows.specs.Tests.{exists, kind_at, link_at, next_at, object_link, object_next, is_endpoint, among}
use Rattle.zt_rows.specs.Room.{suits}
use Rattle.zt_rows.specs.Support.{root_job, is_supported}
use Rattle.zt_rows.specs.PortCalls.{is_user_packet_of, pending}
use Rattle.zt_rows.specs.Collect.{unlinked, left, without}
use Rattle.zt_rows.specs.End.{upward, links, chain, depth}
use Rattle.zt_rows.specs.Consistent.{IsPeer, IsChild, has_parent, SoundObject, SoundCritical, SoundEntry, SoundMessage, SoundPacket, SoundWait, IsSound}
use Rattle.zt_rows.proofs.RowLaws.{In, and_left, and_both, or_left, or_right, or_true, true≢false, not_true, count_row-change}
use Rattle.zt_rows.proofs.ReadLaws.{some_one, exists-some, some-exists, kind_at-some, if_none, row-without, counters-without, entry-without, stayed, stays, wait-stayed, message-stayed, packet-stayed}
use Rattle.zt_rows.proofs.SupportLaws.{KeptBy, by_entry, by_message, by_child, by_itself, kept-supported}

-- ---- kinds and lives

-- a live job or process
abbrev pub is_running_task : ObjectRow → Bool
is_running_task o = is_live_job o || is_live_process o

task-not-endpoint_of : (k : Kind) (how : Bool) → ((is_job k && how) || (is_process k && how)) ≡ true → is_endpoint k ≡ false
task-not-endpoint_of kind.Channel how e = cc
task-not-endpoint_of kind.EventPair how e = cc
task-not-endpoint_of _ how e = refl

pub task-not-endpoint : (o : ObjectRow) → is_running_task o ≡ true → is_endpoint o.kind ≡ false
task-not-endpoint o e = task-not-endpoint_of o.kind (is_live o.life) e

one_kind : (k : Kind) (lives : Bool) → (is_process k && lives) ≡ true → (is_job k && lives) ≡ true → ⊥
one_kind kind.Process lives e f = cc
one_kind kind.Job lives e f = cc
one_kind kind.Channel lives e f = cc
one_kind kind.Event lives e f = cc
one_kind kind.EventPair lives e f = cc
one_kind kind.Port lives e f = cc

-- a process is no job
pub process-not-job : (o : ObjectRow) → is_live_process o ≡ true → is_live_job o ≡ true → ⊥
process-not-job o e f = one_kind o.kind (is_live o.life) e f

pub has_parent-task : (x : ℕ) (o : ObjectRow) → has_parent x o ≡ true → is_running_task o ≡ true
has_parent-task x o e = elim (or_true (is_live_process o) _ e) [
  | inl p ↦ or_right (is_live_job o) _ p
  | inr j ↦ or_left (is_live_job o) _ (and_left (is_live_job o) _ j)
]

pub has_parent-not-endpoint : (x : ℕ) (o : ObjectRow) → has_parent x o ≡ true → is_endpoint o.kind ≡ false
has_parent-not-endpoint x o e = task-not-endpoint o (has_parent-task x o e)

-- ---- a process that runs

on_object-some : (p : ObjectRow → Bool) (r : Option ObjectRow) → on_object p r ≡ true → (o : ObjectRow) × (r ≡ Some o) × (p o ≡ true)
on_object-some p (Some o) e = (o, refl, e)
on_object-some p None e = cc

pub has_live_process-some : (S : State) (p : ℕ) → has_live_process S p ≡ true → (o : ObjectRow) × (object S p ≡ Some o) × (is_live_process o ≡ true)
has_live_process-some S p e = on_object-some is_live_process (object S p) e

pub some-has_live_process : (S : State) (p : ℕ) (o : ObjectRow) → object S p ≡ Some o → is_live_process o ≡ true → has_live_process S p ≡ true
some-has_live_process S p o e live = ap (on_object is_live_process) e ∙ live

-- ---- what each element of a list has

pub all_map : {A : Type 0} {P Q : A → Type 0} (xs : List A) → ((x : A) → In x xs → P x → Q x) → AllByRecursion P xs → AllByRecursion Q xs
all_map [] h a = tt
all_map {P = P} {Q = Q} (x ∷ xs) h a = (h x (inl refl) a.0, all_map {P = P} {Q = Q} xs (λ y m. h y (inr m)) a.1)

-- ---- chains of links

pub upward-same : (l : ℕ) (f g : ℕ → List ℕ) → (l ≡ 0) ⊎ (f l ≡ g l) → upward l f ≡ upward l g
upward-same zero f g h = refl
upward-same (suc y) f g (inl e) = absurd (omega arith)
upward-same (suc y) f g (inr e) = ap (λ z. (suc y) ∷ z) e

abbrev pub HasTaskAbove : State → Type 0
HasTaskAbove A = (x : ℕ) (o : ObjectRow) → object A x ≡ Some o → is_running_task o ≡ true → (o.link ≡ 0) ⊎ ((q : ObjectRow) × (object A o.link ≡ Some q) × (is_running_task q ≡ true))

-- live jobs and processes of A have the same link in B
abbrev pub SameLinks : State → State → Type 0
SameLinks A B = (x : ℕ) (o : ObjectRow) → object A x ≡ Some o → is_running_task o ≡ true → link_at B x ≡ o.link

pub same_links : (A B : State) → HasTaskAbove A → SameLinks A B → (n x : ℕ) (o : ObjectRow) → object A x ≡ Some o → is_running_task o ≡ true → links n A x ≡ links n B x
unfolding links
same_links A B above same zero x o e t = refl
same_links A B above same (suc n) x o e t =
    let here : link_at A x ≡ o.link = ap object_link e in
    let there : link_at B x ≡ o.link = same x o e t in
    let next : (o.link ≡ 0) ⊎ (links n A o.link ≡ links n B o.link) = elim (above x o e t) [ inl z ↦ inl z | inr q ↦ inr (same_links A B above same n o.link q.0 q.1 q.2) ] in
    ap (λ l. upward l (λ y. links n A y)) here ∙ upward-same o.link (λ y. links n A y) (λ y. links n B y) next ∙ ap (λ l. upward l (λ y. links n B y)) (sym there)

pub same_chain : (A B : State) → HasTaskAbove A → SameLinks A B → (x : ℕ) (o : ObjectRow) → object A x ≡ Some o → is_running_task o ≡ true → chain A x ≡ chain B x
unfolding chain
same_chain A B above same x o e t = same_links A B above same (x + 1) x o e t

pub same_depth : (A B : State) → HasTaskAbove A → SameLinks A B → (x : ℕ) (o : ObjectRow) → object A x ≡ Some o → is_running_task o ≡ true → depth A x ≡ depth B x
same_depth A B above same x o e t = ap (λ l. length l) (same_chain A B above same x o e t)

-- what is soundly critical stays so where the same jobs are above it
pub same_critical : (A B : State) (x : ℕ) (q o : ObjectRow) → o.critical ≡ q.critical → is_live_process o ≡ is_live_process q → (is_live_process q ≡ true → chain B x ≡ chain A x) → SoundCritical A x q → SoundCritical B x o
same_critical A B x q o to lives above s = elim s [
  | inl none ↦ inl (to ∙ none)
  | inr w ↦ inr (lives ∙ w.0, (λ i. among (above w.0 i) (to i)) ∙ w.1)
]

pub sound-above : (A : State) → ((x : ℕ) (o : ObjectRow) → object A x ≡ Some o → SoundObject A x o) → HasTaskAbove A
sound-above A sound x o e t =
    let s : SoundObject A x o = sound x o e in
    elim (has_parent x o) as (λ b. has_parent x o ≡ b → (o.link ≡ 0) ⊎ ((q : ObjectRow) × (object A o.link ≡ Some q) × (is_running_task q ≡ true))) [
      | true ↦ λ h. let c : IsChild A x o = s.parents h in inr (c.parent, c.there, or_left _ _ c.live)
      | false ↦ λ h. inl (s.alone (task-not-endpoint o t) h)
    ] refl

-- ---- rows suit their keys

left-suits : (going : ℕ → Bool) (k : RowKey) (r s : Row) → left going k r ≡ Some s → suits k r ≡ true → suits k s ≡ true
left-suits going (key.Object x) (rows.Object o) s e h = subst (λ z. suits (key.Object x) z ≡ true) (if_none (going x) _ s e).1 refl
left-suits going (key.Msg x n) (rows.Msg o) s e h = subst (λ z. suits (key.Msg x n) z ≡ true) (if_none (going x) _ s e).1 refl
left-suits going (key.Packet x n) (rows.Packet o) s e h = subst (λ z. suits (key.Packet x n) z ≡ true) (if_none (going x) _ s e).1 refl
left-suits going (key.Wait n) (rows.Wait o) s e h = subst (λ z. suits (key.Wait n) z ≡ true) (if_none (going o.port) _ s e).1 refl
left-suits going k r s e h = subst (λ z. suits k z ≡ true) (some_one r s e) h

pub changed-suits : (f : RowKey → Row → Option Row) (k : RowKey) → ((r s : Row) → f k r ≡ Some s → suits k r ≡ true → suits k s ≡ true) → (o : Option Row) → ((r : Row) → o ≡ Some r → suits k r ≡ true) → (s : Row) → option_and_then (f k) o ≡ Some s → suits k s ≡ true
changed-suits f k keeps None h s e = cc
changed-suits f k keeps (Some r) h s e = keeps r s e (h r refl)

-- ---- pending packets

left-user : (going : ℕ → Bool) (x : ℕ) (k : RowKey) (r s : Row) → left going k r ≡ Some s → is_user_packet_of x k s ≡ true → is_user_packet_of x k r ≡ true
left-user going x (key.Packet p n) (rows.Packet o) s e h = subst (λ z. is_user_packet_of x (key.Packet p n) z ≡ true) (sym (if_none (going p) _ s e).1) h
left-user going x (key.Packet p n) r s e h = subst (λ z. is_user_packet_of x (key.Packet p n) z ≡ true) (sym (some_one r s e)) h
left-user going x _ r s e h = cc

-- ---- links of what is left

pub link-kept : (going : ℕ → Bool) (o : ObjectRow) → (is_endpoint o.kind && going o.link) ≡ false → (unlinked going o).link ≡ o.link
link-kept going o h = ap (λ b. if b then 0 else o.link) h

link-cut : (going : ℕ → Bool) (o : ObjectRow) → (is_endpoint o.kind && going o.link) ≡ true → (unlinked going o).link ≡ 0
link-cut going o h = ap (λ b. if b then 0 else o.link) h

link-zero : (going : ℕ → Bool) (o : ObjectRow) → o.link ≡ 0 → (unlinked going o).link ≡ 0
link-zero going o h = elim (is_endpoint o.kind && going o.link) as (λ b. (if b then 0 else o.link) ≡ 0) [ true ↦ refl | false ↦ h ]

pub and_no_left : (a b : Bool) → a ≡ false → (a && b) ≡ false
and_no_left a b e = ap (λ c. c && b) e

pub and_no_right : (a b : Bool) → b ≡ false → (a && b) ≡ false
and_no_right true b e = e
and_no_right false b e = refl

module _ (S : State) (sound : IsSound S) (going : ℕ → Bool) (free : (x : ℕ) → going x ≡ true → is_supported S x ≡ false) where
  abbrev rest : State
  rest = without S going

  not_going : (x : ℕ) → KeptBy S x → going x ≡ false
  not_going x k = not_true (going x) (λ t. true≢false (is_supported S x) (kept-supported S x k) (free x t))

  same_counters : counters rest ≡ counters S
  same_counters = counters-without going S

  left-typed : (k : RowKey) (r : Row) → row rest k ≡ Some r → suits k r ≡ true
  left-typed k r e = changed-suits (left going) k (left-suits going k) (row S k) (sound.typed k) r (sym (row-without going S k) ∙ e)

  left-root : kind_at rest root_job ≡ Some kind.Job
  left-root =
      let w = kind_at-some S root_job kind.Job sound.root in
      let here : object rest root_job ≡ Some (unlinked going w.0) = stays going S root_job w.0 w.1 (not_going root_job (by_itself w.0 w.1 (or_right (is_live_process w.0) _ refl))) in
      ap (option_map (λ (o : ObjectRow). o.kind)) here ∙ ap Some w.2

  left-peer : (x : ℕ) (o : ObjectRow) → going x ≡ false → is_endpoint o.kind ≡ true → IsPeer S x o → ((unlinked going o).link ≡ 0) ⊎ IsPeer rest x (unlinked going o)
  left-peer x o g e p =
      elim (going o.link) as (λ b. going o.link ≡ b → ((unlinked going o).link ≡ 0) ⊎ IsPeer rest x (unlinked going o)) [
        | true ↦ λ t. inl (link-cut going o (and_both _ _ e t))
        | false ↦ λ t.
            let same : (unlinked going o).link ≡ o.link = link-kept going o (and_no_right (is_endpoint o.kind) _ t) in
            let back : (unlinked going p.peer).link ≡ x = link-kept going p.peer (and_no_right (is_endpoint p.peer.kind) _ (ap going p.back ∙ g)) ∙ p.back in
            inr (record {
              peer = unlinked going p.peer;
              there = ap (object rest) same ∙ stays going S o.link p.peer p.there t;
              same_kind = p.same_kind;
              back = back;
              apart = λ q. p.apart (sym same ∙ q);
            })
      ] refl

  left-child : (x : ℕ) (o : ObjectRow) → object S x ≡ Some o → has_parent x o ≡ true → IsChild S x o → IsChild rest x (unlinked going o)
  left-child x o h parent c =
      let same : (unlinked going o).link ≡ o.link = link-kept going o (and_no_left _ (going o.link) (has_parent-not-endpoint x o parent)) in
      let t : going o.link ≡ false = not_going o.link (by_child c.parent x o c.there c.live h (has_parent-task x o parent) refl) in
      record {
        parent = unlinked going c.parent;
        there = ap (object rest) same ∙ stays going S o.link c.parent c.there t;
        live = c.live;
        smaller = subst (λ l. l < x) (sym same) c.smaller;
      }

  left-object : (x : ℕ) (o : ObjectRow) → object S x ≡ Some o → going x ≡ false → SoundObject rest x (unlinked going o)
  left-object x o h g =
      let s : SoundObject S x o = sound.of_objects x o h in
      record {
        low = s.low;
        high = subst (λ (c : Counters). x < c.next_koid) (sym same_counters) s.high;
        peers = λ e. elim (s.peers e) [ inl z ↦ inl (link-zero going o z) | inr p ↦ left-peer x o g e p ];
        parents = λ p. left-child x o h p (s.parents p);
        alone = λ e p. link-zero going o (s.alone e p);
        lives = s.lives;
        signals = s.signals;
      }

  left-objects : (x : ℕ) (o : ObjectRow) → object rest x ≡ Some o → SoundObject rest x o
  left-objects x o e =
      let w = stayed going S x o e in
      subst (λ z. SoundObject rest x z) (sym w.2) (left-object x w.0 w.1 w.3)

  next-left : (x : ℕ) (o : ObjectRow) → object S x ≡ Some o → going x ≡ false → next_at rest x ≡ next_at S x
  next-left x o h g = ap object_next (stays going S x o h g) ∙ sym (ap object_next h)

  exists-left : (x : ℕ) → exists S x ≡ true → going x ≡ false → exists rest x ≡ true
  exists-left x e g = let w = some-exists S x e in exists-some rest x _ (stays going S x w.0 w.1 g)

  kind-left : (x : ℕ) (made : Kind) → kind_at S x ≡ Some made → going x ≡ false → kind_at rest x ≡ Some made
  kind-left x made e g =
      let w = kind_at-some S x made e in
      ap (option_map (λ (o : ObjectRow). o.kind)) (stays going S x w.0 w.1 g) ∙ ap Some w.2

  next-kind-left : (x : ℕ) (made : Kind) → kind_at S x ≡ Some made → going x ≡ false → next_at rest x ≡ next_at S x
  next-kind-left x made e g = let w = kind_at-some S x made e in next-left x w.0 w.1 g

  left-entries : (p h : ℕ) (held : Held) → entry rest p h ≡ Some held → SoundEntry rest p h held
  left-entries p h held e =
      let was : entry S p h ≡ Some held = sym (entry-without going S p h) ∙ e in
      let s : SoundEntry S p h held = sound.of_entries p h held was in
      let w = has_live_process-some S p s.owner in
      let g : going p ≡ false = not_going p (by_itself w.0 w.1 (or_left _ _ w.2)) in
      record {
        owner = some-has_live_process rest p (unlinked going w.0) (stays going S p w.0 w.1 g) w.2;
        value = (s.value.0, s.value.1, subst (λ m. s.value.0 < m) (sym (next-left p w.0 w.1 g)) s.value.2);
        names = exists-left held.koid s.names (not_going held.koid (by_entry p h held was refl));
      }

  left-messages : (e n : ℕ) (m : MessageContent) → message rest e n ≡ Some m → SoundMessage rest e n m
  left-messages e n m h =
      let was = message-stayed going S e n m h in
      let s : SoundMessage S e n m = sound.of_messages e n m was.1 in
      record {
        owner = kind-left e kind.Channel s.owner was.0;
        number = subst (λ b. n < b) (sym (next-kind-left e kind.Channel s.owner was.0)) s.number;
        names = all_map m.handles (λ held l x. exists-left held.koid x (not_going held.koid (by_message e n m held was.1 l refl))) s.names;
        within = s.within;
      }

  left-packets : (p n : ℕ) (k : Packet) → packet rest p n ≡ Some k → SoundPacket rest p n
  left-packets p n k h =
      let was = packet-stayed going S p n k h in
      let s : SoundPacket S p n = sound.of_packets p n k was.1 in
      record {
        owner = kind-left p kind.Port s.owner was.0;
        number = subst (λ b. n < b) (sym (next-kind-left p kind.Port s.owner was.0)) s.number;
      }

  left-waits : (n : ℕ) (w : Wait) → wait rest n ≡ Some w → SoundWait rest n w
  left-waits n w h =
      let was = wait-stayed going S n w h in
      let s : SoundWait S n w = sound.of_waits n w was.0 in
      record {
        number = subst (λ (c : Counters). n < c.next_wait) (sym same_counters) s.number;
        held = s.held;
        there = entry-without going S w.process w.handle ∙ s.there;
        port = kind-left w.port kind.Port s.port was.1;
      }

  left-pending : (x : ℕ) → pending rest x ≤ pending S x
  unfolding without
  left-pending x = count_row-change (is_user_packet_of x) (left going) (left-user going x) S

  left-links : SameLinks rest S
  left-links x o e t =
      let w = stayed going S x o e in
      let task : is_running_task w.0 ≡ true = ap is_running_task (sym w.2) ∙ t in
      ap object_link w.1 ∙ sym (link-kept going w.0 (and_no_left _ (going w.0.link) (task-not-endpoint w.0 task))) ∙ ap (λ (q : ObjectRow). q.link) (sym w.2)

  left-depths : (x : ℕ) (o : ObjectRow) → object rest x ≡ Some o → is_live_job o ≡ true → depth rest x ≤ 32
  left-depths x o e live =
      let w = stayed going S x o e in
      let same : depth rest x ≡ depth S x = same_depth rest S (sound-above rest left-objects) left-links x o e (or_left _ _ live) in
      let was : depth S x ≤ 32 = sound.depths x w.0 w.1 (ap is_live_job (sym w.2) ∙ live) in
      subst (λ d. d ≤ 32) (sym same) was

  left-criticals : (x : ℕ) (o : ObjectRow) → object rest x ≡ Some o → SoundCritical rest x o
  left-criticals x o e =
      let w = stayed going S x o e in
      let lives : is_live_process o ≡ is_live_process w.0 = ap is_live_process w.2 in
      same_critical S rest x w.0 o (ap (λ (q : ObjectRow). q.critical) w.2) lives
      (λ live. same_chain rest S (sound-above rest left-objects) left-links x o e (or_right (is_live_job o) _ (lives ∙ live)))
      (sound.criticals x w.0 w.1)

  pub sound-without : IsSound (without S going)
  sound-without = record {
    typed = left-typed;
    root = left-root;
    of_objects = left-objects;
    of_entries = left-entries;
    of_messages = left-messages;
    of_packets = left-packets;
    of_waits = left-waits;
    ports = λ x. let a : pending rest x ≤ pending S x = left-pending x in let b : pending S x ≤ 2048 = sound.ports x in omega arith;
    depths = left-depths;
    criticals = left-criticals;
  }
