-- A list is judged from its left, one value after another; what a write sends, and where, is what its checks find.
use Rattle.std.proofs.Common.{◌≡◌, ◌<◌, ◌≤◌, ℕ, ◌+◌, ◌^◌, Bool, true, false, ◌||◌, List, [], ◌∷◌, ◌++◌, length, get_or, take, drop, refl, sym, ap, ◌∙◌, subst, arith, append_assoc, append-nil}
use Rattle.std.specs.Prelude.{Option, None, Some, Result, Ok, Err, ok_or, not, ◌==◌}
use Rattle.std.proofs.lemmas.List.{drop_more}
use Rattle.std.proofs.lemmas.List.Folds.{list_any_more}
use Rattle.zt_bits.specs.declared.kinds.Kind.TheVariants as kind
use Rattle.zt_bits.specs.declared.statuses.Status.{Status}
use Rattle.zt_bits.specs.declared.statuses.Status.TheVariants as status
use Rattle.zt_rows.specs.declared.calls.Reply.{Reply}
use Rattle.zt_rows.specs.declared.calls.Reply.TheVariants as reply
use Rattle.zt_rows.specs.declared.rows.Held.{Held}
use Rattle.zt_rows.specs.declared.rows.ObjectRow.{ObjectRow}
use Rattle.zt_rows.specs.Contents.{MessageContent}
use Rattle.zt_rows.specs.State.{State}
use Rattle.zt_rows.specs.Reads.{object, entry}
use Rattle.zt_rows.specs.Tests.{is_channel, is_endpoint, has_all, among, next_at, object_next}
use Rattle.zt_rows.specs.Room.{HasRoom, NextFits}
use Rattle.zt_rows.specs.Handles.{◌>>=◌, check, handle, done, answered, take_out_all}
use Rattle.zt_rows.specs.ChannelCalls.{sent, push_message, channel_write}
use Rattle.zt_rows.specs.Consistent.{IsSound}
use Rattle.zt_rows.proofs.TakeLaws.{object-taken}
use Rattle.zt_rows.proofs.StepLaws.{peer_kind}
use Rattle.zt_rows.proofs.SentLaws.{bound, found, is_channel-is}
use Rattle.zt_store.specs.StepView.{Stepping, Advanced}
use Rattle.zt_queues.specs.QueueEnd.{pushed_to, pushed}
use Rattle.zt_calls.specs.ProofsOnly.SentMessage.{sendable, message_for}
use Rattle.zt_calls.proofs.ListLemmas.{drop-past}
use Rattle.zt_calls.proofs.GoingOn.{further, reached}

-- ---- the list

-- what was found so far, and then what the rest gives
abbrev pub joined : List Held → Result (List Held) Status → Result (List Held) Status
joined found (Ok others) = Ok (found ++ others)
joined found (Err wrong) = Err wrong

module _ (S : State) (p h : ℕ) where
  judged : (o : Option Held) (apart other : Bool) (may : Held → Bool) (k : Held → Result (List Held) Status) → (ok_or o status.BadHandle >>= (λ held. check apart status.BadHandle >>= (λ _. check other status.NotSupported >>= (λ _. check (may held) status.AccessDenied >>= (λ _. k held))))) ≡ ((ok_or o status.BadHandle >>= (λ held. check apart status.BadHandle >>= (λ _. check other status.NotSupported >>= (λ _. check (may held) status.AccessDenied >>= (λ _. Ok held))))) >>= k)
  judged None apart other may k = refl
  judged (Some held) false other may k = refl
  judged (Some held) true false may k = refl
  judged (Some held) true true may k = elim (may held) as (λ b. (check b status.AccessDenied >>= (λ _. k held)) ≡ ((check b status.AccessDenied >>= (λ _. Ok held)) >>= k)) [ true ↦ refl | false ↦ refl ]

  -- the first value of a list is judged, and then the others
  one-judged : (earlier : List ℕ) (g : ℕ) (later : List ℕ) → sent S p h earlier (g ∷ later) ≡ (sendable S p h earlier g >>= (λ held. sent S p h (g ∷ earlier) later >>= (λ others. Ok (held ∷ others))))
  one-judged earlier g later =
      judged (entry S p g) (not (among earlier g)) (not (g == h)) (λ held. has_all held.rights.0 0x2) (λ held. sent S p h (g ∷ earlier) later >>= (λ others. Ok (held ∷ others)))

  -- only which values stand before counts
  sent-alike : (values earlier others : List ℕ) → ((g : ℕ) → among earlier g ≡ among others g) → sent S p h earlier values ≡ sent S p h others values
  sent-alike [] earlier others same = refl
  sent-alike (g ∷ later) earlier others same =
      one-judged earlier g later
      ∙ ap (λ b. (ok_or (entry S p g) status.BadHandle >>= (λ held. check (not b) status.BadHandle >>= (λ _. check (not (g == h)) status.NotSupported >>= (λ _. check (has_all held.rights.0 0x2) status.AccessDenied >>= (λ _. Ok held))))) >>= (λ held. sent S p h (g ∷ earlier) later >>= (λ rest. Ok (held ∷ rest)))) (same g)
      ∙ ap (λ r. sendable S p h others g >>= (λ held. r >>= (λ rest. Ok (held ∷ rest)))) (sent-alike later (g ∷ earlier) (g ∷ others) (λ n. ap (λ b. (g == n) || b) (same n)))
      ∙ sym (one-judged others g later)

  or_swap : (a b : Bool) → (a || b) ≡ (b || a)
  or_swap true true = refl
  or_swap true false = refl
  or_swap false true = refl
  or_swap false false = refl

  module _ (values : List ℕ) (i g : ℕ) (below : i < length values) (at : g ≡ get_or values i g) where
    before-more : (n : ℕ) → among (g ∷ take i values) n ≡ among (take (i + 1) values) n
    before-more n =
        or_swap (g == n) (among (take i values) n)
        ∙ ap (λ x. among (take i values) n || (x == n)) at
        ∙ sym (list_any_more (λ m. m == n) values i g below)

    here : sent S p h (take i values) (drop i values) ≡ (sendable S p h (take i values) g >>= (λ held. sent S p h (take (i + 1) values) (drop (i + 1) values) >>= (λ others. Ok (held ∷ others))))
    here =
        ap (sent S p h (take i values)) (drop_more values i g below ∙ ap (λ x. x ∷ drop (i + 1) values) (sym at))
        ∙ one-judged (take i values) g (drop (i + 1) values)
        ∙ ap (λ r. sendable S p h (take i values) g >>= (λ held. r >>= (λ others. Ok (held ∷ others)))) (sent-alike (drop (i + 1) values) (g ∷ take i values) (take (i + 1) values) before-more)

    behind : (found : List Held) (held : Held) (r : Result (List Held) Status) → joined (found ++ held ∷ []) r ≡ joined found (r >>= (λ others. Ok (held ∷ others)))
    behind found held (Ok others) = ap Ok (append_assoc found (held ∷ []) others)
    behind found held (Err wrong) = refl

    -- one more value that can be sent
    pub sent-more : (found : List Held) (held : Held) (all : Result (List Held) Status) → joined found (sent S p h (take i values) (drop i values)) ≡ all → sendable S p h (take i values) g ≡ Ok held → joined (found ++ held ∷ []) (sent S p h (take (i + 1) values) (drop (i + 1) values)) ≡ all
    sent-more found held all before is =
        behind found held (sent S p h (take (i + 1) values) (drop (i + 1) values))
        ∙ ap (λ r. joined found (r >>= (λ one. sent S p h (take (i + 1) values) (drop (i + 1) values) >>= (λ others. Ok (one ∷ others))))) (sym is)
        ∙ ap (joined found) (sym here)
        ∙ before

  -- all values can be sent
  pub sent-all : (values : List ℕ) (i : ℕ) (found : List Held) (all : Result (List Held) Status) → length values ≤ i → joined found (sent S p h (take i values) (drop i values)) ≡ all → all ≡ Ok found
  sent-all values i found all past before =
      sym before
      ∙ ap (λ l. joined found (sent S p h (take i values) l)) (drop-past values i past)
      ∙ ap Ok (append-nil found)

-- ---- the message

-- the message of these bytes and what these handles hold, for an endpoint
abbrev addressed : List ℕ → ℕ → List Held → Result (ℕ × MessageContent) Status
addressed bytes x handles = Ok (x, record { bytes = bytes; handles = handles })

holds : (b : Bool) (wrong : Status) (x : Unit {0}) → check b wrong ≡ Ok x → b ≡ true
holds true wrong x e = refl
holds false wrong x e = cc

-- ---- the write

-- the message comes to the end of the queue, or the state stays and the status is the answer
abbrev written : Result (ℕ × MessageContent) Status → State → State × Reply
written (Ok to) T = (pushed T to.0 to.1, done)
written (Err wrong) T = (T, reply.Status wrong)

module _ (S : State) (p h : ℕ) (bytes values : List ℕ) where
  abbrev rest : State
  rest = take_out_all S p (among values)

  abbrev content : List Held → MessageContent
  content handles = record { bytes = bytes; handles = handles }

  by_peer : (x : ℕ) (handles : List Held) (r : Option ObjectRow) → object S x ≡ r → answered rest (ok_or r status.PeerClosed >>= (λ peer. Ok (push_message x peer (content handles) rest, done))) ≡ written (ok_or r status.PeerClosed >>= (λ _. addressed bytes x handles)) rest
  by_peer x handles None there = refl
  by_peer x handles (Some peer) there =
      let same : Some peer ≡ object rest x = sym there ∙ sym (object-taken p (among values) S x) in
      ap (λ (o : Option ObjectRow). (pushed_to o rest x (content handles), done)) same

  by_list : (x : ℕ) (r : Result (List Held) Status) → answered rest (r >>= (λ handles. ok_or (object S x) status.PeerClosed >>= (λ peer. Ok (push_message x peer (content handles) rest, done)))) ≡ written (r >>= (λ handles. ok_or (object S x) status.PeerClosed >>= (λ _. addressed bytes x handles))) rest
  by_list x (Err wrong) = refl
  by_list x (Ok handles) = by_peer x handles (object S x) refl

  by_handle : (r : Result (Held × ObjectRow) Status) → answered rest (r >>= (λ (_, o). sent S p h [] values >>= (λ handles. ok_or (object S o.link) status.PeerClosed >>= (λ peer. Ok (push_message o.link peer (content handles) rest, done))))) ≡ written (r >>= (λ (_, o). sent S p h [] values >>= (λ handles. ok_or (object S o.link) status.PeerClosed >>= (λ _. addressed bytes o.link handles)))) rest
  by_handle (Err wrong) = refl
  by_handle (Ok (_, o)) = by_list o.link (sent S p h [] values)

  write-is : channel_write S p h bytes values ≡ written (message_for S p h bytes values) rest
  write-is = by_handle (handle S p h is_channel 0x8)

  -- the message is for a channel that has room for one more
  pub destination-fits : (x : ℕ) (m : MessageContent) → IsSound S → HasRoom S → message_for S p h bytes values ≡ Ok (x, m) → next_at S x ≤ 2 ^ 62
  destination-fits x m sound room e =
      let one = bound (handle S p h is_channel 0x8) (λ (_, o). sent S p h [] values >>= (λ handles. ok_or (object S o.link) status.PeerClosed >>= (λ _. addressed bytes o.link handles))) (x, m) e in
      let o : ObjectRow = one.0.1 in
      let two = bound (sent S p h [] values) (λ handles. ok_or (object S o.link) status.PeerClosed >>= (λ _. addressed bytes o.link handles)) (x, m) one.2 in
      let three = bound (ok_or (object S o.link) status.PeerClosed) (λ _. addressed bytes o.link two.0) (x, m) two.2 in
      let peer : ObjectRow = three.0 in
      let there : object S o.link ≡ Some peer = found (object S o.link) status.PeerClosed peer three.1 in
      let link : o.link ≡ x = ok_first o.link x (content two.0) m three.2 in
      let near = named one.0 one.1 in
      let same : peer.kind ≡ o.kind = peer_kind S sound one.0.0.koid o peer near.0 (ap is_endpoint (is_channel-is o.kind near.1)) there in
      let room_there : NextFits kind.Channel peer.next = subst (λ k. NextFits k peer.next) (same ∙ is_channel-is o.kind near.1) (room.owners o.link peer there) in
      let next : next_at S x ≡ peer.next = ap (next_at S) (sym link) ∙ ap object_next there in
      omega arith
    where
      ok_first : (a b : ℕ) (c d : MessageContent) → ◌≡◌ {A = Result (ℕ × MessageContent) Status} (Ok (a, c)) (Ok (b, d)) → a ≡ b
      ok_first a b c d e = let pairs : ◌≡◌ {A = ℕ × MessageContent} (a, c) (b, d) = cc in ap (λ (z : ℕ × MessageContent). z.0) pairs

      named : (w : Held × ObjectRow) → handle S p h is_channel 0x8 ≡ Ok w → (object S w.0.koid ≡ Some w.1) × (is_channel w.1.kind ≡ true)
      named w e =
          let a = bound (ok_or (entry S p h) status.BadHandle) _ w e in
          let b = bound (ok_or (object S a.0.koid) status.BadHandle) _ w a.2 in
          let c = bound (check (is_channel b.0.kind) status.WrongType) _ w b.2 in
          let d = bound (check (has_all a.0.rights.0 0x8) status.AccessDenied) _ w c.2 in
          let is : ◌≡◌ {A = Held × ObjectRow} (a.0, b.0) w = cc in
          subst (λ (w : Held × ObjectRow). (object S w.0.koid ≡ Some w.1) × (is_channel w.1.kind ≡ true)) is
          (found (object S a.0.koid) status.BadHandle b.0 b.1, holds (is_channel b.0.kind) status.WrongType c.0 c.1)

-- what a step needs and does once the entries are out
module _ (s t : Stepping) (p h : ℕ) (bytes values listed : List ℕ) (all : listed ≡ values) (out : Advanced s t (take_out_all s.current p (among listed))) where
  abbrev left : State
  left = take_out_all s.current p (among values)

  went : Advanced s t (take_out_all s.current p (among values))
  went = subst (λ l. Advanced s t (take_out_all s.current p (among l))) all out

  as_found : (r : Result (ℕ × MessageContent) Status) → message_for s.current p h bytes values ≡ r → channel_write s.current p h bytes values ≡ written r left
  as_found r found = write-is s.current p h bytes values ∙ ap (λ r. written r left) found

  pub push-fits : (to : ℕ × MessageContent) → IsSound s.current → HasRoom s.current → message_for s.current p h bytes values ≡ Ok to → next_at t.current to.0 + 1 < 2 ^ 64
  push-fits to sound room found =
      let n : next_at s.current to.0 ≤ 2 ^ 62 = destination-fits s.current p h bytes values to.0 to.1 sound room found in
      let same : next_at t.current to.0 ≡ next_at s.current to.0 = ap (λ S. next_at S to.0) went.1 ∙ ap object_next (object-taken p (among values) s.current to.0) in
      omega arith

  -- the message is sent
  pub write-sends : (u : Stepping) (to : ℕ × MessageContent) → message_for s.current p h bytes values ≡ Ok to → Advanced t u (pushed t.current to.0 to.1) → (Advanced s u (channel_write s.current p h bytes values).0) × (done ≡ (channel_write s.current p h bytes values).1)
  write-sends u to found pushes =
      let is : channel_write s.current p h bytes values ≡ (pushed left to.0 to.1, done) = as_found (Ok to) found in
      (reached s u _ _ (further s t u left (λ S. pushed S to.0 to.1) went pushes) (ap (λ (d : State × Reply). d.0) (sym is)), ap (λ (d : State × Reply). d.1) (sym is))

  -- a check failed
  pub write-fails : (wrong : Status) → message_for s.current p h bytes values ≡ Err wrong → (Advanced s t (channel_write s.current p h bytes values).0) × (reply.Status wrong ≡ (channel_write s.current p h bytes values).1)
  write-fails wrong found =
      let is : channel_write s.current p h bytes values ≡ (left, reply.Status wrong) = as_found (Err wrong) found in
      (reached s t _ _ went (ap (λ (d : State × Reply). d.0) (sym is)), ap (λ (d : State × Reply). d.1) (sym is))
