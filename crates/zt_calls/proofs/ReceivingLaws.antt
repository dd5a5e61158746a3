-- Handles are given to a process one after another; and a message that is taken leaves its process as it was.
use Rattle.std.proofs.Common.{◌≡◌, ◌<◌, ◌≤◌, ℕ, ◌+◌, ◌-◌, ◌^◌, List, [], ◌∷◌, ◌++◌, length, get_or, drop, refl, sym, ap, ◌∙◌, arith, true, append_assoc, append-nil}
use Rattle.std.specs.Prelude.{Option, None, Some}
use Rattle.std.specs.Option.{option_map}
use Rattle.std.proofs.lemmas.List.{drop_more}
use Rattle.zt_rows.specs.declared.calls.Reply.TheVariants as reply
use Rattle.zt_rows.specs.declared.keys.RowKey.TheVariants as key
use Rattle.zt_rows.specs.declared.rows.Held.{Held}
use Rattle.zt_rows.specs.Contents.{MessageContent, IsWithinMessage}
use Rattle.zt_rows.specs.State.{State, put}
use Rattle.zt_rows.specs.Reads.{as_object, object, queue, has_live_process}
use Rattle.zt_rows.specs.Tests.{next_at, first}
use Rattle.zt_rows.specs.Room.{HasRoom}
use Rattle.zt_rows.specs.Handles.{caller, value_of, install, install_all, values_from}
use Rattle.zt_rows.specs.Consistent.{IsSound}
use Rattle.zt_rows.proofs.StateLaws.{row-put-other}
use Rattle.zt_rows.proofs.ReceivedLaws.{first-message}
use Rattle.zt_store.specs.StepView.{Stepping, Advanced}
use Rattle.zt_queues.specs.QueueFront.{without_message, popped}
use Rattle.zt_calls.specs.ProofsOnly.ReceivedMessage.{received}
use Rattle.zt_calls.proofs.GoingOn.{further, reached}
use Rattle.zt_calls.proofs.ListLemmas.{drop-past}
use Rattle.zt_calls.proofs.CallerLaws.{room-installs, caller-same, next-same, caller-next, caller-of-installed, next-of-installed}

-- ---- one handle after another

-- a step gave the process one more handle of those in the list
module _ (s t : Stepping) (p : ℕ) (handles : List Held) (i : ℕ) (held : Held) (below : i < length handles) (at : held ≡ get_or handles i held) (installed : Advanced s t (install p (caller s.current p) held s.current)) where
  left : drop i handles ≡ held ∷ drop (i + 1) handles
  left = drop_more handles i held below ∙ ap (λ h. h ∷ drop (i + 1) handles) (sym at)

  more : next_at t.current p ≡ next_at s.current p + 1
  more =
      ap (λ S. next_at S p) installed.1
      ∙ next-of-installed s.current p (caller s.current p) held
      ∙ ap (λ n. n + 1) (caller-next s.current p)

  pub next-more : (n : ℕ) → next_at s.current p ≡ n + i → next_at t.current p ≡ n + (i + 1)
  next-more n h = let one : next_at t.current p ≡ next_at s.current p + 1 = more in omega arith

  pub values-more : (value : ℕ) (values all : List ℕ) → value ≡ value_of (next_at s.current p) → values ++ values_from (next_at s.current p) (drop i handles) ≡ all → (values ++ value ∷ []) ++ values_from (next_at t.current p) (drop (i + 1) handles) ≡ all
  values-more value values all is before =
      append_assoc values (value ∷ []) _
      ∙ ap (λ v. values ++ v ∷ values_from (next_at t.current p) (drop (i + 1) handles)) is
      ∙ ap (λ n. values ++ value_of (next_at s.current p) ∷ values_from n (drop (i + 1) handles)) more
      ∙ ap (λ l. values ++ values_from (next_at s.current p) l) (sym left)
      ∙ before

  pub installs-more : (T : State) → install_all p (caller s.current p) (drop i handles) s.current ≡ T → install_all p (caller t.current p) (drop (i + 1) handles) t.current ≡ T
  installs-more T before =
      ap (λ S. install_all p (caller S p) (drop (i + 1) handles) S) installed.1
      ∙ ap (λ me. install_all p me (drop (i + 1) handles) (install p (caller s.current p) held s.current)) (caller-of-installed s.current p (caller s.current p) held)
      ∙ ap (λ l. install_all p (caller s.current p) l s.current) (sym left)
      ∙ before

module _ (handles : List Held) (i : ℕ) (past : length handles ≤ i) where
  pub values-all : (n : ℕ) (values all : List ℕ) → values ++ values_from n (drop i handles) ≡ all → values ≡ all
  values-all n values all h =
      sym (append-nil values) ∙ ap (λ l. values ++ values_from n l) (sym (drop-past handles i past)) ∙ h

  pub installs-all : (p : ℕ) (C T : State) → install_all p (caller C p) (drop i handles) C ≡ T → C ≡ T
  installs-all p C T h = ap (λ l. install_all p (caller C p) l C) (sym (drop-past handles i past)) ∙ h

-- ---- a message is taken

module _ (S : State) (x p : ℕ) where
  object-without_message : (o : Option (ℕ × MessageContent)) → object (without_message o S x) p ≡ object S p
  object-without_message (Some (n, m)) = ap as_object (row-put-other S (key.Msg x n) None (key.Object p) refl)
  object-without_message None = refl

  object-popped : object (popped S x) p ≡ object S p
  object-popped = object-without_message (first (queue S x))

-- the process has values for all handles of a message
pub read-fits : (s t : Stepping) (p x : ℕ) (handles : List Held) → HasRoom s.current → has_live_process s.current p ≡ true → Advanced s t (popped s.current x) → length handles ≤ 64 → next_at t.current p + length handles ≤ 2 ^ 30
read-fits s t p x handles room live went few =
    let n : next_at s.current p ≤ 2 ^ 30 - 64 = room-installs s.current p room live in
    let same : next_at t.current p ≡ next_at s.current p = ap (λ S. next_at S p) went.1 ∙ next-same s.current (popped s.current x) p (object-popped s.current x p) in
    omega arith

module _ (s t : Stepping) (p x : ℕ) where
  took : (o : Option (ℕ × MessageContent)) (m : MessageContent) (u : Stepping) (values : List ℕ) → Some m ≡ option_map (λ e. e.1) o → Advanced s t (without_message o s.current x) → Advanced t u (install_all p (caller t.current p) m.handles t.current) → values ≡ values_from (next_at t.current p) m.handles → (Advanced s u (received o s.current p x).0) × (reply.Message m.bytes values ≡ (received o s.current p x).1)
  took (Some (n, m')) m u values is went installed valued =
      let T : State = put s.current (key.Msg x n) None in
      let same : object T p ≡ object s.current p = object-without_message s.current x p (Some (n, m')) in
      let message : m ≡ m' = cc in
      let at : next_at t.current p ≡ (caller s.current p).next = ap (λ S. next_at S p) went.1 ∙ next-same s.current T p same ∙ sym (caller-next s.current p) in
      let there : Advanced s u (install_all p (caller T p) m.handles T) = further s t u T (λ S. install_all p (caller S p) m.handles S) went installed in
      (reached s u _ _ there (ap (λ me. install_all p me m.handles T) (caller-same s.current T p same) ∙ ap (λ (c : MessageContent). install_all p (caller s.current p) c.handles T) message), ap (reply.Message m.bytes) (valued ∙ ap (λ n. values_from n m.handles) at) ∙ ap (λ (c : MessageContent). reply.Message c.bytes (values_from (caller s.current p).next c.handles)) message)
  took None m u values is went installed valued = cc

  -- the message was taken, and its handles given to the process
  pub received-some : (m : MessageContent) (u : Stepping) (values : List ℕ) → Some m ≡ option_map (λ e. e.1) (first (queue s.current x)) → Advanced s t (popped s.current x) → Advanced t u (install_all p (caller t.current p) m.handles t.current) → values ≡ values_from (next_at t.current p) m.handles → (Advanced s u (received (first (queue s.current x)) s.current p x).0) × (reply.Message m.bytes values ≡ (received (first (queue s.current x)) s.current p x).1)
  received-some m u values is went installed valued = took (first (queue s.current x)) m u values is went installed valued

-- the first message of a queue is within the limits of a message
pub first-within : (S : State) (x n : ℕ) (m : MessageContent) → IsSound S → Some (n, m) ≡ first (queue S x) → IsWithinMessage m.bytes m.handles
first-within S x n m sound h = (sound.of_messages x n m (first-message S x n m (sym h))).within
