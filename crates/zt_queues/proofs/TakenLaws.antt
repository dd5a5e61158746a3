-- What is left of a queue, and of a state, when its first message is taken away again and again.
use Rattle.std.proofs.Common.{◌≡◌, ◌<◌, ℕ, true, false, cond, List, [], ◌∷◌, ◌++◌, length, refl, sym, ap, ◌∙◌, subst, arith, append_assoc}
use Rattle.std.specs.Prelude.{Option, None, Some, if◌then◌else◌, option_and_then}
use Rattle.std.proofs.lemmas.Bool.{eqb-true, eq-eqb}
use Rattle.zt_rows.specs.declared.keys.RowKey.{RowKey}
use Rattle.zt_rows.specs.declared.keys.RowKey.TheVariants as key
use Rattle.zt_rows.specs.declared.rows.Held.{Held}
use Rattle.zt_rows.specs.declared.rows.Row.{Row}
use Rattle.zt_rows.specs.declared.rows.Row.TheVariants as rows
use Rattle.zt_rows.specs.Contents.{MessageContent}
use Rattle.zt_rows.specs.Keys.{rowkey_eq}
use Rattle.zt_rows.specs.ProofsOnly.KeyOrder.{rowkey_eq-equal}
use Rattle.zt_rows.specs.State.{State, row, put}
use Rattle.zt_rows.specs.Reads.{queued, queue}
use Rattle.zt_rows.specs.Settle.{is_message_of}
use Rattle.zt_rows.specs.Tests.{first}
use Rattle.zt_rows.proofs.StateLaws.{row-put, row-change, same_state}
use Rattle.zt_rows.proofs.RowLaws.{In, row-in, filter_map-in}
use Rattle.zt_queues.specs.QueueFront.{without_message, popped, left_by, without_messages, handles_of}
use Rattle.zt_queues.proofs.FrontLaws.{queue-behind, queued-here, queue-row}

-- ---- the first message

pub popped_some : (S : State) (e n : ℕ) (m : MessageContent) → Some (n, m) ≡ first (queue S e) → popped S e ≡ put S (key.Msg e n) None
popped_some S e n m h = ap (λ o. without_message o S e) (sym h)

pub popped_none : (S : State) (e : ℕ) → None ≡ first (queue S e) → popped S e ≡ S
popped_none S e h = ap (λ o. without_message o S e) (sym h)

first-cons : {A : Type 0} (x : A) (xs : List A) → Some x ≡ first xs → (later : List A) × (xs ≡ x ∷ later)
first-cons x [] h = cc
first-cons x (y ∷ ys) h = (ys, let e : y ≡ x = cc in ap (λ z. z ∷ ys) e)

first-nil : {A : Type 0} (xs : List A) → None ≡ first xs → xs ≡ []
first-nil [] h = refl
first-nil (y ∷ ys) h = cc

module _ (S : State) (e n : ℕ) (m : MessageContent) (is : Some (n, m) ≡ first (queue S e)) where
  abbrev fewer : State
  fewer = put S (key.Msg e n) None

  pub queue-popped : queue S e ≡ (n, m) ∷ queue (put S (key.Msg e n) None) e
  queue-popped =
      let w = first-cons (n, m) (queue S e) is in
      w.1 ∙ ap (λ l. (n, m) ∷ l) (sym (queue-behind S e n m w.0 w.1))

  pub shorter : length (queue (put S (key.Msg e n) None) e) < length (queue S e)
  shorter = let l : length (queue S e) ≡ length ((n, m) ∷ queue fewer e) = ap length queue-popped in omega arith

  -- the handles of the first message, and those of the others
  pub handles-popped : (taken : List Held) → (taken ++ m.handles) ++ handles_of (queue (put S (key.Msg e n) None) e) ≡ taken ++ handles_of (queue S e)
  handles-popped taken = append_assoc taken m.handles (handles_of (queue fewer e)) ∙ ap (λ q. taken ++ handles_of q) (sym queue-popped)

  here : row S (key.Msg e n) ≡ Some (rows.Msg m)
  here = queue-row S e n m (first-cons (n, m) (queue S e) is).0 (first-cons (n, m) (queue S e) is).1

  goes-anyway : (k : RowKey) → option_and_then (left_by e k) (cond (rowkey_eq k (key.Msg e n)) None (row S k)) ≡ option_and_then (left_by e k) (row S k)
  goes-anyway k =
      elim (rowkey_eq k (key.Msg e n)) as (λ b. rowkey_eq k (key.Msg e n) ≡ b → option_and_then (left_by e k) (cond b None (row S k)) ≡ option_and_then (left_by e k) (row S k)) [
        | true ↦ λ t.
            let is_it : k ≡ key.Msg e n = rowkey_eq-equal k (key.Msg e n) t in
            sym
            (ap (λ q. option_and_then (left_by e q) (row S q)) is_it
            ∙ ap (option_and_then (left_by e (key.Msg e n))) here
            ∙ ap (λ b. if b then None else Some (rows.Msg m)) (eq-eqb e e refl))
        | false ↦ λ _. refl
      ] refl

  pub without-popped : without_messages (put S (key.Msg e n) None) e ≡ without_messages S e
  unfolding without_messages
  without-popped =
      same_state _ _
      (λ k. row-change (left_by e) fewer k
      ∙ ap (option_and_then (left_by e k)) (row-put S (key.Msg e n) None k)
      ∙ goes-anyway k
      ∙ sym (row-change (left_by e) S k))

-- ---- an empty queue

module _ (S : State) (e : ℕ) (none : None ≡ first (queue S e)) where
  pub handles-none : handles_of (queue S e) ≡ []
  handles-none = ap handles_of (first-nil (queue S e) none)

  no_message : (k : RowKey) (r : Row) → row S k ≡ Some r → is_message_of e k r ≡ true → ⊥
  unfolding queue
  no_message (key.Msg f n) (rows.Msg m) there is =
      let same : f ≡ e = eqb-true f e is in
      let at : row S (key.Msg e n) ≡ Some (rows.Msg m) = ap (λ x. row S (key.Msg x n)) (sym same) ∙ there in
      subst (λ q. In (n, m) q) (first-nil (queue S e) none) (filter_map-in (queued e) (n, m) (key.Msg e n, rows.Msg m) S.rows (row-in S (key.Msg e n) (rows.Msg m) at) (queued-here e n m))
  no_message _ _ there is = cc

  all-left : (k : RowKey) (o : Option Row) → row S k ≡ o → option_and_then (left_by e k) o ≡ o
  all-left k None there = refl
  all-left k (Some r) there =
      elim (is_message_of e k r) as (λ b. is_message_of e k r ≡ b → (if b then None else Some r) ≡ Some r) [
        | true ↦ λ t. absurd (no_message k r there t)
        | false ↦ λ _. refl
      ] refl

  pub without-none : without_messages S e ≡ S
  unfolding without_messages
  without-none = same_state _ _ (λ k. row-change (left_by e) S k ∙ all-left k (row S k) refl)
