-- An object taken out stage by stage: its row, its queue, its packets and the waits for it.
use Rattle.std.proofs.Common.{◌≡◌, ◌≤◌, ◌<◌, ℕ, ◌+◌, true, false, ◌||◌, List, [], ◌∷◌, ◌++◌, length, ◌⊎◌, inl, inr, refl, sym, ap, ◌∙◌, subst, arith}
use Rattle.std.specs.Prelude.{Option, None, Some, if◌then◌else◌, ◌==◌, IsSome}
use Rattle.std.specs.Option.{option_map_or}
use Rattle.std.proofs.lemmas.Bool.{eqb-true, eq-eqb}
use Rattle.std.proofs.lemmas.List.{length-map, length-append}
use Rattle.std.proofs.lemmas.List.Folds.{list_any-append}
use Rattle.zt_rows.specs.declared.keys.RowKey.{RowKey}
use Rattle.zt_rows.specs.declared.keys.RowKey.TheVariants as key
use Rattle.zt_rows.specs.declared.rows.Held.{Held}
use Rattle.zt_rows.specs.declared.rows.ObjectRow.{ObjectRow}
use Rattle.zt_rows.specs.declared.rows.Wait.{Wait}
use Rattle.zt_rows.specs.declared.rows.Row.{Row}
use Rattle.zt_rows.specs.declared.rows.Row.TheVariants as rows
use Rattle.zt_rows.specs.Contents.{MessageContent}
use Rattle.zt_rows.specs.State.{State, row, put}
use Rattle.zt_rows.specs.Reads.{as_message, as_object, as_wait, object, message, wait}
use Rattle.zt_rows.specs.Room.{SuitsKey}
use Rattle.zt_rows.specs.Tests.{is_endpoint, among, link_at, object_link}
use Rattle.zt_rows.specs.Collect.{left, without}
use Rattle.zt_rows.proofs.StateLaws.{row-put-other, row-put-same}
use Rattle.zt_rows.proofs.RowLaws.{and_left, and_right, or_left, or_right, not_true, true≢false}
use Rattle.zt_rows.proofs.ReadLaws.{some_one, object-row, message-row}
use Rattle.zt_rows.proofs.SoundLaws.{and_no_right}
use Rattle.zt_cascade.specs.OneByOne.{is_named, IsReleased, by_message, by_link}
use Rattle.zt_cascade.specs.JoinedLinks.{IsJoined}
use Rattle.zt_index.specs.Chains.{IsNext}
use Rattle.zt_index.specs.Criteria.{is_for, waits_where}
use Rattle.zt_store.specs.KoidSets.{only}
use Rattle.zt_cascade.specs.ProofsOnly.RemovedObject.{left_at, left_behind, IsLeft, weighs, weight, IsPartly, koids, handles_in, AreHandlesListed}
use Rattle.zt_cascade.proofs.LeavingLaws.{left-none, left-object, left-wait, left-stays, behind-left, behind-none, behind-lighter, behind-gone, partly-behind, partly-more, partly-then, partly-end, all-left, suited-partly}

-- ---- its row, and the link of its peer

none-self : {A : Type 0} (x : ℕ) (v : A) → (if x == x then None else Some v) ≡ None
none-self x v = ap (λ b. if b then None else Some v) (eq-eqb x x refl)

module _ (x : ℕ) (S : State) (o : ObjectRow) (there : object S x ≡ Some o) where
  abbrev without_row : State
  without_row = left_behind x S (key.Object x)

  abbrev pub without_link : State
  without_link = left_behind x without_row (key.Object o.link)

  pub row-gone : put S (key.Object x) None ≡ without_row
  row-gone = behind-none x S (key.Object x) (rows.Object o) (object-row S x o there) (none-self x _)

  pub none-there : (T : State) → T ≡ put S (key.Object x) None → object T x ≡ None
  none-there T is = ap (λ (V : State). object V x) is ∙ ap as_object (row-put-same S (key.Object x) None)

  pub row-partly : IsPartly x S without_link
  row-partly = partly-then x S without_row without_link (partly-behind x S (key.Object x)) (partly-behind x without_row (key.Object o.link))

  pub row-messages : (n : ℕ) → message without_link x n ≡ message S x n
  row-messages n =
      ap as_message
      (row-put-other without_row (key.Object o.link) (left_at x without_row (key.Object o.link)) (key.Msg x n) refl
      ∙ row-put-other S (key.Object x) (left_at x S (key.Object x)) (key.Msg x n) refl)

  pub row-lighter : weight without_link + 1 ≤ weight S
  row-lighter =
      let a : weight without_row + 1 ≡ weight S = behind-gone x S (key.Object x) (rows.Object o) (object-row S x o there) (none-self x _) in
      let b : weight without_link ≤ weight without_row = behind-lighter x without_row (key.Object o.link) in
      omega arith

  -- what has x as its link is what x has as its link
  other-object : IsJoined S → (y : ℕ) → (y == x) ≡ false → (y == o.link) ≡ false → IsLeft x S (key.Object y)
  other-object joined y t u = left-object x y t (row S (key.Object y)) (λ p here h.
      let named : p.link ≡ x = eqb-true p.link x (and_right (is_endpoint p.kind) (p.link == x) h) in
      elim (joined.back y p here (and_left (is_endpoint p.kind) (p.link == x) h)) [
        | inl none ↦ none
        | inr back ↦
            let mine : o.link ≡ y = sym (ap object_link there) ∙ ap (link_at S) (sym named) ∙ back in
            absurd (true≢false (y == o.link) (eq-eqb y o.link (sym mine)) u)
      ])

  pub row-objects : IsJoined S → (y : ℕ) → IsLeft x without_link (key.Object y)
  row-objects joined y =
      elim (y == x) as (λ b. (y == x) ≡ b → IsLeft x without_link (key.Object y)) [
        | true ↦ λ t.
            subst (λ z. IsLeft x without_link (key.Object z)) (sym (eqb-true y x t))
            (left-stays x without_row without_link (key.Object x) (partly-behind x without_row (key.Object o.link)) (behind-left x S (key.Object x)))
        | false ↦ λ t.
            elim (y == o.link) as (λ b. (y == o.link) ≡ b → IsLeft x without_link (key.Object y)) [
              | true ↦ λ u. subst (λ z. IsLeft x without_link (key.Object z)) (sym (eqb-true y o.link u)) (behind-left x without_row (key.Object o.link))
              | false ↦ λ u. left-stays x S without_link (key.Object y) row-partly (other-object joined y t u)
            ] refl
      ] refl

-- ---- its queue

pub some-message : (S : State) (x n : ℕ) → IsSome (row S (key.Msg x n)) → SuitsKey (key.Msg x n) (row S (key.Msg x n)) → (m : MessageContent) × (message S x n ≡ Some m)
some-message S x n some suits = message_of (row S (key.Msg x n)) some suits
  where
    message_of : (r : Option Row) → IsSome r → SuitsKey (key.Msg x n) r → (m : MessageContent) × (as_message r ≡ Some m)
    message_of None e h = cc
    message_of (Some (rows.Msg m)) e h = (m, refl)
    message_of (Some _) e h = cc

pub among-koids : (handles : List Held) (y : ℕ) → among (koids handles) y ≡ is_named handles y
among-koids [] y = refl
among-koids (held ∷ rest) y = ap (λ b. (held.koid == y) || b) (among-koids rest y)

pub among-left : (xs ys : List ℕ) (y : ℕ) → among xs y ≡ true → among (xs ++ ys) y ≡ true
among-left xs ys y e = list_any-append (λ m. m == y) xs ys ∙ or_left (among xs y) (among ys y) e

pub among-right : (xs ys : List ℕ) (y : ℕ) → among ys y ≡ true → among (xs ++ ys) y ≡ true
among-right xs ys y e = list_any-append (λ m. m == y) xs ys ∙ or_right (among xs y) (among ys y) e

pub noted-none : (x : ℕ) (S : State) (list : List ℕ) → AreHandlesListed x S list S list
noted-none x S list = record { noted = λ n m e y g. inl e; grown = λ y e. e; lighter = omega arith }

module _ (x n : ℕ) (S T : State) (list later : List ℕ) (m : MessageContent) (there : message T x n ≡ Some m) where
  abbrev after : State
  after = left_behind x T (key.Msg x n)

  pub message-lighter : weight after + (1 + length m.handles) ≡ weight T
  message-lighter = behind-gone x T (key.Msg x n) (rows.Msg m) (message-row T x n m there) (none-self x (rows.Msg m))

  noted_at : AreHandlesListed x S list T later → (k : ℕ) (p : MessageContent) → message S x k ≡ Some p → (y : ℕ) → is_named p.handles y ≡ true → (message after x k ≡ Some p) ⊎ (among (later ++ koids m.handles) y ≡ true)
  noted_at h k p e y g = elim (h.noted k p e y g) [
    | inl still ↦ elim (k == n) as (λ b. (k == n) ≡ b → (message after x k ≡ Some p) ⊎ (among (later ++ koids m.handles) y ≡ true)) [
      | true ↦ λ t.
          let same : Some m ≡ Some p = sym there ∙ ap (λ z. message T x z) (sym (eqb-true k n t)) ∙ still in
          let one : m ≡ p = some_one m p same in
          inr (among-right later (koids m.handles) y (among-koids m.handles y ∙ ap (λ (z : MessageContent). is_named z.handles y) one ∙ g))
      | false ↦ λ t. inl (ap as_message (row-put-other T (key.Msg x n) (left_at x T (key.Msg x n)) (key.Msg x k) (and_no_right (x == x) (k == n) t)) ∙ still)
    ] refl
    | inr found ↦ inr (among-left later (koids m.handles) y found)
  ]

  pub noted-more : AreHandlesListed x S list T later → AreHandlesListed x S list after (later ++ koids m.handles)
  noted-more h = record {
    noted = noted_at h;
    grown = λ y e. among-left later (koids m.handles) y (h.grown y e);
    lighter =
        let w : weight after + (1 + length m.handles) ≡ weight T = message-lighter in
        let a : length (later ++ koids m.handles) ≡ length later + length (koids m.handles) = length-append later (koids m.handles) in
        let b : length (koids m.handles) ≡ length m.handles = length-map m.handles (λ held. held.koid) in
        let l : weight T + length later ≤ weight S + length list = h.lighter in
        omega arith;
  }

pub messages-step : (x n : ℕ) (S T U : State) (list later more : List ℕ) → IsSome (row T (key.Msg x n)) → SuitsKey (key.Msg x n) (row T (key.Msg x n))
    → IsPartly x S T → AreHandlesListed x S list T later → U ≡ put T (key.Msg x n) None → more ≡ later ++ koids (handles_in (message T x n))
    → IsPartly x S U × AreHandlesListed x S list U more × (weight U < weight T)
messages-step x n S T U list later more some suits partly noted next added =
    let w = some-message T x n some suits in
    let V : State = left_behind x T (key.Msg x n) in
    let all : more ≡ later ++ koids w.0.handles = added ∙ ap (λ z. later ++ koids (handles_in z)) w.1 in
    let here : AreHandlesListed x S list V (later ++ koids w.0.handles) = noted-more x n S T list later w.0 w.1 noted in
    let less : weight V + (1 + length w.0.handles) ≡ weight T = message-lighter x n S T list later w.0 w.1 in
    let is : U ≡ V = next ∙ behind-none x T (key.Msg x n) (rows.Msg w.0) (message-row T x n w.0 w.1) (none-self x (rows.Msg w.0)) in
    let same : weight U ≡ weight V = ap weight is in (
      subst (IsPartly x S) (sym is) (partly-more x S T (key.Msg x n) partly),
      subst (λ s. AreHandlesListed x S list s more) (sym is) (subst (AreHandlesListed x S list V) (sym all) here),
      omega arith,
    )

-- ---- its packets

some-packet_row : (p n : ℕ) (r : Option Row) → IsSome r → SuitsKey (key.Packet p n) r → (s : Row) × (r ≡ Some s) × (left (only p) (key.Packet p n) s ≡ None)
some-packet_row p n None e h = cc
some-packet_row p n (Some (rows.Packet k)) e h = (rows.Packet k, refl, none-self p (rows.Packet k))
some-packet_row p n (Some _) e h = cc

weighs-some : (k : RowKey) (r : Row) → 1 ≤ weighs k r
weighs-some k (rows.Msg m) = omega arith
weighs-some k _ = omega arith

pub packet-lighter : (p n : ℕ) (T : State) → IsSome (row T (key.Packet p n)) → SuitsKey (key.Packet p n) (row T (key.Packet p n)) → weight (left_behind p T (key.Packet p n)) < weight T
packet-lighter p n T some suits =
    let w = some-packet_row p n (row T (key.Packet p n)) some suits in
    let e : weight (left_behind p T (key.Packet p n)) + weighs (key.Packet p n) w.0 ≡ weight T = behind-gone p T (key.Packet p n) w.0 w.1 w.2 in
    let l : 1 ≤ weighs (key.Packet p n) w.0 = weighs-some (key.Packet p n) w.0 in
    omega arith

pub packets-step : (p n : ℕ) (S T U : State) → IsSome (row T (key.Packet p n)) → ((k : RowKey) → SuitsKey k (row T k)) → IsPartly p S T → U ≡ put T (key.Packet p n) None
    → IsPartly p S U × ((k : RowKey) → SuitsKey k (row U k)) × (weight U < weight T)
packets-step p n S T U some suited partly next =
    let V : State = left_behind p T (key.Packet p n) in
    let less : weight V < weight T = packet-lighter p n T some (suited (key.Packet p n)) in
    let w = some-packet_row p n (row T (key.Packet p n)) some (suited (key.Packet p n)) in
    let is : U ≡ V = next ∙ behind-none p T (key.Packet p n) w.0 w.1 w.2 in
    let same : weight U ≡ weight V = ap weight is in (
      subst (IsPartly p S) (sym is) (partly-more p S T (key.Packet p n) partly),
      subst (λ s. (k : RowKey) → SuitsKey k (row s k)) (sym is) (suited-partly p T V (partly-behind p T (key.Packet p n)) suited),
      omega arith,
    )

-- ---- the waits for it

-- where no wait is for it, waits are left
left-unawaited : (x : ℕ) (T : State) → ((n : ℕ) (w : Wait) → wait T n ≡ Some w → w.port ≡ x → ⊥) → (n : ℕ) → IsLeft x T (key.Wait n)
left-unawaited x T none n = left-wait x T n (λ w e. not_true (w.port == x) (λ t. none n w e (eqb-true w.port x t)))

-- a wait that is for the object
for-it : (x n : ℕ) (r : Option Row) → option_map_or (is_for x) (as_wait r) false ≡ true → (s : Row) × (r ≡ Some s) × (left (only x) (key.Wait n) s ≡ None)
for-it x n (Some (rows.Wait w)) e = (rows.Wait w, refl, ap (λ b. if b then None else Some (rows.Wait w)) e)
for-it x n (Some (rows.Counters _)) e = cc
for-it x n (Some (rows.Object _)) e = cc
for-it x n (Some (rows.Entry _)) e = cc
for-it x n (Some (rows.Msg _)) e = cc
for-it x n (Some (rows.Packet _)) e = cc
for-it x n None e = cc

wait-lighter : (x n : ℕ) (T : State) → waits_where T (is_for x) n ≡ true → weight (left_behind x T (key.Wait n)) < weight T
wait-lighter x n T e =
    let w = for-it x n (row T (key.Wait n)) e in
    let behind : weight (left_behind x T (key.Wait n)) + weighs (key.Wait n) w.0 ≡ weight T = behind-gone x T (key.Wait n) w.0 w.1 w.2 in
    let l : 1 ≤ weighs (key.Wait n) w.0 = weighs-some (key.Wait n) w.0 in
    omega arith

pub waits-step : (x n : ℕ) (S T U : State) → IsNext (waits_where T (is_for x)) None (Some n) → IsPartly x S T → U ≡ put T (key.Wait n) None → IsPartly x S U × (weight U < weight T)
waits-step x n S T U found partly next =
    let less : weight (left_behind x T (key.Wait n)) < weight T = wait-lighter x n T found.0.1 in
    let w = for-it x n (row T (key.Wait n)) found.0.1 in
    let is : U ≡ left_behind x T (key.Wait n) = next ∙ behind-none x T (key.Wait n) w.0 w.1 w.2 in
    let same : weight U ≡ weight (left_behind x T (key.Wait n)) = ap weight is in
    (subst (IsPartly x S) (sym is) (partly-more x S T (key.Wait n) partly), omega arith)

pub waits-end : (x : ℕ) (T : State) (found : Option ℕ) → ((n : ℕ) → found ≡ Some n → ⊥) → IsNext (waits_where T (is_for x)) None found → (n : ℕ) → IsLeft x T (key.Wait n)
waits-end x T (Some m) none h = absurd (none m refl)
waits-end x T None none h = left-unawaited x T (λ n w e mine.
    let there : waits_where T (is_for x) n ≡ true = ap (λ o. option_map_or (is_for x) o false) e ∙ eq-eqb w.port x mine in
    true≢false (waits_where T (is_for x) n) there (h.1 n tt tt))

-- ---- all of it

pub taken-out : (x : ℕ) (S A B C D : State) → IsPartly x S A → ((y : ℕ) → IsLeft x A (key.Object y))
    → IsPartly x A B → ((n : ℕ) → row B (key.Msg x n) ≡ None)
    → IsPartly x B C → ((n : ℕ) → row C (key.Packet x n) ≡ None)
    → IsPartly x C D → ((n : ℕ) → IsLeft x D (key.Wait n)) → D ≡ without S (only x)
taken-out x S A B C D a objects b messages c packets d waits =
    let bd : IsPartly x B D = partly-then x B C D c d in
    let ad : IsPartly x A D = partly-then x A B D b bd in
    partly-end x S D (partly-then x S A D a ad)
    (all-left x D (λ y. left-stays x A D (key.Object y) ad (objects y)) (λ n. left-stays x B D (key.Msg x n) bd (left-none x B (key.Msg x n) (messages n)))
    (λ n. left-stays x C D (key.Packet x n) d (left-none x C (key.Packet x n) (packets n))) waits)

-- what the object may release is listed
pub taken-noted : (x : ℕ) (S A B : State) (o : ObjectRow) (list later : List ℕ) → object S x ≡ Some o → ((n : ℕ) → message A x n ≡ message S x n)
    → AreHandlesListed x A list B later → ((n : ℕ) → row B (key.Msg x n) ≡ None) → (y : ℕ) → IsReleased S x y → among (later ++ o.link ∷ []) y ≡ true
taken-noted x S A B o list later there same h gone y (by_message n m e g) = elim (h.noted n m (same n ∙ e) y g) [
  | inl still ↦ absurd (no_message (row B (key.Msg x n)) (gone n) still)
  | inr found ↦ among-left later (o.link ∷ []) y found
]
  where
    no_message : {m : MessageContent} (r : Option Row) → r ≡ None → as_message r ≡ Some m → ⊥
    no_message r e f = let none : as_message r ≡ None = ap as_message e in cc
taken-noted x S A B o list later there same h gone y (by_link e) =
    let mine : o.link ≡ y = sym (ap object_link there) ∙ e in
    among-right later (o.link ∷ []) y (or_left (o.link == y) false (eq-eqb o.link y mine))

pub taken-grown : (x : ℕ) (A B : State) (list later more : List ℕ) → AreHandlesListed x A list B later → (y : ℕ) → among list y ≡ true → among (later ++ more) y ≡ true
taken-grown x A B list later more h y e = among-left later more y (h.grown y e)

pub taken-lighter : (x : ℕ) (S A B C D : State) (list later : List ℕ) (l : ℕ) → weight A + 1 ≤ weight S → AreHandlesListed x A list B later → IsPartly x B C → IsPartly x C D → weight D + length (later ++ l ∷ []) ≤ weight S + length list
taken-lighter x S A B C D list later l a b c d =
    let p : weight B + length later ≤ weight A + length list = b.lighter in
    let q : weight C ≤ weight B = c.lighter in
    let r : weight D ≤ weight C = d.lighter in
    let e : length (later ++ l ∷ []) ≡ length later + 1 = length-append later (l ∷ []) in
    omega arith
