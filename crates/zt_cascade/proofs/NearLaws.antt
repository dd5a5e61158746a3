-- Derived signals follow from rows near their object: where a step that began consistent put nothing near an object,
-- its signals agree with the rows still, and so it is enough to write those of what is near.
use Rattle.std.proofs.Common.{◌≡◌, ◌<◌, ℕ, ◌-◌, ◌^◌, ◌%◌, arith, Bool, true, false, not, List, [], ◌∷◌, ◌⊎◌, inl, inr, refl, sym, ap, ◌∙◌, subst}
use Rattle.std.specs.Prelude.{Option, None, Some, option_and_then, ◌==◌, ◌&&◌, bit_and, bit_or}
use Rattle.std.specs.List.{fold}
use Rattle.std.specs.Int.Bits.{and_self, or_comm}
use Rattle.std.proofs.lemmas.Nat.{and_assoc, and_mask, and_or_apart}
use Rattle.std.proofs.lemmas.Bool.{eqb-true, eq-eqb}
use Rattle.zt_bits.specs.declared.kinds.Kind.{Kind}
use Rattle.zt_bits.specs.declared.kinds.Kind.TheVariants as kind
use Rattle.zt_rows.specs.declared.keys.RowKey.{RowKey}
use Rattle.zt_rows.specs.declared.keys.RowKey.TheVariants as key
use Rattle.zt_rows.specs.declared.rows.ObjectRow.{ObjectRow}
use Rattle.zt_rows.specs.declared.rows.Row.{Row}
use Rattle.zt_rows.specs.declared.rows.Row.TheVariants as rows
use Rattle.zt_rows.specs.Consistent.{IsConsistent}
use Rattle.zt_rows.specs.Keys.{rowkey_eq}
use Rattle.zt_rows.specs.ProofsOnly.KeyOrder.{rowkey_eq-equal}
use Rattle.zt_rows.specs.State.{State, row, put}
use Rattle.zt_rows.specs.Reads.{as_object, object, is_job, is_live, is_live_job, is_live_process, is_process}
use Rattle.zt_rows.specs.Tests.{among, any_row, is_task, without_bits}
use Rattle.zt_rows.specs.Settle.{bit_if, derived, derived_by, derived_mask, is_child_job_of, is_child_process_of, is_message_of, no_jobs, no_processes, peer_closed, readable, refresh, refreshed, renewed, terminated, writable}
use Rattle.zt_rows.proofs.StateLaws.{row-put-other, row-put-same, same_state}
use Rattle.zt_rows.proofs.RowLaws.{and_left, and_right, any_row-at, at-any_row, not_true, or_true, same_test, true≢false}
use Rattle.zt_rows.proofs.ReadLaws.{object-row, some_one}
use Rattle.zt_rows.proofs.SettleLaws.{derived-out, renew, row-refresh}
use Rattle.zt_store.specs.StepView.{Stepping, listed, DiffersAtTouched}
use Rattle.zt_signals.specs.ObjectSignals.{refreshed_object, refreshed_object_of}
use Rattle.zt_cascade.specs.ProofsOnly.NearObjects.{AreAlike, HasAllNear, HasNear, HasNearObject, HasParent}
use Rattle.zt_cascade.specs.ProofsOnly.RaisedWaits.{IsLonger}
use Rattle.zt_cascade.proofs.TouchedLaws.{LastsLonger}

-- ---- derived signals of states whose rows near the object are the same

derived-alike : (C D : State) (y : ℕ) → any_row (is_message_of y) D ≡ any_row (is_message_of y) C → any_row (is_child_job_of y) D ≡ any_row (is_child_job_of y) C → any_row (is_child_process_of y) D ≡ any_row (is_child_process_of y) C → (made : Kind) (p : ObjectRow) → derived_by made D y p ≡ derived_by made C y p
derived-alike C D y m j n kind.Job p = λ i. bit_or (terminated p) (bit_or (bit_if (not (j i)) 0x10) (bit_if (not (n i)) 0x20))
derived-alike C D y m j n kind.Channel p = λ i. bit_or (bit_if (m i) 0x1) (bit_or (writable p) (peer_closed p))
derived-alike C D y m j n kind.Process p = refl
derived-alike C D y m j n kind.Event p = refl
derived-alike C D y m j n kind.EventPair p = refl
derived-alike C D y m j n kind.Port p = refl

-- two rows alike have the same signals, anew too
derived-rows : (S : State) (x : ℕ) (o p : ObjectRow) → p.life ≡ o.life → p.link ≡ o.link → (made : Kind) → derived_by made S x p ≡ derived_by made S x o
derived-rows S x o p life link kind.Job = ap (λ l. bit_or (bit_if (not (is_live l)) 0x8) (bit_or (no_jobs S x) (no_processes S x))) life
derived-rows S x o p life link kind.Process = ap (λ l. bit_if (not (is_live l)) 0x8) life
derived-rows S x o p life link kind.Channel = ap (λ l. bit_or (readable S x) (bit_or (bit_if (not (l == 0)) 0x2) (bit_if (l == 0) 0x4))) link
derived-rows S x o p life link kind.Event = refl
derived-rows S x o p life link kind.EventPair = ap (λ l. bit_if (l == 0) 0x4) link
derived-rows S x o p life link kind.Port = refl

renewed-rows : (S : State) (x : ℕ) (o p : ObjectRow) → AreAlike o p → renewed S x p ≡ renewed S x o
renewed-rows S x o p alike =
    ap (bit_or (without_bits p.signals.0 (derived_mask p.kind))) (derived-rows S x o p alike.life alike.link p.kind)
    ∙ (λ i. bit_or (without_bits (alike.signals i) (derived_mask (alike.kind i))) (derived_by (alike.kind i) S x o))

-- a kind whose signals follow from no rows
abbrev pub IsUnderived : Kind → Type 0
IsUnderived made = (made ≡ kind.Event) ⊎ (made ≡ kind.Port)

-- where signals of its kind follow from no rows, its signals are what they are
pub none-derived : (S : State) (x : ℕ) (p : ObjectRow) → IsUnderived p.kind → p.signals.0 < 2 ^ 32 → renewed S x p ≡ p.signals.0
none-derived S x p made few = elim made [
  | inl is ↦ (λ i. bit_or (without_bits p.signals.0 (derived_mask (is i))) (derived_by (is i) S x p)) ∙ kept
  | inr is ↦ (λ i. bit_or (without_bits p.signals.0 (derived_mask (is i))) (derived_by (is i) S x p)) ∙ kept
]
  where
    within : (n : ℕ) → n < 2 ^ 32 → n % 2 ^ 32 ≡ n
    within n few = omega (arith, few)

    kept : bit_or (without_bits p.signals.0 0) 0 ≡ p.signals.0
    kept = or_comm (without_bits p.signals.0 0) 0 ∙ and_mask p.signals.0 32 ∙ within p.signals.0 few

-- a row under the key passes
abbrev Passes : (RowKey → Row → Bool) → State → RowKey → Type 0
Passes test S k = (r : Row) × (row S k ≡ Some r) × (test k r ≡ true)

-- wherever a row of one state passes, one of the other state does
any_row-same : (test : RowKey → Row → Bool) (C D : State)
    → ((k : RowKey) (r : Row) → row C k ≡ Some r → test k r ≡ true → Passes test D k)
    → ((k : RowKey) (r : Row) → row D k ≡ Some r → test k r ≡ true → Passes test C k)
    → any_row test D ≡ any_row test C
any_row-same test C D of_C of_D =
    same_test _ _
    (λ h. let w = at-any_row test D h in let v = of_D w.0 w.1 w.2 w.3 in any_row-at test C w.0 v.0 v.1 v.2)
    (λ h. let w = at-any_row test C h in let v = of_C w.0 w.1 w.2 w.3 in any_row-at test D w.0 v.0 v.1 v.2)

-- ---- what is near a key that was put

job-task : (o : ObjectRow) → is_live_job o ≡ true → is_task o.kind ≡ true
job-task o h = by o.kind (and_left (is_job o.kind) (is_live o.life) h)
  where
    by : (made : Kind) → is_job made ≡ true → is_task made ≡ true
    by kind.Job e = refl
    by _ e = cc

process-task : (o : ObjectRow) → is_live_process o ≡ true → is_task o.kind ≡ true
process-task o h = by o.kind (and_left (is_process o.kind) (is_live o.life) h)
  where
    by : (made : Kind) → is_process made ≡ true → is_task made ≡ true
    by kind.Process e = refl
    by _ e = cc

-- a row alike of the object y
abbrev HasAlike : State → ℕ → ObjectRow → Type 0
HasAlike S y o = (p : ObjectRow) × (row S (key.Object y) ≡ Some (rows.Object p)) × (p.kind ≡ o.kind) × (p.life ≡ o.life) × (p.link ≡ o.link)

passes-job : (S : State) (x y : ℕ) (o : ObjectRow) → is_child_job_of x (key.Object y) (rows.Object o) ≡ true → HasAlike S y o → Passes (is_child_job_of x) S (key.Object y)
passes-job S x y o t w = (rows.Object w.0, w.1, (λ i. is_job (w.2 i) && is_live (w.3 i) && (w.4 i == x)) ∙ t)

passes-process : (S : State) (x y : ℕ) (o : ObjectRow) → is_child_process_of x (key.Object y) (rows.Object o) ≡ true → HasAlike S y o → Passes (is_child_process_of x) S (key.Object y)
passes-process S x y o t w = (rows.Object w.0, w.1, (λ i. is_process (w.2 i) && is_live (w.3 i) && (w.4 i == x)) ∙ t)

module _ (s : Stepping) (list : List ℕ) (all : HasAllNear s list) (differs : DiffersAtTouched s) (x : ℕ) (apart : among list x ≡ false) where
  not-listed : {A : Type 0} (y : ℕ) → y ≡ x → among list y ≡ true → A
  not-listed y e t = absurd (true≢false (among list x) (ap (among list) (sym e) ∙ t) apart)

  message-same : (k : RowKey) (r : Row) → is_message_of x k r ≡ true → row s.current k ≡ row s.beginning k
  message-same (key.Msg e n) (rows.Msg m) t = differs (key.Msg e n) (not_true (listed s.touched (key.Msg e n)) (λ l. not-listed e (eqb-true e x t) (all (key.Msg e n) l)))
  message-same _ _ t = cc

  message-then : (k : RowKey) (r : Row) → row s.beginning k ≡ Some r → is_message_of x k r ≡ true → Passes (is_message_of x) s.current k
  message-then k r h t = (r, message-same k r t ∙ h, t)

  message-now : (k : RowKey) (r : Row) → row s.current k ≡ Some r → is_message_of x k r ≡ true → Passes (is_message_of x) s.beginning k
  message-now k r h t = (r, sym (message-same k r t) ∙ h, t)

  -- a child has rows alike then and now, or x would be in the list
  child-then : (y : ℕ) (o : ObjectRow) → row s.beginning (key.Object y) ≡ Some (rows.Object o) → is_task o.kind ≡ true → o.link ≡ x → HasAlike s.current y o
  child-then y o h task e = by (listed s.touched (key.Object y)) refl
    where
      near : (now : Option ObjectRow) → object s.current y ≡ now → HasNearObject y (Some o) now list → HasAlike s.current y o
      near (Some p) is (inl alike) = (p, object-row s.current y p is, alike.kind, alike.life, alike.link)
      near (Some p) is (inr lists) = not-listed o.link e (lists.1 task)
      near None is parent = not-listed o.link e (parent task)

      by : (b : Bool) → listed s.touched (key.Object y) ≡ b → HasAlike s.current y o
      by false t = (o, differs (key.Object y) t ∙ h, refl, refl, refl)
      by true t = near (object s.current y) refl (subst (λ then. HasNearObject y then (object s.current y) list) (ap as_object h) (all (key.Object y) t))

  child-now : (y : ℕ) (o : ObjectRow) → row s.current (key.Object y) ≡ Some (rows.Object o) → is_task o.kind ≡ true → o.link ≡ x → HasAlike s.beginning y o
  child-now y o h task e = by (listed s.touched (key.Object y)) refl
    where
      near : (then : Option ObjectRow) → object s.beginning y ≡ then → HasNearObject y then (Some o) list → HasAlike s.beginning y o
      near (Some p) is (inl alike) = (p, object-row s.beginning y p is, sym alike.kind, sym alike.life, sym alike.link)
      near None is (inl alike) = absurd alike
      near then is (inr lists) = not-listed o.link e (lists.2 task)

      by : (b : Bool) → listed s.touched (key.Object y) ≡ b → HasAlike s.beginning y o
      by false t = (o, sym (differs (key.Object y) t) ∙ h, refl, refl, refl)
      by true t = near (object s.beginning y) refl (subst (λ now. HasNearObject y (object s.beginning y) now list) (ap as_object h) (all (key.Object y) t))

  job-then : (k : RowKey) (r : Row) → row s.beginning k ≡ Some r → is_child_job_of x k r ≡ true → Passes (is_child_job_of x) s.current k
  job-then (key.Object y) (rows.Object o) h t = passes-job s.current x y o t (child-then y o h (job-task o (and_left (is_live_job o) _ t)) (eqb-true o.link x (and_right (is_live_job o) _ t)))
  job-then _ _ h t = cc

  job-now : (k : RowKey) (r : Row) → row s.current k ≡ Some r → is_child_job_of x k r ≡ true → Passes (is_child_job_of x) s.beginning k
  job-now (key.Object y) (rows.Object o) h t = passes-job s.beginning x y o t (child-now y o h (job-task o (and_left (is_live_job o) _ t)) (eqb-true o.link x (and_right (is_live_job o) _ t)))
  job-now _ _ h t = cc

  process-then : (k : RowKey) (r : Row) → row s.beginning k ≡ Some r → is_child_process_of x k r ≡ true → Passes (is_child_process_of x) s.current k
  process-then (key.Object y) (rows.Object o) h t = passes-process s.current x y o t (child-then y o h (process-task o (and_left (is_live_process o) _ t)) (eqb-true o.link x (and_right (is_live_process o) _ t)))
  process-then _ _ h t = cc

  process-now : (k : RowKey) (r : Row) → row s.current k ≡ Some r → is_child_process_of x k r ≡ true → Passes (is_child_process_of x) s.beginning k
  process-now (key.Object y) (rows.Object o) h t = passes-process s.beginning x y o t (child-now y o h (process-task o (and_left (is_live_process o) _ t)) (eqb-true o.link x (and_right (is_live_process o) _ t)))
  process-now _ _ h t = cc

  renewed-far : (o : ObjectRow) → renewed s.current x o ≡ renewed s.beginning x o
  renewed-far o =
      ap (bit_or (without_bits o.signals.0 (derived_mask o.kind)))
      (derived-alike s.beginning s.current x
      (any_row-same (is_message_of x) s.beginning s.current message-then message-now)
      (any_row-same (is_child_job_of x) s.beginning s.current job-then job-now)
      (any_row-same (is_child_process_of x) s.beginning s.current process-then process-now)
      o.kind o)

  -- signals that agreed at the beginning agree
  pub agrees-far : IsConsistent s.beginning → (o : ObjectRow) → object s.current x ≡ Some o → renewed s.current x o ≡ o.signals.0
  agrees-far began o h = by (listed s.touched (key.Object x)) refl
    where
      near : (then : Option ObjectRow) → object s.beginning x ≡ then → HasNearObject x then (Some o) list → renewed s.current x o ≡ o.signals.0
      near (Some p) is (inl alike) = renewed-far o ∙ renewed-rows s.beginning x p o alike ∙ began.agrees x p is ∙ sym alike.signals
      near None is (inl alike) = absurd alike
      near then is (inr lists) = elim lists.0 [ inl quiet ↦ quiet s.current | inr t ↦ not-listed x refl t ]

      by : (b : Bool) → listed s.touched (key.Object x) ≡ b → renewed s.current x o ≡ o.signals.0
      by false t = renewed-far o ∙ began.agrees x o (ap as_object (sym (differs (key.Object x) t)) ∙ h)
      by true t = near (object s.beginning x) refl (subst (λ now. HasNearObject x (object s.beginning x) now list) h (all (key.Object x) t))

  row-far : IsConsistent s.beginning → (r : Option Row) → row s.current (key.Object x) ≡ r → option_and_then (refreshed s.current (key.Object x)) r ≡ r
  row-far began (Some (rows.Object o)) h = ap (λ n. Some (rows.Object (record o { signals = record { 0 = n } }))) (agrees-far began o (ap as_object h))
  row-far began (Some (rows.Counters _)) h = refl
  row-far began (Some (rows.Entry _)) h = refl
  row-far began (Some (rows.Msg _)) h = refl
  row-far began (Some (rows.Packet _)) h = refl
  row-far began (Some (rows.Wait _)) h = refl
  row-far began None h = refl

-- ---- a longer list has what a shorter one has

parent-longer : (o : Option ObjectRow) (list later : List ℕ) → IsLonger list later → HasParent o list → HasParent o later
parent-longer (Some o) list later longer h = λ task. longer o.link (h task)
parent-longer None list later longer h = tt

near_object-longer : (x : ℕ) (then now : Option ObjectRow) (list later : List ℕ) → IsLonger list later → HasNearObject x then now list → HasNearObject x then now later
near_object-longer x then (Some p) list later longer (inl alike) = inl alike
near_object-longer x then (Some p) list later longer (inr h) =
    inr (elim h.0 [ inl quiet ↦ inl quiet | inr t ↦ inr (longer x t) ], parent-longer then list later longer h.1, parent-longer (Some p) list later longer h.2)
near_object-longer x then None list later longer h = parent-longer then list later longer h

pub near-longer : (B T : State) → LastsLonger (HasNear B T)
near-longer B T (key.Object x) list later longer h = near_object-longer x (object B x) (object T x) list later longer h
near-longer B T (key.Msg e n) list later longer h = longer e h
near-longer B T key.Counters list later longer h = tt
near-longer B T (key.Entry p g) list later longer h = tt
near-longer B T (key.Packet p n) list later longer h = tt
near-longer B T (key.Wait n) list later longer h = tt

-- ---- signals written of one object

-- D is C but for the row under k
carried : (test : RowKey → Row → Bool) (C D : State) (k : RowKey) (a b : Row) → row C k ≡ Some a → row D k ≡ Some b → ((q : RowKey) → rowkey_eq q k ≡ false → row D q ≡ row C q) → (test k a ≡ true → test k b ≡ true) → any_row test C ≡ true → any_row test D ≡ true
carried test C D k a b at_C at_D apart kept h =
    let w = at-any_row test C h in
    elim (rowkey_eq w.0 k) as (λ c. rowkey_eq w.0 k ≡ c → any_row test D ≡ true) [
      | true ↦ λ t.
          let same : w.0 ≡ k = rowkey_eq-equal w.0 k t in
          let one : w.1 ≡ a = some_one w.1 a (sym w.2 ∙ ap (row C) same ∙ at_C) in
          let passes : test k a ≡ true = (λ i. test (sym same i) (sym one i)) ∙ w.3 in
          any_row-at test D k b at_D (kept passes)
      | false ↦ λ t. any_row-at test D w.0 w.1 (apart w.0 t ∙ w.2) w.3
    ] refl

-- a row that passes alike in the place of another
any_row-put : (test : RowKey → Row → Bool) (C : State) (k : RowKey) (a b : Row) → row C k ≡ Some a → test k b ≡ test k a → any_row test (put C k (Some b)) ≡ any_row test C
any_row-put test C k a b there alike =
    let here : row (put C k (Some b)) k ≡ Some b = row-put-same C k (Some b) in
    same_test _ _
    (carried test (put C k (Some b)) C k b a here there (λ q t. sym (row-put-other C k (Some b) q t)) (λ h. sym alike ∙ h))
    (carried test C (put C k (Some b)) k a b there here (λ q t. row-put-other C k (Some b) q t) (λ h. alike ∙ h))

renewed-written : (C : State) (x : ℕ) (o : ObjectRow) (bits y : ℕ) (p : ObjectRow) → object C x ≡ Some o → renewed (put C (key.Object x) (Some (rows.Object (record o { signals = record { 0 = bits } })))) y p ≡ renewed C y p
renewed-written C x o bits y p h =
    let there : row C (key.Object x) ≡ Some (rows.Object o) = object-row C x o h in
    let b : Row = rows.Object (record o { signals = record { 0 = bits } }) in
    ap (bit_or (without_bits p.signals.0 (derived_mask p.kind)))
    (derived-alike C (put C (key.Object x) (Some b)) y
    (any_row-put (is_message_of y) C (key.Object x) (rows.Object o) b there refl)
    (any_row-put (is_child_job_of y) C (key.Object x) (rows.Object o) b there refl)
    (any_row-put (is_child_process_of y) C (key.Object x) (rows.Object o) b there refl)
    p.kind p)

-- C has the derived signals that S gives
abbrev AlikeRenewed : State → State → Type 0
AlikeRenewed S C = (y : ℕ) (p : ObjectRow) → renewed C y p ≡ renewed S y p

renewed-object : (C : State) (x : ℕ) (r : Option ObjectRow) → object C x ≡ r → (y : ℕ) (p : ObjectRow) → renewed (refreshed_object_of r C x) y p ≡ renewed C y p
renewed-object C x (Some o) h y p = renewed-written C x o (renewed C x o) y p h
renewed-object C x None h y p = refl

-- derived signals do not follow from signals
derived-written : (S : State) (x : ℕ) (o : ObjectRow) (made : Kind) → derived_by made S x (renew S x o) ≡ derived_by made S x o
derived-written S x o kind.Job = refl
derived-written S x o kind.Process = refl
derived-written S x o kind.Channel = refl
derived-written S x o kind.Event = refl
derived-written S x o kind.EventPair = refl
derived-written S x o kind.Port = refl

-- derived signals within a mask written twice are written once
written-twice : (bits mask d : ℕ) → bit_and d (0xffffffff - mask) ≡ 0 → bit_or (without_bits (bit_or (without_bits bits mask) d) mask) d ≡ bit_or (without_bits bits mask) d
written-twice bits mask d e =
    let out : ℕ = 0xffffffff - mask in
    ap (λ b. bit_or b d) (and_or_apart out (bit_and bits out) d e ∙ and_assoc out bits out ∙ ap (bit_and bits) (and_self out))

renewed-twice : (S : State) (x : ℕ) (o : ObjectRow) → renewed S x (renew S x o) ≡ renewed S x o
renewed-twice S x o =
    ap (bit_or (without_bits (renewed S x o) (derived_mask o.kind))) (derived-written S x o o.kind)
    ∙ written-twice o.signals.0 (derived_mask o.kind) (derived S x o) (derived-out S x o)

row-twice : (S : State) (x : ℕ) (r : Option Row) → option_and_then (refreshed S (key.Object x)) (option_and_then (refreshed S (key.Object x)) r) ≡ option_and_then (refreshed S (key.Object x)) r
row-twice S x (Some (rows.Object o)) = ap (λ n. Some (rows.Object (record o { signals = record { 0 = n } }))) (renewed-twice S x o)
row-twice S x (Some (rows.Counters _)) = refl
row-twice S x (Some (rows.Entry _)) = refl
row-twice S x (Some (rows.Msg _)) = refl
row-twice S x (Some (rows.Packet _)) = refl
row-twice S x (Some (rows.Wait _)) = refl
row-twice S x None = refl

-- ---- signals written of one object after another

-- x's row in the state that has its signals written anew
written-row : (S C : State) (x : ℕ) (r : Option Row) → AlikeRenewed S C → row C (key.Object x) ≡ r → row (refreshed_object_of (as_object r) C x) (key.Object x) ≡ option_and_then (refreshed S (key.Object x)) r
written-row S C x (Some (rows.Object o)) same h = row-put-same C (key.Object x) _ ∙ ap (λ n. Some (rows.Object (record o { signals = record { 0 = n } }))) (same x o)
written-row S C x (Some (rows.Counters _)) same h = h
written-row S C x (Some (rows.Entry _)) same h = h
written-row S C x (Some (rows.Msg _)) same h = h
written-row S C x (Some (rows.Packet _)) same h = h
written-row S C x (Some (rows.Wait _)) same h = h
written-row S C x None same h = h

other-row : (C : State) (x : ℕ) (r : Option ObjectRow) (q : RowKey) → rowkey_eq q (key.Object x) ≡ false → row (refreshed_object_of r C x) q ≡ row C q
other-row C x (Some o) q t = row-put-other C (key.Object x) _ q t
other-row C x None q t = refl

-- the key is that of an object in the list
abbrev renews : List ℕ → RowKey → Bool
renews xs (key.Object x) = among xs x
renews xs _ = false

-- the row under the key is written already, or is still as in S and will be written
abbrev IsBetween : State → State → List ℕ → RowKey → Type 0
IsBetween S C xs q = (row C q ≡ row (refresh S) q) ⊎ ((row C q ≡ row S q) × (renews xs q ≡ true))

renews-other : (x : ℕ) (xs : List ℕ) (q : RowKey) → rowkey_eq q (key.Object x) ≡ false → renews (x ∷ xs) q ≡ true → renews xs q ≡ true
renews-other x xs (key.Object y) apart t = elim (or_true (x == y) (among xs y) t) [
  | inl e ↦ absurd (true≢false (y == x) (eq-eqb y x (sym (eqb-true x y e))) apart)
  | inr e ↦ e
]
renews-other x xs _ apart t = cc

module _ (S C : State) (x : ℕ) (xs : List ℕ) (same : AlikeRenewed S C) where
  written-here : IsBetween S C (x ∷ xs) (key.Object x) → row (refreshed_object C x) (key.Object x) ≡ row (refresh S) (key.Object x)
  written-here (inl done) =
      written-row S C x (row C (key.Object x)) same refl
      ∙ ap (option_and_then (refreshed S (key.Object x))) (done ∙ row-refresh S (key.Object x))
      ∙ row-twice S x (row S (key.Object x))
      ∙ sym (row-refresh S (key.Object x))
  written-here (inr still) =
      written-row S C x (row C (key.Object x)) same refl
      ∙ ap (option_and_then (refreshed S (key.Object x))) still.0
      ∙ sym (row-refresh S (key.Object x))

  written-other : (q : RowKey) → rowkey_eq q (key.Object x) ≡ false → IsBetween S C (x ∷ xs) q → IsBetween S (refreshed_object C x) xs q
  written-other q t (inl done) = inl (other-row C x (object C x) q t ∙ done)
  written-other q t (inr still) = inr (other-row C x (object C x) q t ∙ still.0, renews-other x xs q t still.1)

  written-next : (q : RowKey) → ((k : RowKey) → IsBetween S C (x ∷ xs) k) → IsBetween S (refreshed_object C x) xs q
  written-next q between =
      elim (rowkey_eq q (key.Object x)) as (λ b. rowkey_eq q (key.Object x) ≡ b → IsBetween S (refreshed_object C x) xs q) [
        | true ↦ λ t. inl (subst (λ k. row (refreshed_object C x) k ≡ row (refresh S) k) (sym (rowkey_eq-equal q (key.Object x) t)) (written-here (between (key.Object x))))
        | false ↦ λ t. written-other q t (between q)
      ] refl

written-all : (S : State) (xs : List ℕ) (C : State) → AlikeRenewed S C → ((q : RowKey) → IsBetween S C xs q) → fold refreshed_object C xs ≡ refresh S
written-all S [] C same between = same_state C (refresh S) (λ q. elim (between q) [ inl done ↦ done | inr still ↦ absurd (none q still.1) ])
  where
    none : (q : RowKey) → renews [] q ≡ true → ⊥
    none (key.Object y) t = cc
    none _ t = cc
written-all S (x ∷ xs) C same between =
    written-all S xs (refreshed_object C x) (λ y p. renewed-object C x (object C x) refl y p ∙ same y p) (λ q. written-next S C x xs same q between)

-- ---- a step that began consistent

module _ (s : Stepping) (list : List ℕ) (began : IsConsistent s.beginning) (differs : DiffersAtTouched s) (all : HasAllNear s list) where
  object-between : (x : ℕ) → IsBetween s.current s.current list (key.Object x)
  object-between x =
      elim (among list x) as (λ b. among list x ≡ b → IsBetween s.current s.current list (key.Object x)) [
        | true ↦ λ t. inr (refl, t)
        | false ↦ λ t. inl (sym (row-refresh s.current (key.Object x) ∙ row-far s list all differs x t began (row s.current (key.Object x)) refl))
      ] refl

  other-between : (q : RowKey) → ((r : Row) → refreshed s.current q r ≡ Some r) → row s.current q ≡ row (refresh s.current) q
  other-between q stays = sym (row-refresh s.current q ∙ of_row (row s.current q))
    where
      of_row : (r : Option Row) → option_and_then (refreshed s.current q) r ≡ r
      of_row (Some r) = stays r
      of_row None = refl

  between-begun : (q : RowKey) → IsBetween s.current s.current list q
  between-begun (key.Object x) = object-between x
  between-begun key.Counters = inl (other-between key.Counters (λ r. refl))
  between-begun (key.Entry p h) = inl (other-between (key.Entry p h) (λ r. refl))
  between-begun (key.Msg e n) = inl (other-between (key.Msg e n) (λ r. refl))
  between-begun (key.Packet p n) = inl (other-between (key.Packet p n) (λ r. refl))
  between-begun (key.Wait n) = inl (other-between (key.Wait n) (λ r. refl))

  -- to write the signals of a list that has what is near the touched keys is to write those of all objects
  pub refresh-near : fold refreshed_object s.current list ≡ refresh s.current
  refresh-near = written-all s.current list s.current (λ y p. refl) between-begun
