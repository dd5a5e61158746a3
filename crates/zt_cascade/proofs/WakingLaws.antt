-- What a step can have satisfied: where it began consistent, a wait that is met was made in it, or is on an entry or at an
-- object that it changed.
use Rattle.std.proofs.Common.{◌≡◌, ◌<◌, ◌≤◌, ◌-◌, ◌^◌, ℕ, ◌+◌, Bool, true, false, not, List, [], ◌∷◌, ◌++◌, refl, sym, ap, ◌∙◌, subst, arith, inl, inr, w32, min}
use Rattle.std.specs.Prelude.{◌==◌, nat_le, if◌then◌else◌, Option, None, Some, is_some, bit_and}
use Rattle.std.specs.Int.{bit_at}
use Rattle.std.specs.Int.Bits.{and_comm, and_self, and_zero_l}
use Rattle.std.specs.Option.{option_map_or}
use Rattle.std.proofs.lemmas.Bool.{cases_lt, eq-eqb, eqb-true}
use Rattle.std.proofs.lemmas.Bool.Decides.{nat_tests}
use Rattle.std.proofs.lemmas.Nat.{and_assoc, and_le_l, pow_pos}
use Rattle.std.proofs.lemmas.Nat.Bits.{bit_at_and, bit_at_not, bit_at-zero, same_from_bits_below}
use Rattle.zt_rows.specs.declared.keys.RowKey.{RowKey}
use Rattle.zt_rows.specs.declared.keys.RowKey.TheVariants as key
use Rattle.zt_rows.specs.declared.rows.Held.{Held}
use Rattle.zt_rows.specs.declared.rows.Wait.{Wait}
use Rattle.zt_rows.specs.Consistent.{IsConsistent}
use Rattle.zt_rows.specs.State.{State}
use Rattle.zt_rows.specs.Reads.{as_entry, as_object, as_wait, entry, object, wait}
use Rattle.zt_rows.specs.Settle.{is_met, observed, risen, signals_by}
use Rattle.zt_rows.specs.Tests.{among, exists, object_signals, signals_at, without_bits}
use Rattle.zt_rows.proofs.RowLaws.{and_both, or_left, true≢false}
use Rattle.zt_index.specs.Chains.{IsBehind, IsNext}
use Rattle.zt_index.specs.Criteria.{is_at, is_on, names}
use Rattle.zt_store.specs.StepView.{DiffersAtTouched, Stepping, listed}
use Rattle.zt_cascade.specs.ProofsOnly.RaisedWaits.{HasMet, HasCandidates, IsLonger}
use Rattle.zt_cascade.proofs.TakingLaws.{among-left, among-right}
use Rattle.zt_cascade.proofs.TouchedLaws.{LastsLonger}

-- ---- a walk over waits

abbrev pub is_passed : Option ℕ → ℕ → Bool
is_passed None n = false
is_passed (Some low) n = nat_le n low

abbrev pub numbers_left : Option ℕ → ℕ
numbers_left None = 2 ^ 64 + 1
numbers_left (Some low) = 2 ^ 64 - low

-- those that were passed are in the list
abbrev pub ListsPassed : (ℕ → Bool) → Option ℕ → List ℕ → Type 0
ListsPassed q low list = (n : ℕ) → q n ≡ true → is_passed low n ≡ true → among list n ≡ true

pub fewer-left : (q : ℕ → Bool) (low : Option ℕ) (n : ℕ) → n < 2 ^ 64 → IsNext q low (Some n) → numbers_left (Some n) < numbers_left low
fewer-left q None n few next = omega arith
fewer-left q (Some l) n few next = let less : l < n = next.0.0 in omega arith

not-passed : (low : Option ℕ) (n : ℕ) → is_passed low n ≡ false → IsBehind (λ a b. a < b) low n
not-passed None n e = tt
not-passed (Some low) n e = grind (arith, nat_tests)

passed-within : (m n : ℕ) → is_passed (Some m) n ≡ true → n ≤ m
passed-within m n e = grind (arith, nat_tests)

pub longer-pushed : (list later : List ℕ) (m : ℕ) → later ≡ list ++ m ∷ [] → IsLonger list later
longer-pushed list later m is n h = ap (λ l. among l n) is ∙ among-left list (m ∷ []) n h

pub among-pushed : (list later : List ℕ) (m : ℕ) → later ≡ list ++ m ∷ [] → among later m ≡ true
among-pushed list later m is = ap (λ l. among l m) is ∙ among-right list (m ∷ []) m (or_left (m == m) false (eq-eqb m m refl))

pub passed-next : (q : ℕ → Bool) (low : Option ℕ) (m : ℕ) (list later : List ℕ) → later ≡ list ++ m ∷ [] → IsNext q low (Some m) → ListsPassed q low list → ListsPassed q (Some m) later
passed-next q low m list later is next passed n there e = by (is_passed low n) refl
  where
    by : (b : Bool) → is_passed low n ≡ b → among later n ≡ true
    by true t = longer-pushed list later m is n (passed n there t)
    by false t = elim (cases_lt n m) [
      | inl less ↦ absurd (true≢false (q n) there (next.1 n (not-passed low n t) less))
      | inr ge ↦
          let le : n ≤ m = passed-within m n e in
          let same : m ≡ n = omega arith in
          subst (λ k. among later k ≡ true) same (among-pushed list later m is)
    ]

pub passed-end : (q : ℕ → Bool) (low found : Option ℕ) (list : List ℕ) → ((n : ℕ) → found ≡ Some n → ⊥) → IsNext q low found → ListsPassed q low list → (n : ℕ) → q n ≡ true → among list n ≡ true
passed-end q low (Some m) list none last passed n there = absurd (none m refl)
passed-end q low None list none last passed n there = by (is_passed low n) refl
  where
    by : (b : Bool) → is_passed low n ≡ b → among list n ≡ true
    by true t = passed n there t
    by false t = absurd (true≢false (q n) there (last.1 n (not-passed low n t) tt))

-- ---- the keys that were put

pub candidate_waits-longer : (B T : State) → LastsLonger (HasCandidates B T)
candidate_waits-longer B T (key.Wait n) list later longer h = λ w there met. longer n (h w there met)
candidate_waits-longer B T (key.Entry p g) list later longer (inl new) = inl new
candidate_waits-longer B T (key.Entry p g) list later longer (inr h) = inr (λ n t. longer n (h n t))
candidate_waits-longer B T (key.Object x) list later longer (inl new) = inl new
candidate_waits-longer B T (key.Object x) list later longer (inr (inl stood)) = inr (inl stood)
candidate_waits-longer B T (key.Object x) list later longer (inr (inr h)) = inr (inr (λ n t. longer n (h n t)))
candidate_waits-longer B T key.Counters list later longer h = tt
candidate_waits-longer B T (key.Msg e n) list later longer h = tt
candidate_waits-longer B T (key.Packet p n) list later longer h = tt

-- ---- signals that stood

-- no signal is among those that it is not among
none-risen : (x : ℕ) → without_bits x x ≡ 0
none-risen x = elim (cases_lt x (2 ^ 32)) [
  | inl fits ↦ same_from_bits_below 32 (without_bits x x) 0 (omega (arith, and_le_l x (4294967295 - x))) (pow_pos 32) (λ i within. one (bit_at x i) (bit_at (4294967295 - x) i) (bit_at_and x (4294967295 - x) i) (bit_at_not w32 x i fits within) ∙ sym (bit_at-zero i))
  | inr more ↦ ap (bit_and x) (spent x more) ∙ and_comm x 0 ∙ and_zero_l x
]
  where
    spent : (x : ℕ) → 2 ^ 32 ≤ x → 4294967295 - x ≡ 0
    spent x more = omega arith

    one : {m : ℕ} (a b : ℕ) → m ≡ min a b → b ≡ 1 - a → m ≡ 0
    one a b e f = omega (arith, e, f)

none_risen-among : (before now : ℕ) → bit_and before now ≡ now → without_bits now before ≡ 0
none_risen-among before now e =
    ap (λ n. without_bits n before) (sym e ∙ and_comm before now)
    ∙ and_assoc (0xffffffff - before) now before
    ∙ ap (bit_and now) (none-risen before) ∙ and_comm now 0 ∙ and_zero_l now

none_stands-among : (wanted before now : ℕ) → bit_and before now ≡ now → bit_and wanted before ≡ 0 → bit_and wanted now ≡ 0
none_stands-among wanted before now e none =
    ap (bit_and wanted) (sym e) ∙ sym (and_assoc now wanted before) ∙ ap (λ n. bit_and n now) none ∙ and_zero_l now

-- a wait is not met where what it names has no signal that it had not, and it is on an edge or none of those that it had is
-- waited for
unmet-among : (S T : State) (w : Wait) → bit_and (signals_by S (entry T w.process w.handle)) (observed T w) ≡ observed T w
    → (w.edge ≡ false → bit_and w.signals.0 (signals_by S (entry T w.process w.handle)) ≡ 0) → is_met S T w ≡ false
unmet-among S T w stood plain = ap (λ s. not (s == 0)) (by w.edge refl)
  where
    by : (b : Bool) → w.edge ≡ b → bit_and w.signals.0 (if b then risen S T w else observed T w) ≡ 0
    by true e = ap (bit_and w.signals.0) (none_risen-among (signals_by S (entry T w.process w.handle)) (observed T w) stood) ∙ and_comm w.signals.0 0 ∙ and_zero_l w.signals.0
    by false e = none_stands-among w.signals.0 (signals_by S (entry T w.process w.handle)) (observed T w) stood (plain e)

-- ---- what is met

module _ (s : Stepping) (list : List ℕ) (began : IsConsistent s.beginning) (differs : DiffersAtTouched s) (all : (k : RowKey) → listed s.touched k ≡ true → HasCandidates s.beginning s.current k list) where
  module _ (n : ℕ) (w : Wait) (there : wait s.current n ≡ Some w) (met : is_met s.beginning s.current w ≡ true) where
    module _ (stood : wait s.beginning n ≡ Some w) (unmoved : entry s.current w.process w.handle ≡ entry s.beginning w.process w.handle) where
      -- a wait that was there, on an entry that was, whose object has no signal that it had not, is not met
      quiet : {A : Type 0} (o : Option Held) → entry s.current w.process w.handle ≡ o → bit_and (signals_by s.beginning o) (signals_by s.current o) ≡ signals_by s.current o → A
      quiet o is e =
          let stood_then : bit_and (signals_by s.beginning (entry s.current w.process w.handle)) (observed s.current w) ≡ observed s.current w =
          subst (λ o. bit_and (signals_by s.beginning o) (signals_by s.current o) ≡ signals_by s.current o) (sym is) e in
          let plain : w.edge ≡ false → bit_and w.signals.0 (signals_by s.beginning (entry s.current w.process w.handle)) ≡ 0 = λ f. ap (λ o. bit_and w.signals.0 (signals_by s.beginning o)) unmoved ∙ began.waiting n w stood f in
          absurd (true≢false (is_met s.beginning s.current w) met (unmet-among s.beginning s.current w stood_then plain))

      -- what an entry of the beginning names was there
      named_there : {A : Type 0} (held : Held) → entry s.current w.process w.handle ≡ Some held → object s.beginning held.koid ≡ None → A
      named_there held is none =
          let names : exists s.beginning held.koid ≡ true = (began.sound.of_entries w.process w.handle held (sym unmoved ∙ is)).names in
          absurd (true≢false (exists s.beginning held.koid) names (ap is_some none))

      at-object : (held : Held) → entry s.current w.process w.handle ≡ Some held → HasCandidates s.beginning s.current (key.Object held.koid) list → among list n ≡ true
      at-object held is (inl none) = named_there held is none
      at-object held is (inr (inl stood)) = quiet (Some held) is (eqb-true _ _ stood)
      at-object held is (inr (inr lists)) = lists n (ap (λ o. option_map_or (is_at s.current held.koid) o false) there ∙ ap (names held.koid) is ∙ eq-eqb held.koid held.koid refl)

      by_object : (held : Held) → entry s.current w.process w.handle ≡ Some held → (b : Bool) → listed s.touched (key.Object held.koid) ≡ b → among list n ≡ true
      by_object held is true t = at-object held is (all (key.Object held.koid) t)
      by_object held is false t =
          let same : signals_at s.current held.koid ≡ signals_at s.beginning held.koid = ap (λ r. object_signals (as_object r)) (differs (key.Object held.koid) t) in
          quiet (Some held) is (ap (λ n. bit_and n (signals_at s.current held.koid)) (sym same) ∙ and_self (signals_at s.current held.koid))

      by_held : (o : Option Held) → entry s.current w.process w.handle ≡ o → among list n ≡ true
      by_held None is = quiet None is refl
      by_held (Some held) is = by_object held is (listed s.touched (key.Object held.koid)) refl

    -- a wait of the beginning is on an entry of the beginning
    on_entry : wait s.beginning n ≡ Some w → HasCandidates s.beginning s.current (key.Entry w.process w.handle) list → among list n ≡ true
    on_entry stood (inl none) = let sound = began.sound.of_waits n w stood in absurd (no_held (entry s.beginning w.process w.handle) sound.held none sound.there)
      where
        no_held : (o : Option Held) (held : Held) → o ≡ None → o ≡ Some held → ⊥
        no_held o held e f = cc
    on_entry stood (inr lists) =
        lists n
        (ap (λ o. option_map_or (is_on w.process w.handle) o false) there ∙ and_both (w.process == w.process) (w.handle == w.handle) (eq-eqb w.process w.process refl) (eq-eqb w.handle w.handle refl))

    by_entry : wait s.beginning n ≡ Some w → (b : Bool) → listed s.touched (key.Entry w.process w.handle) ≡ b → among list n ≡ true
    by_entry stood true t = on_entry stood (all (key.Entry w.process w.handle) t)
    by_entry stood false t = by_held stood (ap as_entry (differs (key.Entry w.process w.handle) t)) (entry s.current w.process w.handle) refl

    by_wait : (b : Bool) → listed s.touched (key.Wait n) ≡ b → among list n ≡ true
    by_wait true t = all (key.Wait n) t w there met
    by_wait false t = by_entry (ap as_wait (sym (differs (key.Wait n) t)) ∙ there) (listed s.touched (key.Entry w.process w.handle)) refl

  pub met-candidate_waits : HasMet s.beginning s.current list
  met-candidate_waits = record { each = λ n w there met. by_wait n w there met (listed s.touched (key.Wait n)) refl }
