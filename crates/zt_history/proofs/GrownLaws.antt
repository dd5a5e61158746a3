-- What a history keeps while a call makes one moment more, and while the last moment is dropped.
use Rattle.std.proofs.Common.{◌≡◌, ℕ, suc, ◌≤◌, ◌<◌, true, List, [], ◌∷◌, ◌++◌, length, Some, refl, sym, ◌∙◌, ap, subst, inl, inr, length-append, arith}
use Rattle.std.specs.Prelude.{slice_get}
use Rattle.std.specs.Option.{option_map}
use Rattle.std.proofs.lemmas.Bool.{cases_lt}
use Rattle.std.proofs.lemmas.Option.{slice_get_past, slice_get_within, same_Some, none-some}
use Rattle.zt_rows.specs.Change.{before}
use Rattle.zt_rows.specs.Reads.{has_live_process}
use Rattle.zt_rows.specs.Step.{step}
use Rattle.zt_rows.proofs.ChangeLaws.{Rows}
use Rattle.zt_store.specs.Places.{Keeps, fits}
use Rattle.zt_store.specs.StoreView.{Stored}
use Rattle.zt_store.proofs.Fitting.{all_fit-push, all_fit-kept, all_fit-left}
use Rattle.zt_history.specs.Tree.{Made, made_at, parent_of, parent_at, state_at}
use Rattle.zt_history.specs.HistoryRefusals.{most_moments}
use Rattle.zt_history.specs.TreeInvariant.{Falls, IsMade, AreMoments, record_of, recorded_at}
use Rattle.zt_history.specs.ProofsOnly.TreeInvariant.{IsHistory}
use Rattle.zt_history.proofs.ListLaws.{get-left, get-last, place}
use Rattle.zt_history.proofs.MoreLaws.{falls-left, falls-push, state-more, record_of-more}
use Rattle.zt_history.proofs.RecordLaws.{record_of-here, record_of-others}
use Rattle.zt_history.proofs.RunLaws.{state-step}

pub length-push : {A : Type 0} (xs : List A) (x : A) → length (xs ++ x ∷ []) ≡ suc (length xs)
length-push xs x = omega (arith, length-append xs (x ∷ []))

module _ (made : List Made) (e : Made) (falls : Falls made) (within : e.parent ≤ length made) where
  -- the last moment of the longer list, and those before it
  pub made_at-end : made_at (made ++ e ∷ []) (suc (length made)) ≡ Some e
  made_at-end = get-last made e (length made) refl

  pub state-end : state_at (made ++ e ∷ []) (suc (length made)) ≡ (step (state_at made e.parent) e.process e.call).0
  state-end =
      state-step (made ++ e ∷ []) (falls-push made e falls within) (length made) e made_at-end
      ∙ ap (λ S. (step S e.process e.call).0) (state-more made (e ∷ []) falls (falls-push made e falls within) e.parent within)

  recorded-more : (position i : ℕ) → position ≤ length made → i < length made → recorded_at (made ++ e ∷ []) position (suc i) ≡ recorded_at made position (suc i)
  recorded-more position i h g =
      ap (option_map (λ _. record_of (made ++ e ∷ []) position (suc i))) (get-left made (e ∷ []) i g)
      ∙ ap (λ (R : Rows). option_map (λ _. R) (slice_get made i)) (record_of-more made (e ∷ []) falls (falls-push made e falls within) position (suc i) h (omega (arith, g)))

  -- the records for a store at the last moment are those for a store at its parent, and its own
  recorded-end : (i : ℕ) → i < length made → recorded_at (made ++ e ∷ []) (suc (length made)) (suc i) ≡ recorded_at made e.parent (suc i)
  recorded-end i g =
      let still = falls-push made e falls within in
      let parent : parent_at (made ++ e ∷ []) (suc (length made)) ≡ e.parent = ap parent_of made_at-end in
      let others = record_of-others (made ++ e ∷ []) still (length made) (suc i) (λ h. omega (arith, h, g)) in
      ap (λ (R : Rows). option_map (λ _. R) (slice_get (made ++ e ∷ []) i)) (others ∙ ap (λ p. record_of (made ++ e ∷ []) p (suc i)) parent)
      ∙ recorded-more e.parent i within g

  recorded-own : recorded_at (made ++ e ∷ []) (suc (length made)) (suc (length made))
      ≡ Some (before (state_at made e.parent) (step (state_at made e.parent) e.process e.call).0)
  recorded-own =
      let still = falls-push made e falls within in
      let above : state_at (made ++ e ∷ []) (parent_at (made ++ e ∷ []) (suc (length made))) ≡ state_at made e.parent =
      ap (λ o. state_at (made ++ e ∷ []) (parent_of o)) made_at-end ∙ state-more made (e ∷ []) falls still e.parent within in
      ap (option_map (λ _. record_of (made ++ e ∷ []) (suc (length made)) (suc (length made)))) made_at-end
      ∙ ap Some (record_of-here (made ++ e ∷ []) still (length made) ∙ (λ i. before (above i) (state-end i)))

  -- a call at the parent made it
  pub history-push : (old new : Stored) (records : List Rows) (R : Rows) → IsHistory made e.parent old records
      → new.state ≡ (step old.state e.process e.call).0 → R ≡ before old.state new.state → Keeps old.places new.places → fits new.places R ≡ true
      → IsHistory (made ++ e ∷ []) (suc (length made)) new (records ++ R ∷ [])
  history-push old new records R is went was kept fit =
      let after : new.state ≡ (step (state_at made e.parent) e.process e.call).0 = went ∙ ap (λ S. (step S e.process e.call).0) is.here in
      let own : R ≡ before (state_at made e.parent) (step (state_at made e.parent) e.process e.call).0 = was ∙ (λ i. before (is.here i) (after i)) in
      let size : length (made ++ e ∷ []) ≡ length (records ++ R ∷ []) = length-push made e ∙ ap suc (sym is.many) ∙ sym (length-push records R) in
      record {
        within = omega (arith, length-push made e);
        here = after ∙ sym state-end;
        many = sym size;
        each = λ i. elim (place made e i) [
          | inl l ↦
              get-left records (R ∷ []) i (omega (arith, l, is.many))
              ∙ is.each i
              ∙ sym (recorded-end i l)
          | inr r ↦ elim r [
            | inl at ↦
                let P : ℕ → Type 0 = λ i. slice_get (records ++ R ∷ []) i ≡ recorded_at (made ++ e ∷ []) (suc (length made)) (suc i) in
                subst P (sym at) (get-last records R (length made) (sym is.many) ∙ ap Some own ∙ sym recorded-own)
            | inr past ↦
                slice_get_past (records ++ R ∷ []) i (omega (arith, past, size))
                ∙ sym (ap (option_map (λ _. record_of (made ++ e ∷ []) (suc (length made)) (suc i))) (slice_get_past (made ++ e ∷ []) i past))
          ]
        ];
        fit = all_fit-push new.places records R (all_fit-kept old.places new.places kept records is.fit) fit;
      }

  -- it may go again, with its record, where the store is not at it
  pub history-dropped : (position : ℕ) (store : Stored) (records : List Rows) (R : Rows) → position ≤ length made
      → IsHistory (made ++ e ∷ []) position store (records ++ R ∷ []) → IsHistory made position store records
  history-dropped position store records R there is =
      let size : length records ≡ length made = omega (arith, is.many, length-push records R, length-push made e) in
      record {
        within = there;
        here = is.here ∙ state-more made (e ∷ []) falls (falls-push made e falls within) position there;
        many = size;
        each = λ i. elim (cases_lt i (length made)) [
          | inl l ↦
              sym (get-left records (R ∷ []) i (omega (arith, l, size)))
              ∙ is.each i
              ∙ recorded-more position i there l
          | inr past ↦
              slice_get_past records i (omega (arith, past, size))
              ∙ sym (ap (option_map (λ _. record_of made position (suc i))) (slice_get_past made i past))
        ];
        fit = all_fit-left store.places records (R ∷ []) is.fit;
      }

  -- the moments with it are moments still
  pub moments-push : AreMoments made → length made < most_moments → IsMade made e → AreMoments (made ++ e ∷ [])
  moments-push are few is =
      let still = falls-push made e falls within in
      let kept : (m : ℕ) → m ≤ length made → state_at (made ++ e ∷ []) m ≡ state_at made m = state-more made (e ∷ []) falls still in
      let made_there : (d : Made) → d.parent ≤ length made → IsMade made d → IsMade (made ++ e ∷ []) d = λ d h i. record {
        running = ap (λ S. has_live_process S d.process) (kept d.parent h) ∙ i.running;
        limits = i.limits;
        answered = i.answered ∙ ap (λ S. (step S d.process d.call).1) (sym (kept d.parent h));
      } in
      record {
        few = omega (arith, length-push made e, few);
        falls = still;
        each = each made_there;
      }
    where
      each : ((d : Made) → d.parent ≤ length made → IsMade made d → IsMade (made ++ e ∷ []) d) → (i : ℕ) (d : Made) → slice_get (made ++ e ∷ []) i ≡ Some d → IsMade (made ++ e ∷ []) d
      each there i d h = elim (place made e i) [
        | inl l ↦
            let at : slice_get made i ≡ Some d = sym (get-left made (e ∷ []) i l) ∙ h in
            there d (omega (arith, l, falls i, ap parent_of at)) (are.each i d at)
        | inr r ↦ elim r [
          | inl at ↦ subst (λ d. IsMade (made ++ e ∷ []) d) (same_Some e d (sym (get-last made e i at) ∙ h)) (there e within is)
          | inr past ↦ absurd (none-some d (sym (slice_get_past (made ++ e ∷ []) i past) ∙ h))
        ]
      ]

-- the first moments of a list of moments
pub moments-left : (made : List Made) (e : Made) → AreMoments (made ++ e ∷ []) → AreMoments made
moments-left made e are =
    let falls = falls-left made (e ∷ []) are.falls in
    record {
      few = omega (arith, are.few, length-push made e);
      falls = falls;
      each = λ i d at.
          let there : i < length made = slice_get_within made i d at in
          let h : d.parent ≤ length made = omega (arith, there, falls i, ap parent_of at) in
          let is = are.each i d (get-left made (e ∷ []) i there ∙ at) in
          let kept : state_at (made ++ e ∷ []) d.parent ≡ state_at made d.parent = state-more made (e ∷ []) falls are.falls d.parent h in
          record {
            running = ap (λ S. has_live_process S d.process) (sym kept) ∙ is.running;
            limits = is.limits;
            answered = is.answered ∙ ap (λ S. (step S d.process d.call).1) kept;
          };
    }
