-- More moments change nothing of those that are there.
use Rattle.std.proofs.Common.{◌≡◌, ℕ, zero, suc, ◌≤◌, List, [], ◌∷◌, ◌++◌, length, refl, sym, ◌∙◌, ap, subst, inl, inr, arith}
use Rattle.std.specs.Prelude.{if◌then◌else◌}
use Rattle.std.proofs.lemmas.Bool.{cases_lt}
use Rattle.std.proofs.lemmas.Option.{slice_get_past}
use Rattle.zt_rows.specs.Change.{before}
use Rattle.zt_rows.specs.Step.{step}
use Rattle.zt_rows.specs.Tests.{among}
use Rattle.zt_history.specs.Tree.{Made, made_at, parent_of, parent_at, upto, path, state_at}
use Rattle.zt_history.specs.TreeInvariant.{Falls, record_of}
use Rattle.zt_history.proofs.ListLaws.{get-left, get-last, get-within, place}
use Rattle.zt_history.proofs.PathLaws.{by_parents}
use Rattle.zt_history.proofs.RunLaws.{state-opening, state-step}

pub made_at-more : (made more : List Made) (m : ℕ) → m ≤ length made → made_at (made ++ more) m ≡ made_at made m
made_at-more made more zero h = refl
made_at-more made more (suc i) h = get-left made more i (omega (arith, h))

pub parent-more : (made more : List Made) (m : ℕ) → m ≤ length made → parent_at (made ++ more) m ≡ parent_at made m
parent-more made more m h = ap parent_of (made_at-more made more m h)

pub parent-early : (made : List Made) → Falls made → (m : ℕ) → parent_at made m ≤ m
parent-early made falls zero = omega arith
parent-early made falls (suc i) = omega (arith, falls i)

-- one more, whose parent is there
pub falls-push : (made : List Made) (e : Made) → Falls made → e.parent ≤ length made → Falls (made ++ e ∷ [])
falls-push made e falls h i =
    elim (place made e i) [
      | inl l ↦ omega (arith, falls i, parent-more made (e ∷ []) (suc i) (omega (arith, l)))
      | inr r ↦ elim r [
        | inl at ↦ omega (arith, h, at, ap parent_of (get-last made e i at))
        | inr past ↦ omega (arith, ap parent_of (slice_get_past (made ++ e ∷ []) i past))
      ]
    ]

-- fewer, the first of them
pub falls-left : (made more : List Made) → Falls (made ++ more) → Falls made
falls-left made more falls i =
    elim (cases_lt i (length made)) [
      | inl l ↦ omega (arith, falls i, parent-more made more (suc i) (omega (arith, l)))
      | inr past ↦ omega (arith, ap parent_of (slice_get_past made i past))
    ]

module _ (made more : List Made) (falls : Falls made) where
  upto-more : (n m : ℕ) → m ≤ length made → upto n (made ++ more) m ≡ upto n made m
  upto-more zero m h = refl
  upto-more (suc n) zero h = refl
  upto-more (suc n) (suc i) h =
      ap (λ p. upto n (made ++ more) p ++ suc i ∷ []) (parent-more made more (suc i) h)
      ∙ ap (λ w. w ++ suc i ∷ []) (upto-more n (parent_at made (suc i)) (omega (arith, falls i, h)))

  pub path-more : (m : ℕ) → m ≤ length made → path (made ++ more) m ≡ path made m
  unfolding path
  path-more m h = upto-more m m h

  pub state-more : Falls (made ++ more) → (m : ℕ) → m ≤ length made → state_at (made ++ more) m ≡ state_at made m
  state-more still m = by_parents made falls (λ m. m ≤ length made → state_at (made ++ more) m ≡ state_at made m) base one m
    where
      base : 0 ≤ length made → state_at (made ++ more) 0 ≡ state_at made 0
      base h = state-opening (made ++ more) ∙ sym (state-opening made)

      one : (i : ℕ) → (parent_at made (suc i) ≤ length made → state_at (made ++ more) (parent_at made (suc i)) ≡ state_at made (parent_at made (suc i)))
          → suc i ≤ length made → state_at (made ++ more) (suc i) ≡ state_at made (suc i)
      one i rest h =
          let there = get-within made i (omega (arith, h)) in
          let e = there.0 in
          let p : parent_at made (suc i) ≡ e.parent = ap parent_of there.1 in
          let P : ℕ → Type 0 = λ p. state_at (made ++ more) p ≡ state_at made p in
          let same : P e.parent = subst P p (rest (omega (arith, h, falls i))) in
          state-step (made ++ more) still i e (made_at-more made more (suc i) h ∙ there.1)
          ∙ ap (λ S. (step S e.process e.call).0) same
          ∙ sym (state-step made falls i e there.1)

  pub record_of-more : Falls (made ++ more) → (position m : ℕ) → position ≤ length made → m ≤ length made
      → record_of (made ++ more) position m ≡ record_of made position m
  unfolding record_of
  record_of-more still position m h g =
      let way : path (made ++ more) position ≡ path made position = path-more position h in
      let here : state_at (made ++ more) m ≡ state_at made m = state-more still m g in
      let above : state_at (made ++ more) (parent_at (made ++ more) m) ≡ state_at made (parent_at made m) =
      ap (state_at (made ++ more)) (parent-more made more m g) ∙ state-more still (parent_at made m) (omega (arith, parent-early made falls m, g)) in
      λ j. if among (way j) m then before (above j) (here j) else before (here j) (above j)
