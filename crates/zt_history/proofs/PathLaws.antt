-- Laws of paths: a parent is earlier, so the path to a moment is its parent's, and the moment.
use Rattle.std.proofs.Common.{◌≡◌, ℕ, zero, suc, ◌≤◌, Bool, true, false, ◌||◌, List, [], ◌∷◌, ◌++◌, length, take, Some, refl, sym, ◌∙◌, ap, inl, inr, length-append, arith}
use Rattle.std.specs.Prelude.{slice_get, ◌==◌}
use Rattle.std.proofs.lemmas.Bool.{cases_lt, true≢false, eq-eqb, ne_eqb}
use Rattle.std.proofs.lemmas.List.{take-append-le}
use Rattle.std.proofs.Math.Seq.{take-length}
use Rattle.std.proofs.lemmas.Option.{slice_get_past, same_Some, none-some}
use Rattle.std.proofs.lemmas.List.Folds.{list_any-append}
use Rattle.zt_rows.specs.Tests.{among}
use Rattle.zt_history.specs.Tree.{Made, parent_at, upto, path, end_of}
use Rattle.zt_history.specs.TreeInvariant.{Falls}
use Rattle.zt_history.proofs.ListLaws.{get-left, get-last, place, end_of-push}

or_true : (b : Bool) → (b || true) ≡ true
or_true true = refl
or_true false = refl

or_false : (b : Bool) → (b || false) ≡ b
or_false true = refl
or_false false = refl

-- more fuel changes nothing
upto-enough : (made : List Made) → Falls made → (n k m : ℕ) → m ≤ n → m ≤ k → upto n made m ≡ upto k made m
upto-enough made falls zero zero m h g = refl
upto-enough made falls zero (suc k) zero h g = refl
upto-enough made falls zero (suc k) (suc i) h g = absurd (omega (arith, h))
upto-enough made falls (suc n) zero zero h g = refl
upto-enough made falls (suc n) zero (suc i) h g = absurd (omega (arith, g))
upto-enough made falls (suc n) (suc k) zero h g = refl
upto-enough made falls (suc n) (suc k) (suc i) h g =
    ap (λ p. p ++ suc i ∷ []) (upto-enough made falls n k (parent_at made (suc i)) (omega (arith, falls i, h)) (omega (arith, falls i, g)))

pub path-opening : (made : List Made) → path made 0 ≡ []
unfolding path
path-opening made = refl

module _ (made : List Made) (falls : Falls made) where
  pub path-step : (i : ℕ) → path made (suc i) ≡ path made (parent_at made (suc i)) ++ suc i ∷ []
  unfolding path
  path-step i = ap (λ p. p ++ suc i ∷ []) (upto-enough made falls i (parent_at made (suc i)) (parent_at made (suc i)) (falls i) (omega arith))

  below : (P : ℕ → Type 0) → P 0 → ((i : ℕ) → P (parent_at made (suc i)) → P (suc i)) → (n m : ℕ) → m ≤ n → P m
  below P base step n zero h = base
  below P base step zero (suc i) h = absurd (omega (arith, h))
  below P base step (suc n) (suc i) h = step i (below P base step n (parent_at made (suc i)) (omega (arith, falls i, h)))

  -- what holds of the opening, and of a moment where it holds of its parent, holds of every moment
  pub by_parents : (P : ℕ → Type 0) → P 0 → ((i : ℕ) → P (parent_at made (suc i)) → P (suc i)) → (m : ℕ) → P m
  by_parents P base step m = below P base step m m (omega arith)

  pub path-end : (m : ℕ) → end_of (path made m) ≡ m
  path-end zero = ap end_of (path-opening made)
  path-end (suc i) = ap end_of (path-step i) ∙ end_of-push (path made (parent_at made (suc i))) (suc i)

  pub length-path : (i : ℕ) → length (path made (suc i)) ≡ suc (length (path made (parent_at made (suc i))))
  length-path i = ap length (path-step i) ∙ omega (arith, length-append (path made (parent_at made (suc i))) (suc i ∷ []))

  pub short-path : (m : ℕ) → length (path made m) ≤ m
  short-path =
      by_parents (λ m. length (path made m) ≤ m) (omega (arith, ap length (path-opening made)))
      (λ i h. omega (arith, h, length-path i, falls i))

  -- only the opening has no path
  pub opening-path : (m : ℕ) → length (path made m) ≡ 0 → m ≡ 0
  opening-path zero e = refl
  opening-path (suc i) e = absurd (omega (arith, e, length-path i))

  -- the path to a moment on a path is that path up to it
  pub path-at : (m i q : ℕ) → slice_get (path made m) i ≡ Some q → path made q ≡ take (suc i) (path made m)
  path-at m = by_parents (λ m. (i q : ℕ) → slice_get (path made m) i ≡ Some q → path made q ≡ take (suc i) (path made m)) base step m
    where
      base : (i q : ℕ) → slice_get (path made 0) i ≡ Some q → path made q ≡ take (suc i) (path made 0)
      base i q h = absurd (none-some q (sym (ap (λ p. slice_get p i) (path-opening made)) ∙ h))

      step : (j : ℕ) → ((i q : ℕ) → slice_get (path made (parent_at made (suc j))) i ≡ Some q → path made q ≡ take (suc i) (path made (parent_at made (suc j))))
          → (i q : ℕ) → slice_get (path made (suc j)) i ≡ Some q → path made q ≡ take (suc i) (path made (suc j))
      step j rest i q h =
          let xs = path made (parent_at made (suc j)) in
          let there : slice_get (xs ++ suc j ∷ []) i ≡ Some q = ap (λ p. slice_get p i) (sym (path-step j)) ∙ h in
          elim (place xs (suc j) i) [
            | inl l ↦
                rest i q (sym (get-left xs (suc j ∷ []) i l) ∙ there)
                ∙ sym (take-append-le (suc i) xs (suc j ∷ []) (omega (arith, l)))
                ∙ ap (take (suc i)) (sym (path-step j))
            | inr r ↦ elim r [
              | inl e ↦
                  let same : q ≡ suc j = same_Some q (suc j) (sym there ∙ get-last xs (suc j) i e) in
                  let n : suc i ≡ length (path made (suc j)) = omega (arith, e, length-path j) in
                  ap (path made) same ∙ sym (take-length (path made (suc j))) ∙ ap (λ n. take n (path made (suc j))) (sym n)
              | inr past ↦ absurd (none-some q (sym (slice_get_past (xs ++ suc j ∷ []) i past) ∙ there))
            ]
          ]

  -- what is among a path
  pub among-step : (i q : ℕ) → among (path made (suc i)) q ≡ (among (path made (parent_at made (suc i))) q || (suc i == q || false))
  among-step i q = ap (λ p. among p q) (path-step i) ∙ list_any-append (λ m. m == q) (path made (parent_at made (suc i))) (suc i ∷ [])

  pub among-self : (i : ℕ) → among (path made (suc i)) (suc i) ≡ true
  among-self i = among-step i (suc i) ∙ ap (λ b. among (path made (parent_at made (suc i))) (suc i) || (b || false)) (eq-eqb (suc i) (suc i) refl) ∙ or_true (among (path made (parent_at made (suc i))) (suc i))

  pub among-other : (i q : ℕ) → (q ≡ suc i → ⊥) → among (path made (suc i)) q ≡ among (path made (parent_at made (suc i))) q
  among-other i q other = among-step i q ∙ ap (λ b. among (path made (parent_at made (suc i))) q || (b || false)) (ne_eqb (suc i) q (λ e. other (sym e))) ∙ or_false (among (path made (parent_at made (suc i))) q)

  -- a moment on a path is not later than its end
  pub among-early : (m q : ℕ) → among (path made m) q ≡ true → q ≤ m
  among-early m q = by_parents (λ m. among (path made m) q ≡ true → q ≤ m) base step m
    where
      base : among (path made 0) q ≡ true → q ≤ 0
      base h = absurd (true≢false (sym h ∙ ap (λ p. among p q) (path-opening made)))

      step : (i : ℕ) → (among (path made (parent_at made (suc i))) q ≡ true → q ≤ parent_at made (suc i)) → among (path made (suc i)) q ≡ true → q ≤ suc i
      step i rest h =
          elim (cases_lt (suc i) q) [
            | inl later ↦
                let r : q ≤ parent_at made (suc i) = rest (sym (among-other i q (λ e. omega (arith, e, later))) ∙ h) in
                omega (arith, r, falls i)
            | inr g ↦ g
          ]

  -- a moment is not on its parent's path
  pub among-parent : (i : ℕ) → among (path made (parent_at made (suc i))) (suc i) ≡ false
  among-parent i = by (among (path made (parent_at made (suc i))) (suc i)) refl
    where
      by : (b : Bool) → among (path made (parent_at made (suc i))) (suc i) ≡ b → among (path made (parent_at made (suc i))) (suc i) ≡ false
      by true e = absurd (omega (arith, among-early (parent_at made (suc i)) (suc i) e, falls i))
      by false e = e
