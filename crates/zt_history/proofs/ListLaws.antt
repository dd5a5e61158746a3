-- What the other laws want to know of lists: the element at a place of a longer list, and the last one.
use Rattle.std.proofs.Common.{◌≡◌, ℕ, zero, suc, ◌+◌, ◌-◌, ◌≤◌, ◌<◌, ◌⊎◌, List, [], ◌∷◌, ◌++◌, length, map, get_or, set, Some, refl, sym, ◌∙◌, ap, inl, inr, length-append, arith}
use Rattle.std.specs.Prelude.{slice_get}
use Rattle.std.proofs.lemmas.Bool.{cases_lt}
use Rattle.std.proofs.Math.Seq.{get_or-append_seam}
use Rattle.zt_history.specs.Tree.{end_of}

module _ {A : Type 0} where
  pub get-left : (xs ys : List A) (i : ℕ) → i < length xs → slice_get (xs ++ ys) i ≡ slice_get xs i
  get-left [] ys i h = absurd (omega (arith, h))
  get-left (x ∷ xs) ys zero h = refl
  get-left (x ∷ xs) ys (suc i) h = get-left xs ys i (omega (arith, h))

  pub get-right : (xs ys : List A) (i : ℕ) → slice_get (xs ++ ys) (length xs + i) ≡ slice_get ys i
  get-right [] ys i = let e : length {A = A} [] + i ≡ i = omega arith in ap (slice_get ys) e
  get-right (x ∷ xs) ys i = let e : length (x ∷ xs) + i ≡ suc (length xs + i) = omega arith in ap (slice_get (x ∷ xs ++ ys)) e ∙ get-right xs ys i

  -- what stands at a place of two lists stands in one of them
  pub either : (xs ys : List A) (i : ℕ) (y : A) → slice_get (xs ++ ys) i ≡ Some y → (slice_get xs i ≡ Some y) ⊎ (slice_get ys (i - length xs) ≡ Some y)
  either xs ys i y at = elim (cases_lt i (length xs)) [
    | inl l ↦ inl (sym (get-left xs ys i l) ∙ at)
    | inr past ↦
        let n : length xs + (i - length xs) ≡ i = omega (arith, past) in
        inr (sym (get-right xs ys (i - length xs)) ∙ ap (slice_get (xs ++ ys)) n ∙ at)
  ]

  pub get-seam : (xs : List A) (x : A) (ys : List A) → slice_get (xs ++ x ∷ ys) (length xs) ≡ Some x
  get-seam [] x ys = refl
  get-seam (y ∷ xs) x ys = get-seam xs x ys

  pub get-last : (xs : List A) (x : A) (i : ℕ) → i ≡ length xs → slice_get (xs ++ x ∷ []) i ≡ Some x
  get-last xs x i e = ap (slice_get (xs ++ x ∷ [])) e ∙ get-seam xs x []

  pub get-within : (xs : List A) (i : ℕ) → i < length xs → (x : A) × (slice_get xs i ≡ Some x)
  get-within [] i h = absurd (omega (arith, h))
  get-within (x ∷ xs) zero h = (x, refl)
  get-within (x ∷ xs) (suc i) h = get-within xs i (omega (arith, h))

  -- a place of a list with one more at its end
  pub place : (xs : List A) (x : A) (i : ℕ) → (i < length xs) ⊎ (i ≡ length xs) ⊎ (length (xs ++ x ∷ []) ≤ i)
  place xs x i =
      elim (cases_lt i (length xs)) [
        | inl h ↦ inl h
        | inr h ↦ elim (cases_lt (length xs) i) [ inl g ↦ inr (inr (omega (arith, g, length-append xs (x ∷ [])))) | inr g ↦ inr (inl (omega (arith, h, g))) ]
      ]

  pub get-set_same : (xs : List A) (i : ℕ) (x : A) → i < length xs → slice_get (set xs i x) i ≡ Some x
  get-set_same [] i x h = absurd (omega (arith, h))
  get-set_same (y ∷ xs) zero x h = refl
  get-set_same (y ∷ xs) (suc i) x h = get-set_same xs i x (omega (arith, h))

  pub get-set_other : (xs : List A) (i j : ℕ) (x : A) → (j ≡ i → ⊥) → slice_get (set xs i x) j ≡ slice_get xs j
  get-set_other [] i j x n = refl
  get-set_other (y ∷ xs) zero zero x n = absurd (n refl)
  get-set_other (y ∷ xs) zero (suc j) x n = refl
  get-set_other (y ∷ xs) (suc i) zero x n = refl
  get-set_other (y ∷ xs) (suc i) (suc j) x n = get-set_other xs i j x (λ e. n (ap suc e))

pub end_of-push : (xs : List ℕ) (x : ℕ) → end_of (xs ++ x ∷ []) ≡ x
end_of-push xs x =
    let n : length (xs ++ x ∷ []) - 1 ≡ length xs = omega (arith, length-append xs (x ∷ [])) in
    ap (λ n. get_or (xs ++ x ∷ []) n 0) n ∙ get_or-append_seam xs x [] 0

pub length-mapped : {A B : Type 0} (f : A → B) (xs : List A) → length (map f xs) ≡ length xs
length-mapped f [] = refl
length-mapped f (x ∷ xs) = ap suc (length-mapped f xs)
