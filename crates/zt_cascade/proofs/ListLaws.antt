-- Lists gone along element by element: folds, and what each element adds to a list.
use Rattle.std.proofs.Common.{◌≡◌, ◌<◌, ◌≤◌, ℕ, zero, suc, ◌+◌, List, [], ◌∷◌, ◌++◌, length, take, get_or, refl, sym, ap, ◌∙◌, arith, add-one, inl, inr}
use Rattle.std.specs.Prelude.{Option, None, Some, slice_get}
use Rattle.std.specs.List.{flat_map, fold}
use Rattle.std.proofs.Math.Seq.{take-suc}
use Rattle.std.proofs.lemmas.Grind.{flat_map-append}
use Rattle.std.proofs.lemmas.List.Sums.{fold-append}
use Rattle.std.proofs.lemmas.Option.{slice_get_cases}

-- the first so many of a list that has no more
pub take-past : {A : Type 0} (xs : List A) (i : ℕ) → length xs ≤ i → take i xs ≡ xs
take-past [] zero h = refl
take-past [] (suc i) h = refl
take-past (x ∷ xs) zero h = absurd (omega arith)
take-past (x ∷ xs) (suc i) h = ap (λ l. x ∷ l) (take-past xs i (omega arith))

-- ---- folds

-- one more step of a fold along a list
pub fold-next : {A B : Type 0} (f : B → A → B) (a : B) (xs : List A) (i : ℕ) (x : A) → i < length xs → x ≡ get_or xs i x → fold f a (take (i + 1) xs) ≡ f (fold f a (take i xs)) x
fold-next f a xs i x below e =
    let more : take (i + 1) xs ≡ take i xs ++ get_or xs i x ∷ [] = ap (λ n. take n xs) (add-one i) ∙ take-suc xs i x below in
    ap (fold f a) more ∙ fold-append f a (take i xs) (get_or xs i x ∷ []) ∙ ap (f (fold f a (take i xs))) (sym e)

pub fold-all : {A B : Type 0} (f : B → A → B) (a : B) (xs : List A) (i : ℕ) → length xs ≤ i → fold f a (take i xs) ≡ fold f a xs
fold-all f a xs i past = ap (fold f a) (take-past xs i past)

-- ---- what each element adds

-- what one more element adds
pub adds-next : {A B : Type 0} (f : A → List B) (xs : List A) (i : ℕ) (x : A) → slice_get xs i ≡ Some x → flat_map f (take (i + 1) xs) ≡ flat_map f (take i xs) ++ f x
adds-next {A} {B} f xs i x here = elim (slice_get_cases xs i).1 [
  | inl w ↦
      let same : w.0 ≡ x = one_value w.0 x (sym w.2 ∙ here) in
      let more : take (i + 1) xs ≡ take i xs ++ x ∷ [] =
      ap (λ n. take n xs) (add-one i) ∙ take-suc xs i w.0 w.1 ∙ ap (λ z. take i xs ++ z ∷ []) (w.3 ∙ same) in
      ap (flat_map f) more ∙ flat_map-append f (take i xs) (x ∷ []) ∙ ap (λ l. flat_map f (take i xs) ++ l) (append-nil (f x))
  | inr w ↦ absurd (no_value (slice_get xs i) x w.1 here)
]
  where
    one_value : (a b : A) → Some a ≡ Some b → a ≡ b
    one_value a b e = cc

    no_value : (r : Option A) (k : A) → r ≡ None → r ≡ Some k → ⊥
    no_value r k e g = cc

    append-nil : (l : List B) → l ++ [] ≡ l
    append-nil [] = refl
    append-nil (y ∷ l) = ap (λ m. y ∷ m) (append-nil l)

pub adds-all : {A B : Type 0} (f : A → List B) (xs : List A) (i : ℕ) → slice_get xs i ≡ None → flat_map f (take i xs) ≡ flat_map f xs
adds-all {A} f xs i end = elim (slice_get_cases xs i).1 [
  | inl w ↦ absurd (no_value (slice_get xs i) w.0 end w.2)
  | inr w ↦ ap (flat_map f) (take-past xs i w.0)
]
  where
    no_value : (r : Option A) (k : A) → r ≡ None → r ≡ Some k → ⊥
    no_value r k e g = cc
