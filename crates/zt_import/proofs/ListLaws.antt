-- What the first elements of a list give, one by one.
use Rattle.std.proofs.Common.{◌≡◌, ℕ, zero, suc, ◌≤◌, ◌<◌, Bool, true, false, ◌||◌, List, [], ◌∷◌, ◌++◌, length, take, get_or, Option, Some, None, refl, sym, ◌∙◌, ap, arith}
use Rattle.std.specs.Prelude.{slice_get}
use Rattle.std.specs.List.{filter_map, cons_option, list_any}
use Rattle.std.specs.Option.{option_to_list}
use Rattle.std.proofs.lemmas.List.{length-take-le}
use Rattle.std.proofs.lemmas.List.Folds.{list_any-append}
use Rattle.std.proofs.lemmas.Option.{slice_get_read}
use Rattle.zt_import.proofs.ComparedLaws.{take-all}
use Rattle.zt_import.proofs.TrailLaws.{filter_map-push}
use Rattle.zt_import.proofs.TextLaws.{take-none, take-next}

-- ---- lists of which some elements count

module _ {A B : Type 0} (f : A → Option B) where
  pub so-far-none : (xs : List A) → filter_map f (take 0 xs) ≡ []
  so-far-none xs = ap (filter_map f) (take-none xs)

  pub so-far-next : (xs : List A) (k j : ℕ) (x : A) → k < length xs → x ≡ get_or xs k x → j ≡ suc k
      → filter_map f (take j xs) ≡ filter_map f (take k xs) ++ option_to_list (f x)
  so-far-next xs k j x there is next =
      let found : slice_get xs k ≡ Some x = slice_get_read xs (length xs) k x refl there is in
      ap (λ n. filter_map f (take n xs)) next ∙ ap (filter_map f) (take-next xs k x found) ∙ filter_map-push f (take k xs) x

  pub so-far-all : (xs : List A) (k : ℕ) → length xs ≤ k → filter_map f (take k xs) ≡ filter_map f xs
  so-far-all xs k whole = ap (filter_map f) (take-all k xs whole)

  longer : (o : Option B) (ys : List B) (n : ℕ) → length ys ≤ n → length (cons_option o ys) ≤ suc n
  longer None ys n h = omega (arith, h)
  longer (Some y) ys n h = omega (arith, h)

  few : (xs : List A) → length (filter_map f xs) ≤ length xs
  few [] = omega arith
  few (x ∷ xs) = longer (f x) (filter_map f xs) (length xs) (few xs)

  pub so-far-few : (xs : List A) (k : ℕ) → k ≤ length xs → length (filter_map f (take k xs)) ≤ k
  so-far-few xs k h = omega (arith, few (take k xs), length-take-le k xs h)

-- ---- whether some element passes

or_true : (b : Bool) → (b || true) ≡ true
or_true true = refl
or_true false = refl

module _ {A : Type 0} (f : A → Bool) where
  pub none-yet : (xs : List A) → list_any f (take 0 xs) ≡ false
  none-yet xs = ap (list_any f) (take-none xs)

  pub none-more : (xs : List A) (k j : ℕ) (x : A) → k < length xs → x ≡ get_or xs k x → j ≡ suc k → list_any f (take k xs) ≡ false → false ≡ f x
      → list_any f (take j xs) ≡ false
  none-more xs k j x there is next none here =
      let found : slice_get xs k ≡ Some x = slice_get_read xs (length xs) k x refl there is in
      ap (λ n. list_any f (take n xs)) next ∙ ap (list_any f) (take-next xs k x found) ∙ list_any-append f (take k xs) (x ∷ [])
      ∙ ap (λ b. b || (f x || false)) none ∙ ap (λ b. b || false) (sym here)

  pub none-at-all : (xs : List A) (k : ℕ) → length xs ≤ k → list_any f (take k xs) ≡ false → false ≡ list_any f xs
  none-at-all xs k whole none = sym none ∙ ap (list_any f) (take-all k xs whole)

  one-passes : (xs : List A) (k : ℕ) (x : A) → slice_get xs k ≡ Some x → f x ≡ true → list_any f xs ≡ true
  one-passes [] k x at here = cc
  one-passes (y ∷ xs) zero x at here =
      let same : y ≡ x = cc in
      ap (λ b. b || list_any f xs) (ap f same ∙ here)
  one-passes (y ∷ xs) (suc k) x at here = ap (λ b. f y || b) (one-passes xs k x at here) ∙ or_true (f y)

  pub one-more-passes : (xs : List A) (k : ℕ) (x : A) → k < length xs → x ≡ get_or xs k x → true ≡ f x → true ≡ list_any f xs
  one-more-passes xs k x there is here = sym (one-passes xs k x (slice_get_read xs (length xs) k x refl there is) (sym here))
