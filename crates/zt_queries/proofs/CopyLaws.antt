-- The calls of a path, copied so far.
use Rattle.std.proofs.Common.{◌≡◌, ◌<◌, ℕ, ◌+◌, List, [], ◌∷◌, ◌++◌, length, get_or, take, Option, sym, ◌∙◌, ap}
use Rattle.std.specs.List.{filter_map}
use Rattle.std.proofs.lemmas.List.{take_more}
use Rattle.std.proofs.lemmas.List.Elements.{filter_map-append}

pub given_more : {A B : Type 0} (f : A → Option B) (xs : List A) (i : ℕ) (x : A) (ys zs : List B) → i < length xs → x ≡ get_or xs i x
    → ys ≡ filter_map f (take i xs) → zs ≡ ys ++ filter_map f (x ∷ []) → zs ≡ filter_map f (take (i + 1) xs)
given_more f xs i x ys zs below at so_far more =
    more
    ∙ ap (λ l. l ++ filter_map f (x ∷ [])) so_far
    ∙ sym (filter_map-append f (take i xs) (x ∷ []))
    ∙ ap (λ l. filter_map f (take i xs ++ l ∷ [])) at
    ∙ ap (filter_map f) (sym (take_more xs i x below))
