-- One difference more is counted, and told where fewer than a hundred are.
use Rattle.std.proofs.Common.{◌≡◌, ℕ, suc, zero, ◌+◌, ◌-◌, ◌^◌, ◌≤◌, ◌<◌, Bool, true, List, [], ◌∷◌, ◌++◌, length, take, refl, sym, ◌∙◌, ap, subst, inl, inr, arith, length-append}
use Rattle.std.proofs.lemmas.List.{append-nil, take-append-le, length-take-le}
use Rattle.std.proofs.lemmas.Bool.{lt-ltb, le-ltb, cases_lt}
use Rattle.std.specs.Prelude.{nat_lt, count_by, cond, if◌then◌else◌}
use Rattle.std.proofs.lemmas.List.Sums.{count_by-le-length, sum_by_push}
use Rattle.zt_import.specs.declared.trail.Difference.{Difference}
use Rattle.zt_import.specs.ProofsOnly.TakenCalls.{ComparedView, IsComparedAs}

module _ {A : Type 0} where
  pub take-all : (n : ℕ) (xs : List A) → length xs ≤ n → take n xs ≡ xs
  take-all zero [] h = refl
  take-all zero (x ∷ xs) h = absurd (omega (arith, h))
  take-all (suc n) [] h = refl
  take-all (suc n) (x ∷ xs) h = ap (λ ys. x ∷ ys) (take-all n xs (omega (arith, h)))

  -- one more behind so many at most
  abbrev pub pushed : ℕ → List A → A → List A
  pushed n xs x = if nat_lt (length xs) n then xs ++ x ∷ [] else xs

  pub take-push : (n : ℕ) (xs : List A) (x : A) → pushed n (take n xs) x ≡ take n (xs ++ x ∷ [])
  take-push n xs x =
      elim (cases_lt (length xs) n) [
        | inl h ↦
            let here : pushed n xs x ≡ xs ++ x ∷ [] = rw (lt-ltb (length xs) n h) refl in
            ap (λ ys. pushed n ys x) (take-all n xs (omega (arith, h))) ∙ here
            ∙ sym (take-all n (xs ++ x ∷ []) (omega (arith, h, length-append xs (x ∷ []))))
        | inr h ↦
            rw (le-ltb (length (take n xs)) n (omega (arith, length-take-le n xs h))) (sym (take-append-le n xs (x ∷ []) h))
      ]

pub count_by-push : {A : Type 0} (p : A → Bool) (xs : List A) (x : A) → count_by p (xs ++ x ∷ []) ≡ count_by p xs + cond (p x) 1 0
count_by-push p xs x = sum_by_push (λ y. cond (p y) 1 0) xs x

pub compared-push : (differences : List Difference) (difference : Difference) (old new : ComparedView) → suc (length differences) < 2 ^ 64
    → new.told ≡ pushed 100 old.told difference → (old.count < 2 ^ 64 - 1 → new.count ≡ old.count + cond true 1 0)
    → (old.by_schedule < 2 ^ 64 - 1 → new.by_schedule ≡ old.by_schedule + cond difference.by_schedule 1 0)
    → IsComparedAs differences old → IsComparedAs (differences ++ difference ∷ []) new
compared-push differences difference old new small told count by so =
    let few = count_by-le-length (λ (d : Difference). d.by_schedule) differences in
    record {
      told = told ∙ ap (λ ds. pushed 100 ds difference) so.told ∙ take-push 100 differences difference;
      count = omega (arith, count (omega (arith, small, so.count)), so.count, length-append differences (difference ∷ []));
      by_schedule =
          by (omega (arith, small, so.by_schedule, few))
          ∙ ap (λ n. n + cond difference.by_schedule 1 0) so.by_schedule
          ∙ sym (count_by-push (λ (d : Difference). d.by_schedule) differences difference);
    }

pub compared-none : (differences : List Difference) (view : ComparedView) → IsComparedAs differences view → IsComparedAs (differences ++ []) view
compared-none differences view so =
    let P : List Difference → Type 0 = λ ds. IsComparedAs ds view in subst P (sym (append-nil differences)) so
