-- Whose answer is that of a line.
use Rattle.std.proofs.Common.{◌≡◌, ℕ, zero, suc, ◌+◌, ◌<◌, ◌≤◌, true, false, List, [], ◌∷◌, length, drop, get_or, Option, Some, refl, sym, ◌∙◌, ap, arith}
use Rattle.std.specs.Prelude.{slice_get, if◌then◌else◌}
use Rattle.std.proofs.lemmas.Option.{slice_get_read}
use Rattle.zt_history.specs.Tree.{Made}
use Rattle.zt_import.specs.declared.schedule.AskedCall.{AskedCall}
use Rattle.zt_import.specs.Parts.{is_ok_at, answering}

drop_at : (xs : List AskedCall) (k : ℕ) (x : AskedCall) → slice_get xs k ≡ Some x → drop k xs ≡ x ∷ drop (suc k) xs
drop_at [] k x is = cc is
drop_at (y ∷ ys) zero x is = cc is
drop_at (y ∷ ys) (suc k) x is = drop_at ys k x is

-- those ahead of a call were ok, so that it is looked at
pub answering_at : (made : List Made) (xs : List AskedCall) (last : Option ℕ) (k : ℕ) (x : AskedCall) (given : Option ℕ) → k < length xs → x ≡ get_or xs k x
    → given ≡ answering made (drop k xs) last → given ≡ (if is_ok_at made x.moment then answering made (drop (suc k) xs) last else x.moment)
answering_at made xs last k x given low is so =
    so ∙ ap (λ ys. answering made ys last) (drop_at xs k x (slice_get_read xs (length xs) k x refl low is))

pub answering_next : (made : List Made) (xs : List AskedCall) (last : Option ℕ) (k : ℕ) (x : AskedCall) (given : Option ℕ) → k < length xs → x ≡ get_or xs k x
    → given ≡ answering made (drop k xs) last → true ≡ is_ok_at made x.moment → given ≡ answering made (drop (k + 1) xs) last
answering_next made xs last k x given low is so ok =
    let next : k + 1 ≡ suc k = omega arith in
    answering_at made xs last k x given low is so
    ∙ ap (λ b. if b then answering made (drop (suc k) xs) last else x.moment) (sym ok) ∙ ap (λ n. answering made (drop n xs) last) (sym next)

pub answering_here : (made : List Made) (xs : List AskedCall) (last : Option ℕ) (k : ℕ) (x : AskedCall) (given : Option ℕ) → k < length xs → x ≡ get_or xs k x
    → given ≡ answering made (drop k xs) last → false ≡ is_ok_at made x.moment → given ≡ x.moment
answering_here made xs last k x given low is so ok =
    answering_at made xs last k x given low is so
    ∙ ap (λ b. if b then answering made (drop (suc k) xs) last else x.moment) (sym ok)

none_left : (xs : List AskedCall) (k : ℕ) → length xs ≤ k → drop k xs ≡ []
none_left [] zero low = refl
none_left [] (suc k) low = refl
none_left (x ∷ xs) zero low = absurd (omega (arith, low))
none_left (x ∷ xs) (suc k) low = none_left xs k (omega (arith, low))

pub answering_last : (made : List Made) (xs : List AskedCall) (last : Option ℕ) (k : ℕ) (given : Option ℕ) → length xs ≤ k
    → given ≡ answering made (drop k xs) last → given ≡ last
answering_last made xs last k given whole so = so ∙ ap (λ ys. answering made ys last) (none_left xs k whole)
