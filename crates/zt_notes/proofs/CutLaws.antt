-- The words of a text, by what stands before and behind the first separator.
use Rattle.std.proofs.Common.{◌≡◌, ℕ, ◌+◌, true, false, List, [], ◌∷◌, length, drop, refl, sym, arith, Option, Some, None}
use Rattle.std.specs.Prelude.{◌==◌, nat_lt}
use Rattle.std.specs.List.{position, position_or_len}
use Rattle.std.proofs.lemmas.List.{take_all}
use Rattle.std.proofs.lemmas.Bool.Decides.{nat_tests}
use Rattle.zt_text.specs.Fields.{parts_of}
use Rattle.zt_text.proofs.CutLemmas.{cut_none, cut_some}
use Rattle.zt_notes.specs.Cuts.{before, behind}

-- where the first separator stands, or the length
abbrev place : ℕ → List ℕ → ℕ
place c xs = position_or_len (λ byte. byte == c) xs

pub words_alone : (c : ℕ) (xs : List ℕ) → None ≡ behind c xs → parts_of c xs ≡ before c xs ∷ []
words_alone c xs h =
    elim (nat_lt (place c xs) (length xs)) as (λ b. nat_lt (place c xs) (length xs) ≡ b → parts_of c xs ≡ before c xs ∷ []) [
      | true ↦ λ e. let some : behind c xs ≡ Some (drop (place c xs + 1) xs) = rw e refl in cc
      | false ↦ λ e.
          let none : position (λ byte. byte == c) xs ≡ None = rw e refl in
          let whole : before c xs ≡ xs = take_all (place c xs) xs (grind (arith, nat_tests)) in
          rw whole (cut_none c xs (sym none))
    ] refl

pub words_more : (c : ℕ) (xs rest : List ℕ) → Some rest ≡ behind c xs → parts_of c xs ≡ before c xs ∷ parts_of c rest
words_more c xs rest h =
    elim (nat_lt (place c xs) (length xs)) as (λ b. nat_lt (place c xs) (length xs) ≡ b → parts_of c xs ≡ before c xs ∷ parts_of c rest) [
      | true ↦ λ e.
          let at : position (λ byte. byte == c) xs ≡ Some (place c xs) = rw e refl in
          let some : behind c xs ≡ Some (drop (place c xs + 1) xs) = rw e refl in
          let same : rest ≡ drop (place c xs + 1) xs = cc in
          rw same (cut_some c xs (place c xs) (grind (arith, nat_tests)) (sym at))
      | false ↦ λ e. let none : behind c xs ≡ None = rw e refl in cc
    ] refl

-- there is a first word
pub words_first : (c : ℕ) (xs : List ℕ) → (rest : List (List ℕ)) × (parts_of c xs ≡ before c xs ∷ rest)
words_first c xs = by (behind c xs) refl
  where
    by : (left : Option (List ℕ)) → behind c xs ≡ left → (rest : List (List ℕ)) × (parts_of c xs ≡ before c xs ∷ rest)
    by None is = ([], words_alone c xs (sym is))
    by (Some left) is = (parts_of c left, words_more c xs left (sym is))
