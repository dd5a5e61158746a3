-- Items in turn: the first that is refused.
use Rattle.std.proofs.Common.{◌≡◌, ℕ, zero, suc, ◌+◌, ◌<◌, false, List, [], ◌∷◌, ◌++◌, length, drop, reverse, get_or, Result, Ok, Err, refl, sym, ◌∙◌, ap, subst, inl, inr, arith}
use Rattle.std.proofs.lemmas.List.{reverse-append}
use Rattle.zt_rows.specs.declared.refusals.Refusal.{Refusal}
use Rattle.zt_history.specs.HistoryRefusals.{IsHistoryRefusal}
use Rattle.zt_book.specs.Log.{IsUnloadedBy}
use Rattle.zt_book.specs.SavedSessions.{◌>>=◌, at_item, in_turn}
use Rattle.zt_book.specs.ProofsOnly.Log.{fault_at}
use Rattle.zt_book.proofs.LoadLaws.{refused-either, fault-either, unloaded-memory, front}

-- an item that is refused, at its number
pub turn-refused : {A B : Type 0} (r : Result A Refusal) (number : ℕ) (given : Refusal) (rest : A → Result B (ℕ × Refusal))
    → IsHistoryRefusal r given → IsUnloadedBy false (at_item number r >>= rest) (fault_at number given)
turn-refused (Ok x) number given rest h =
    subst (λ g. IsUnloadedBy false (rest x) (fault_at number g)) (sym h) (unloaded-memory (rest x))
turn-refused {A = A} (Err reason) number given rest h =
    elim (refused-either A reason given h) [
      | inl same ↦ elim (fault-either number given) [
        | inl told ↦ inl (told ∙ ap (λ g. let p : ℕ × Refusal = (number, g) in p) same)
        | inr memory ↦ inr memory
      ]
      | inr memory ↦ inr (ap (fault_at number) memory)
    ]

module _ {W I : Type 0} (add : W → I → Result W Refusal) (items : List I) (all : Result W (ℕ × Refusal)) (number : ℕ) where
  turn-here : (i : ℕ) (w : W) (x : I) → i < length items → x ≡ get_or items i x → in_turn add (number + i) w (drop i items) ≡ all
      → in_turn add (number + i) w (x ∷ drop (suc i) items) ≡ all
  turn-here i w x there is so_far = sym (ap (in_turn add (number + i) w) (front items i x there is)) ∙ so_far

  -- the first that is refused
  pub turn-refused-so-far : (i : ℕ) (w : W) (x : I) (given : Refusal) → i < length items → x ≡ get_or items i x → IsHistoryRefusal (add w x) given
      → in_turn add (number + i) w (drop i items) ≡ all → IsUnloadedBy false all (fault_at (number + i) given)
  turn-refused-so-far i w x given there is refused so_far =
      subst (λ q. IsUnloadedBy false q (fault_at (number + i) given)) (turn-here i w x there is so_far)
      (turn-refused (add w x) (number + i) given (λ more. in_turn add (suc (number + i)) more (drop (suc i) items)) refused)

-- ---- items that are taken from the end of a list that has them backwards

drop-next : {I : Type 0} (n : ℕ) (items : List I) → drop 1 (drop n items) ≡ drop (suc n) items
drop-next zero items = refl
drop-next (suc n) [] = refl
drop-next (suc n) (x ∷ items) = drop-next n items

module _ {W I : Type 0} (add : W → I → Result W Refusal) (items left others : List I) (x : I) (i : ℕ) (taken : left ≡ others ++ x ∷ []) (backwards : reverse left ≡ drop i items) where
  last-first : drop i items ≡ x ∷ reverse others
  last-first = sym backwards ∙ ap reverse taken ∙ reverse-append others (x ∷ [])

  next : i + 1 ≡ suc i
  next = omega arith

  pub others-left : (kept : List I) → kept ≡ others → reverse kept ≡ drop (i + 1) items
  others-left kept same = ap reverse same ∙ sym (ap (drop 1) last-first) ∙ drop-next i items ∙ ap (λ n. drop n items) (sym next)

  pub turn-last : (number : ℕ) (w more : W) (all : Result W (ℕ × Refusal)) → add w x ≡ Ok more → in_turn add (number + i) w (drop i items) ≡ all
      → in_turn add (number + (i + 1)) more (drop (i + 1) items) ≡ all
  turn-last number w more all made so_far =
      let after : number + (i + 1) ≡ suc (number + i) = omega arith in
      let rest : drop (i + 1) items ≡ reverse others = sym (others-left others refl) in
      (λ j. in_turn add (after j) more (rest j))
      ∙ sym (ap (λ r. at_item (number + i) r >>= λ t. in_turn add (suc (number + i)) t (reverse others)) made)
      ∙ sym (ap (in_turn add (number + i) w) last-first)
      ∙ so_far
