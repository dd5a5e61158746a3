-- Moments and branches as they are written down: those so far, and the next one.
use Rattle.std.proofs.Common.{◌≡◌, ℕ, zero, suc, ◌+◌, ◌<◌, List, [], ◌∷◌, ◌++◌, length, map, take, refl, ap, arith, add-one}
use Rattle.std.specs.List.{filter_map}
use Rattle.zt_history.specs.Tree.{Made, Branch, head_at, name_at}
use Rattle.zt_book.specs.SavedSessions.{saved_branch, saved_call}
use Rattle.zt_book.specs.ProofsOnly.SavedSessions.{saved_at}

-- ---- moments

next-saved : (made : List Made) (i : ℕ) → map saved_call (take i made) ++ filter_map (saved_at made) (suc i ∷ []) ≡ map saved_call (take (suc i) made)
next-saved [] zero = refl
next-saved [] (suc i) = refl
next-saved (e ∷ es) zero = refl
next-saved (e ∷ es) (suc i) = ap (λ ys. saved_call e ∷ ys) (next-saved es i)

pub next_saved : (made : List Made) (i : ℕ) → map saved_call (take i made) ++ filter_map (saved_at made) ((i + 1) ∷ []) ≡ map saved_call (take (i + 1) made)
next_saved made i = rw add-one (next-saved made i)

-- ---- branches

next-branch : (bs : List Branch) (i : ℕ) → i < length bs
    → map saved_branch (take i bs) ++ record { name = name_at bs i; head = head_at bs i } ∷ [] ≡ map saved_branch (take (suc i) bs)
next-branch [] i h = absurd (omega arith)
next-branch (b ∷ bs) zero h = refl
next-branch (b ∷ bs) (suc i) h = ap (λ l. saved_branch b ∷ l) (next-branch bs i (omega arith))

pub next_branch : (bs : List Branch) (i : ℕ) → i < length bs
    → map saved_branch (take i bs) ++ record { name = name_at bs i; head = head_at bs i } ∷ [] ≡ map saved_branch (take (i + 1) bs)
next_branch bs i h = rw add-one (next-branch bs i h)
