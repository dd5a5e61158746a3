-- The handles of a message, name by name.
use Rattle.std.proofs.Common.{◌≡◌, ◌≤◌, ◌<◌, ℕ, ◌+◌, Bool, true, cond, List, length, take, get_or, nat_lt, ap, subst, arith, count_by}
use Rattle.std.specs.Prelude.{◌==◌}
use Rattle.std.specs.List.{All, list_all}
use Rattle.std.proofs.lemmas.Bool.{eq-eqb, lt-ltb, ltb-true}
use Rattle.std.proofs.lemmas.List.{take_all}
use Rattle.std.proofs.lemmas.List.Elements.{All-more}
use Rattle.std.proofs.lemmas.List.Sums.{sum_by_more_le, list_all-from_AllPass}
use Rattle.zt_rows.specs.declared.rows.Held.{Held}

-- each koid is below n
pub all_within : (n : ℕ) (handles : List Held) (i : ℕ) → length handles ≤ i → All (λ (held : Held). held.koid < n) (take i handles) → list_all (λ (held : Held). nat_lt held.koid n) handles ≡ true
all_within n handles i end h =
    let all : All (λ (held : Held). held.koid < n) handles = subst (λ hs. All (λ (held : Held). held.koid < n) hs) (take_all i handles end) h in
    list_all-from_AllPass _ handles (λ k d p. lt-ltb _ _ (all k d p))

-- one handle more is within, where what was within stays so
pub more_within : (m n : ℕ) (handles : List Held) (i : ℕ) (d : Held) → i < length handles → d ≡ get_or handles i d → m ≤ n → nat_lt d.koid n ≡ true
    → All (λ (held : Held). held.koid < m) (take i handles) → All (λ (held : Held). held.koid < n) (take (i + 1) handles)
more_within m n handles i d p at le here so_far =
    let all : All (λ (held : Held). held.koid < n) (take i handles) = λ k e lt. let old : (get_or (take i handles) k e).koid < m = so_far k e lt in omega arith in
    let next : (get_or handles i d).koid < n = subst (λ (h : Held). h.koid < n) at (ltb-true d.koid n here) in
    All-more (λ (held : Held). held.koid < n) handles i d p all next

-- the koid that the next handle names is named once more than by the handles before
pub named_next : (handles : List Held) (i x : ℕ) (d : Held) → i < length handles → (get_or handles i d).koid ≡ x → count_by (λ (held : Held). held.koid == x) (take i handles) + 1 ≤ count_by (λ (held : Held). held.koid == x) handles
named_next handles i x d p e =
    let le : count_by (λ (held : Held). held.koid == x) (take i handles) + cond ((get_or handles i d).koid == x) 1 0 ≤ count_by (λ (held : Held). held.koid == x) handles =
    sum_by_more_le (λ (held : Held). cond (held.koid == x) 1 0) handles i d p in
    let one : cond {A = ℕ} ((get_or handles i d).koid == x) 1 0 ≡ 1 = ap (λ (b : Bool). cond {A = ℕ} b 1 0) (eq-eqb (get_or handles i d).koid x e) in
    omega arith
