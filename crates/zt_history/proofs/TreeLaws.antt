-- Branches of a tree: a head that moves, one branch more, and what taking either back leaves.
use Rattle.std.proofs.Common.{◌≡◌, ℕ, zero, suc, ◌+◌, ◌-◌, ◌≤◌, ◌<◌, Bool, true, false, not, cond, List, [], ◌∷◌, ◌++◌, length, take, position, Some, None, refl, sym, ◌∙◌, ap, subst, arith, length-append}
use Rattle.std.specs.Prelude.{slice_get, nat_lt}
use Rattle.std.specs.List.{AllByRecursion, IsDistinct, list_any, position_or_len}
use Rattle.std.specs.Cmp.Lexicographic.{nat_list_eq_equiv}
use Rattle.std.specs.Str.{bytes_eq}
use Rattle.std.proofs.lemmas.Bool.{ltb-false}
use Rattle.std.proofs.lemmas.List.{map-append}
use Rattle.std.proofs.lemmas.Map.Keys.{IsDistinct-push}
use Rattle.std.proofs.lemmas.Option.{none-some, slice_get_within}
use Rattle.std.proofs.Math.Seq.{take-append_seam}
use Rattle.zt_history.specs.Tree.{Branch, branch_named, head_at, headed}
use Rattle.zt_history.specs.ProofsOnly.Branches.{without_last}
use Rattle.zt_history.specs.TreeInvariant.{AreBranches, names_of}
use Rattle.zt_history.proofs.BranchLaws.{position-map}
use Rattle.zt_history.proofs.ListLaws.{get-left, length-mapped}

-- ---- the last of a list

pub without_last-push : {A : Type 0} (xs : List A) (x : A) → without_last (xs ++ x ∷ []) ≡ xs
without_last-push xs x =
    let n : length (xs ++ x ∷ []) - 1 ≡ length xs = omega (arith, length-append xs (x ∷ [])) in
    ap (λ n. take n (xs ++ x ∷ [])) n ∙ take-append_seam xs (x ∷ [])

pub last_apart : {A : Type 0} (xs : List A) → 0 < length xs → (x : A) × (xs ≡ without_last xs ++ x ∷ [])
last_apart xs some = by xs some
  where
    ends : {A : Type 0} (x : A) (xs : List A) → (front : List A) × (y : A) × (x ∷ xs ≡ front ++ y ∷ [])
    ends x [] = ([], x, refl)
    ends x (y ∷ ys) = let rest = ends y ys in (x ∷ rest.0, rest.1, ap (λ zs. x ∷ zs) rest.2)

    by : {A : Type 0} (xs : List A) → 0 < length xs → (x : A) × (xs ≡ without_last xs ++ x ∷ [])
    by [] h = absurd (omega (arith, h))
    by (x ∷ xs) h =
        let e = ends x xs in
        (e.1, e.2 ∙ ap (λ front. front ++ e.1 ∷ []) (sym (ap without_last e.2 ∙ without_last-push e.0 e.1)))

-- ---- a head that moves

pub names-headed : (bs : List Branch) (i m : ℕ) → names_of (headed bs i m) ≡ names_of bs
names-headed [] i m = refl
names-headed (b ∷ bs) zero m = refl
names-headed (b ∷ bs) (suc i) m = ap (λ ns. b.name ∷ ns) (names-headed bs i m)

pub length-headed : (bs : List Branch) (i m : ℕ) → length (headed bs i m) ≡ length bs
length-headed [] i m = refl
length-headed (b ∷ bs) zero m = refl
length-headed (b ∷ bs) (suc i) m = ap suc (length-headed bs i m)

-- moved back, it is where it was
pub headed-back : (bs : List Branch) (i m : ℕ) → headed (headed bs i m) i (head_at bs i) ≡ bs
headed-back [] i m = refl
headed-back (b ∷ bs) zero m = refl
headed-back (b ∷ bs) (suc i) m = ap (λ bs. b ∷ bs) (headed-back bs i m)

abbrev Heads : ℕ → List Branch → Type 0
Heads n bs = AllByRecursion (λ b. b.head ≤ n) bs

heads-more : (n k : ℕ) → n ≤ k → (bs : List Branch) → Heads n bs → Heads k bs
heads-more n k h [] all = tt
heads-more n k h (b ∷ bs) all = (omega (arith, all.0, h), heads-more n k h bs all.1)

heads-headed : (n m : ℕ) → m ≤ n → (bs : List Branch) (i : ℕ) → Heads n bs → Heads n (headed bs i m)
heads-headed n m h [] i all = tt
heads-headed n m h (b ∷ bs) zero all = (h, all.1)
heads-headed n m h (b ∷ bs) (suc i) all = (all.0, heads-headed n m h bs i all.1)

heads-push : (n : ℕ) (bs : List Branch) (b : Branch) → Heads n bs → b.head ≤ n → Heads n (bs ++ b ∷ [])
heads-push n [] b all h = (h, tt)
heads-push n (c ∷ bs) b all h = (all.0, heads-push n bs b all.1 h)

pub head-within : (n : ℕ) (bs : List Branch) → Heads n bs → (i : ℕ) → head_at bs i ≤ n
head-within n [] all i = omega arith
head-within n (b ∷ bs) all zero = all.0
head-within n (b ∷ bs) all (suc i) = head-within n bs all.1 i

-- there are more moments
pub branches-more : (n k : ℕ) (bs : List Branch) → n ≤ k → AreBranches n bs → AreBranches k bs
branches-more n k bs more are = record { main = are.main; names = are.names; heads = heads-more n k more bs are.heads }

pub branches-headed : (n k m : ℕ) (bs : List Branch) (i : ℕ) → n ≤ k → m ≤ k → AreBranches n bs → AreBranches k (headed bs i m)
branches-headed n k m bs i more there are = record {
  main = ap (λ ns. slice_get ns 0) (names-headed bs i m) ∙ are.main;
  names = subst (IsDistinct bytes_eq) (sym (names-headed bs i m)) are.names;
  heads = heads-headed k m there bs i (heads-more n k more bs are.heads);
}

-- ---- one branch more

none_passes : {A : Type 0} (test : A → Bool) (xs : List A) → length xs ≤ position_or_len test xs → list_any test xs ≡ false
none_passes test [] h = refl
none_passes test (x ∷ xs) h = by (none_passes test xs) (test x) refl
  where
    by : (length xs ≤ position_or_len test xs → list_any test xs ≡ false) → (b : Bool) → test x ≡ b → list_any test (x ∷ xs) ≡ false
    by rest true e = absurd (omega (arith, h, ap (λ b. cond (not b) (1 + position_or_len test xs) 0) e))
    by rest false e = rw e (rest (omega (arith, h, ap (λ b. cond (not b) (1 + position_or_len test xs) 0) e)))

no_place : {A : Type 0} (test : A → Bool) (xs : List A) → position test xs ≡ None → list_any test xs ≡ false
no_place test xs h = by (nat_lt (position_or_len test xs) (length xs)) refl
  where
    by : (b : Bool) → nat_lt (position_or_len test xs) (length xs) ≡ b → list_any test xs ≡ false
    by true e = absurd (none-some (position_or_len test xs) (sym h ∙ ap (λ b. cond b (Some (position_or_len test xs)) None) e))
    by false e = none_passes test xs (ltb-false (position_or_len test xs) (length xs) e)

pub branches-push : (n : ℕ) (bs : List Branch) (b : Branch) → AreBranches n bs → branch_named bs b.name ≡ None → b.head ≤ n → AreBranches n (bs ++ b ∷ [])
branches-push n bs b are free there =
    let names : names_of (bs ++ b ∷ []) ≡ names_of bs ++ b.name ∷ [] = map-append (λ (b : Branch). b.name) bs (b ∷ []) in
    record {
      main = ap (λ ns. slice_get ns 0) names ∙ get-left (names_of bs) (b.name ∷ []) 0 (some are.main) ∙ are.main;
      names =
          subst (IsDistinct bytes_eq) (sym names)
          (IsDistinct-push nat_list_eq_equiv (names_of bs) b.name are.names (no_place (bytes_eq b.name) (names_of bs) (position-map (bytes_eq b.name) (λ (b : Branch). b.name) bs ∙ free)));
      heads = heads-push n bs b are.heads there;
    }
  where
    some : {name : List ℕ} → slice_get (names_of bs) 0 ≡ Some name → 0 < length (names_of bs)
    some h = slice_get_within (names_of bs) 0 _ h

-- there is at least one
pub some-branch : (n : ℕ) (bs : List Branch) → AreBranches n bs → 0 < length bs
some-branch n bs are = omega (arith, slice_get_within (names_of bs) 0 _ are.main, length-mapped (λ (b : Branch). b.name) bs)
