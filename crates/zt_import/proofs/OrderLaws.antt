-- Two calls that stand side by side change their places, where the second may stand ahead of the first.
use Rattle.std.proofs.Common.{◌≡◌, ℕ, zero, suc, ◌<◌, Bool, true, false, ◌&&◌, ◌||◌, List, [], ◌∷◌, ◌++◌, length, get_or, set, Some, refl, sym, ◌∙◌, ap, subst, arith}
use Rattle.std.specs.Prelude.{nat_lt, slice_get}
use Rattle.std.specs.List.{list_all, swap, All}
use Rattle.std.proofs.lemmas.Bool.{lt-ltb}
use Rattle.std.proofs.lemmas.List.Edits.{swap_is}
use Rattle.std.proofs.lemmas.List.Elements.{All-nil, All-head, All-tail, All-push, All-weaker, All-get_or}
use Rattle.std.proofs.lemmas.List.Sorted.{IsPermutation-refl, IsPermutation-swap, IsPermutation-trans, All-permutation}
use Rattle.zt_logs.specs.declared.logged.LoggedCall.{LoggedCall}
use Rattle.zt_import.specs.Orders.{IsOrder, is_in_order, may_precede, may_pass_any}
use Rattle.zt_import.specs.Trails.{below}

both : (a b : Bool) → a ≡ true → b ≡ true → (a && b) ≡ true
both true true p q = refl
both true false p q = cc
both false b p q = cc

first_of : (a b : Bool) → (a && b) ≡ true → a ≡ true
first_of true b h = refl
first_of false b h = cc

second_of : (a b : Bool) → (a && b) ≡ true → b ≡ true
second_of true b h = h
second_of false b h = cc

-- ---- side by side

module _ {X : Type 0} where
  abbrev pub exchanged : ℕ → List X → List X
  exchanged zero (y ∷ x ∷ xs) = x ∷ y ∷ xs
  exchanged zero xs = xs
  exchanged (suc k) [] = []
  exchanged (suc k) (y ∷ xs) = y ∷ exchanged k xs

  put_both : (xs : List X) (k : ℕ) (d : X) → suc k < length xs → set (set xs k (get_or xs (suc k) d)) (suc k) (get_or xs k d) ≡ exchanged k xs
  put_both [] k d h = absurd (omega (arith, h))
  put_both (y ∷ []) k d h = absurd (omega (arith, h))
  put_both (y ∷ x ∷ xs) zero d h = refl
  put_both (y ∷ x ∷ xs) (suc k) d h = ap (λ zs. y ∷ zs) (put_both (x ∷ xs) k d (omega (arith, h)))

  pub swap_exchanges : (xs : List X) (k : ℕ) → suc k < length xs → swap xs k (suc k) ≡ exchanged k xs
  swap_exchanges [] k h = absurd (omega (arith, h))
  swap_exchanges (d ∷ xs) k h =
      sym (swap_is (d ∷ xs) k (suc k) d (omega (arith, h)) h) ∙ put_both (d ∷ xs) k d h

all_exchanged : (p : ℕ → Bool) (k : ℕ) (xs : List ℕ) → list_all p xs ≡ true → list_all p (exchanged k xs) ≡ true
all_exchanged p zero [] h = h
all_exchanged p zero (y ∷ []) h = h
all_exchanged p zero (y ∷ x ∷ xs) h =
    let rest = second_of (p y) (p x && list_all p xs) h in
    both (p x) (p y && list_all p xs) (first_of (p x) (list_all p xs) rest)
    (both (p y) (list_all p xs) (first_of (p y) (p x && list_all p xs) h) (second_of (p x) (list_all p xs) rest))
all_exchanged p (suc k) [] h = h
all_exchanged p (suc k) (y ∷ xs) h =
    both (p y) (list_all p (exchanged k xs)) (first_of (p y) (list_all p xs) h) (all_exchanged p k xs (second_of (p y) (list_all p xs) h))

-- the calls are in order still
order_exchanged : (calls : List LoggedCall) (k : ℕ) (xs : List ℕ) (d : ℕ) → suc k < length xs
    → may_precede calls (get_or xs (suc k) d) (get_or xs k d) ≡ true → is_in_order calls xs ≡ true → is_in_order calls (exchanged k xs) ≡ true
order_exchanged calls k [] d there may h = absurd (omega (arith, there))
order_exchanged calls k (y ∷ []) d there may h = absurd (omega (arith, there))
order_exchanged calls zero (y ∷ x ∷ xs) d there may h =
    let ahead : list_all (may_precede calls y) (x ∷ xs) ≡ true =
    first_of (list_all (may_precede calls y) (x ∷ xs)) (is_in_order calls (x ∷ xs)) h in
    let rest : is_in_order calls (x ∷ xs) ≡ true =
    second_of (list_all (may_precede calls y) (x ∷ xs)) (is_in_order calls (x ∷ xs)) h in
    let far : list_all (may_precede calls y) xs ≡ true = second_of (may_precede calls y x) (list_all (may_precede calls y) xs) ahead in
    let behind : list_all (may_precede calls x) xs ≡ true = first_of (list_all (may_precede calls x) xs) (is_in_order calls xs) rest in
    let others : is_in_order calls xs ≡ true = second_of (list_all (may_precede calls x) xs) (is_in_order calls xs) rest in
    both (list_all (may_precede calls x) (y ∷ xs)) (is_in_order calls (y ∷ xs))
    (both (may_precede calls x y) (list_all (may_precede calls x) xs) may behind)
    (both (list_all (may_precede calls y) xs) (is_in_order calls xs) far others)
order_exchanged calls (suc k) (y ∷ x ∷ xs) d there may h =
    both (list_all (may_precede calls y) (exchanged k (x ∷ xs))) (is_in_order calls (exchanged k (x ∷ xs)))
    (all_exchanged (may_precede calls y) k (x ∷ xs) (first_of (list_all (may_precede calls y) (x ∷ xs)) (is_in_order calls (x ∷ xs)) h))
    (order_exchanged calls k (x ∷ xs) d (omega (arith, there)) may
    (second_of (list_all (may_precede calls y) (x ∷ xs)) (is_in_order calls (x ∷ xs)) h))

pub order_swapped : (calls : List LoggedCall) (xs ys : List ℕ) (k j one other : ℕ) → j ≡ suc k → j < length xs → one ≡ get_or xs j one → other ≡ get_or xs k other
    → true ≡ may_precede calls one other → ys ≡ swap xs k j → IsOrder calls xs → IsOrder calls ys
order_swapped calls xs ys k j one other next there is_one is_other may swapped so =
    let within : suc k < length xs = omega (arith, next, there) in
    let here : ys ≡ swap xs k (suc k) = swapped ∙ ap (λ n. swap xs k n) next in
    let P : List ℕ → Type 0 = λ zs. is_in_order calls zs ≡ true in
    let first : get_or xs (suc k) 0 ≡ one = got xs (suc k) one within (is_one ∙ ap (λ n. get_or xs n one) next) in
    let second : get_or xs k 0 ≡ other = got xs k other (omega (arith, within)) is_other in
    let may_so : may_precede calls (get_or xs (suc k) 0) (get_or xs k 0) ≡ true =
    ap (λ n. may_precede calls n (get_or xs k 0)) first ∙ ap (λ n. may_precede calls one n) second ∙ sym may in (
      IsPermutation-trans (below (length calls)) xs ys so.0 (IsPermutation-swap xs ys k (suc k) (omega (arith, within)) within here),
      subst P (sym (here ∙ swap_exchanges xs k within)) (order_exchanged calls k xs 0 within may_so so.1),
    )
  where
    got : (xs : List ℕ) (k x : ℕ) → k < length xs → x ≡ get_or xs k x → get_or xs k 0 ≡ x
    got [] k x h is = absurd (omega (arith, h))
    got (y ∷ xs) zero x h is = sym is
    got (y ∷ xs) (suc k) x h is = got xs k x (omega (arith, h)) is

-- ---- the order of the log

all_push : (p : ℕ → Bool) (xs : List ℕ) (x : ℕ) → list_all p xs ≡ true → p x ≡ true → list_all p (xs ++ x ∷ []) ≡ true
all_push p [] x h here = both (p x) true here refl
all_push p (y ∷ xs) x h here =
    both (p y) (list_all p (xs ++ x ∷ [])) (first_of (p y) (list_all p xs) h) (all_push p xs x (second_of (p y) (list_all p xs) h) here)

or_first : (a b : Bool) → a ≡ true → (a || b) ≡ true
or_first true b h = refl
or_first false b h = cc

order_push : (calls : List LoggedCall) (xs : List ℕ) (n : ℕ) → All (λ m. m < n) xs → is_in_order calls xs ≡ true → is_in_order calls (xs ++ n ∷ []) ≡ true
order_push calls [] n less h = refl
order_push calls (m ∷ xs) n less h =
    let ahead = first_of (list_all (may_precede calls m) xs) (is_in_order calls xs) h in
    let rest = second_of (list_all (may_precede calls m) xs) (is_in_order calls xs) h in
    let here : may_precede calls m n ≡ true =
    or_first (nat_lt m n) (may_pass_any (slice_get calls m) (slice_get calls n)) (lt-ltb m n (All-head (λ m. m < n) m xs less)) in
    both (list_all (may_precede calls m) (xs ++ n ∷ [])) (is_in_order calls (xs ++ n ∷ [])) (all_push (may_precede calls m) xs n ahead here)
    (order_push calls xs n (All-tail (λ m. m < n) m xs less) rest)

less_below : (n : ℕ) → All (λ m. m < n) (below n)
less_below zero = All-nil (λ m. m < zero)
less_below (suc n) =
    All-push (λ m. m < suc n) (below n) n (All-weaker (λ m. m < n) (λ m. m < suc n) (λ m h. omega (arith, h)) (below n) (less_below n)) (omega arith)

in_order_below : (calls : List LoggedCall) (n : ℕ) → is_in_order calls (below n) ≡ true
in_order_below calls zero = refl
in_order_below calls (suc n) = order_push calls (below n) n (less_below n) (in_order_below calls n)

pub order-first : (calls : List LoggedCall) (xs : List ℕ) (n : ℕ) → n ≡ length calls → xs ≡ below n → IsOrder calls xs
order-first calls xs n count is =
    subst (IsOrder calls) (sym (is ∙ ap below count)) (IsPermutation-refl (below (length calls)), in_order_below calls (length calls))

-- the call of a place is there, and is one of the log
pub order-at : (xs : List ℕ) (k : ℕ) → k < length xs → slice_get xs k ≡ Some (get_or xs k 0)
order-at [] k there = absurd (omega (arith, there))
order-at (x ∷ xs) zero there = refl
order-at (x ∷ xs) (suc k) there = order-at xs k (omega (arith, there))

pub order-within : (calls : List LoggedCall) (xs : List ℕ) (k : ℕ) → IsOrder calls xs → k < length xs → get_or xs k 0 < length calls
order-within calls xs k so there =
    let all : All (λ m. m < length calls) xs =
    All-permutation (λ m. m < length calls) (below (length calls)) xs so.0 (less_below (length calls)) in
    All-get_or (λ m. m < length calls) xs k 0 there all
