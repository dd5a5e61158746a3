-- What chains of keys lead to: the last key of a bucket, the one before it, and from a key's bucket to the key.
use Rattle.std.proofs.Common.{◌≡◌, ℕ, ◌+◌, ◌-◌, ◌<◌, ◌≤◌, zero, suc, inl, inr, Bool, true, false, ◌||◌, ◌⊎◌, List, [], ◌∷◌, ◌++◌, take, get_or, set, length, replicate, Some, refl, sym, ap, ◌∙◌, subst, arith}
use Rattle.std.specs.Prelude.{◌==◌, if◌then◌else◌, slice_get}
use Rattle.std.proofs.lemmas.Bool.{cases_lt, eq-eqb, eqb-true}
use Rattle.std.specs.Global.{Vec}
use Rattle.std.specs.Vec.{with_items}
use Rattle.std.proofs.lemmas.List.{with_items_is, length-append, length-set, length-take-le, get_or-set_same, get_or-set_other, get_or-replicate, take_all, take_more, take-append-le, take-take}
use Rattle.std.proofs.lemmas.List.Folds.{list_any-append}
use Rattle.std.proofs.lemmas.Option.{get_or_from_slice_get, slice_get-get_or, slice_get_within}
use Rattle.zt_rows.specs.declared.keys.RowKey.{RowKey}
use Rattle.zt_rows.specs.Keys.{rowkey_eq}
use Rattle.zt_rows.specs.ProofsOnly.KeyOrder.{rowkey_eq-equal, rowkey_eq-laws}
use Rattle.zt_store.specs.StepView.{listed}
use Rattle.zt_store.specs.ProofsOnly.TouchedIndex.{AreChained, IsChainedTo, bucket_of, last_in, link_of, mixed_of, number_behind}
use Rattle.zt_store.specs.declared.touched_index.KeyLink.{KeyLink}

pub neither : (a b : Bool) → a ≡ false → b ≡ false → (a || b) ≡ false
neither a b p q = λ i. p i || q i

pub alone : (a b : Bool) → a ≡ false → b ≡ false → (a || (b || false)) ≡ false
alone a b p q = λ i. p i || (q i || false)

-- with a key behind that is not the one, it is there as before
one_apart : (a b : Bool) → b ≡ false → (a || (b || false)) ≡ a
one_apart true b p = refl
one_apart false b p = λ i. p i || false

-- ---- the last key in a bucket

number_behind-le : (here : Bool) (m n : ℕ) → m ≤ n → number_behind here m ≤ suc n
number_behind-le true zero n le = omega arith
number_behind-le false zero n le = omega arith
number_behind-le here (suc m) n le = omega arith

last_in-le : (n b : ℕ) (ks : List RowKey) → last_in n b ks ≤ length ks
unfolding last_in
last_in-le n b [] = omega arith
last_in-le n b (k ∷ ks) = number_behind-le (bucket_of n k == b) (last_in n b ks) (length ks) (last_in-le n b ks)

pub last_in-nil : (n b : ℕ) → last_in n b [] ≡ 0
unfolding last_in
last_in-nil n b = refl

behind-push : (first here : Bool) (l m : ℕ) → number_behind first (if here then suc l else m) ≡ (if here then suc (suc l) else number_behind first m)
behind-push first true l m = refl
behind-push first false l m = refl

one-push : (here : Bool) → number_behind here 0 ≡ (if here then 1 else 0)
one-push here = refl

last_in-push : (n b : ℕ) (k : RowKey) (ks : List RowKey) → last_in n b (ks ++ k ∷ []) ≡ (if bucket_of n k == b then suc (length ks) else last_in n b ks)
unfolding last_in
last_in-push n b k [] = one-push (bucket_of n k == b)
last_in-push n b k (x ∷ ks) =
    ap (number_behind (bucket_of n x == b)) (last_in-push n b k ks) ∙ behind-push (bucket_of n x == b) (bucket_of n k == b) (length ks) (last_in n b ks)

-- the keys up to the last one in the bucket have the same last one
ends_there-at : (n b : ℕ) (k : RowKey) (ks : List RowKey) (here : Bool) (m : ℕ) → (bucket_of n k == b) ≡ here → last_in n b (take m ks) ≡ m → last_in n b (take (number_behind here m) (k ∷ ks)) ≡ number_behind here m
unfolding last_in
ends_there-at n b k ks true zero at same = ap (λ h. number_behind h 0) at
ends_there-at n b k ks false zero at same = refl
ends_there-at n b k ks here (suc m) at same = ap (number_behind (bucket_of n k == b)) same

ends_there : (n b : ℕ) (ks : List RowKey) → last_in n b (take (last_in n b ks) ks) ≡ last_in n b ks
unfolding last_in
ends_there n b [] = refl
ends_there n b (k ∷ ks) = ends_there-at n b k ks (bucket_of n k == b) (last_in n b ks) refl (ends_there n b ks)

-- a key of another bucket is another key
other_bucket : (n b : ℕ) (q k : RowKey) → (bucket_of n k == b) ≡ false → bucket_of n q ≡ b → rowkey_eq q k ≡ false
other_bucket n b q k away mine =
    elim (rowkey_eq q k) as (λ t. rowkey_eq q k ≡ t → t ≡ false) [
      | true ↦ λ e. sym (eq-eqb (bucket_of n k) b (ap (bucket_of n) (sym (rowkey_eq-equal q k e)) ∙ mine)) ∙ away
      | false ↦ λ e. refl
    ] refl

-- a key is in the list if it is among those up to the last one of its bucket
among_first-at : (n b : ℕ) (q k : RowKey) (ks : List RowKey) (here : Bool) (m : ℕ) → (bucket_of n k == b) ≡ here → bucket_of n q ≡ b → listed ks q ≡ listed (take m ks) q
    → listed (k ∷ ks) q ≡ listed (take (number_behind here m) (k ∷ ks)) q
among_first-at n b q k ks true zero at mine rest = ap (λ t. rowkey_eq q k || t) rest
among_first-at n b q k ks false zero at mine rest = neither (rowkey_eq q k) (listed ks q) (other_bucket n b q k at mine) rest
among_first-at n b q k ks here (suc m) at mine rest = ap (λ t. rowkey_eq q k || t) rest

among_first : (n b : ℕ) (q : RowKey) (ks : List RowKey) → bucket_of n q ≡ b → listed ks q ≡ listed (take (last_in n b ks) ks) q
unfolding last_in
among_first n b q [] mine = refl
among_first n b q (k ∷ ks) mine = among_first-at n b q k ks (bucket_of n k == b) (last_in n b ks) refl mine (among_first n b q ks mine)

-- ---- one more key

take-next : (ks : List RowKey) (m : ℕ) (k : RowKey) → slice_get ks m ≡ Some k → take (m + 1) ks ≡ take m ks ++ k ∷ []
take-next ks m k at =
    take_more ks m k (slice_get_within ks m k at) ∙ ap (λ x. take m ks ++ x ∷ []) (get_or_from_slice_get ks m k k at)

same_key : (ks : List RowKey) (m i : ℕ) (k q : RowKey) → slice_get ks m ≡ Some k → slice_get ks i ≡ Some q → i ≡ m → k ≡ q
same_key ks m i k q at there same =
    let e : Some k ≡ Some q = sym at ∙ ap (slice_get ks) (sym same) ∙ there in
    cc

set_there : {A : Type 0} (xs : List A) (i : ℕ) (x : A) → i < length xs → slice_get (set xs i x) i ≡ Some x
set_there [] i x within = absurd (omega (arith, within))
set_there (y ∷ xs) zero x within = refl
set_there (y ∷ xs) (suc i) x within = set_there xs i x (omega (arith, within))

set_apart : {A : Type 0} (xs : List A) (i j : ℕ) (x : A) → (j ≡ i → ⊥) → slice_get (set xs i x) j ≡ slice_get xs j
set_apart [] i j x apart = refl
set_apart (y ∷ xs) zero zero x apart = absurd (apart refl)
set_apart (y ∷ xs) zero (suc j) x apart = refl
set_apart (y ∷ xs) (suc i) zero x apart = refl
set_apart (y ∷ xs) (suc i) (suc j) x apart = set_apart xs i j x (λ same. apart (ap suc same))

module _ (n : ℕ) (last : List ℕ) (links : List KeyLink) (ks : List RowKey) (m : ℕ) (k : RowKey) (at : slice_get ks m ≡ Some k) (is : IsChainedTo n last links ks m) (size : length last ≡ n) (below : bucket_of n k < n) (room : m < length links) where
  next_number : (b : ℕ) → last_in n b (take (m + 1) ks) ≡ (if bucket_of n k == b then suc m else last_in n b (take m ks))
  next_number b =
      ap (last_in n b) (take-next ks m k at) ∙ last_in-push n b k (take m ks)
      ∙ ap (λ l. if bucket_of n k == b then suc l else last_in n b (take m ks)) (length-take-le m ks (omega (arith, slice_get_within ks m k at)))

  ends-same : (b : ℕ) → bucket_of n k ≡ b → get_or (set last (bucket_of n k) (m + 1)) b 0 ≡ last_in n b (take (m + 1) ks)
  ends-same b e =
      let value : get_or (set last (bucket_of n k) (m + 1)) (bucket_of n k) 0 ≡ m + 1 = get_or-set_same last (bucket_of n k) (m + 1) 0 (omega (arith, below, size)) in
      let number : m + 1 ≡ suc m = omega arith in
      ap (λ j. get_or (set last (bucket_of n k) (m + 1)) j 0) (sym e) ∙ value ∙ number
      ∙ sym (next_number b ∙ ap (λ t. if t then suc m else last_in n b (take m ks)) (eq-eqb (bucket_of n k) b e))

  ends-other : (b : ℕ) → b < n → (bucket_of n k == b) ≡ false → (b ≡ bucket_of n k → ⊥) → get_or (set last (bucket_of n k) (m + 1)) b 0 ≡ last_in n b (take (m + 1) ks)
  ends-other b within e apart =
      get_or-set_other last (bucket_of n k) b (m + 1) 0 apart ∙ is.ends b within ∙ sym (next_number b ∙ ap (λ t. if t then suc m else last_in n b (take m ks)) e)

  ends-next : (b : ℕ) → b < n → get_or (set last (bucket_of n k) (m + 1)) b 0 ≡ last_in n b (take (m + 1) ks)
  ends-next b within =
      elim (bucket_of n k == b) as (λ t. (bucket_of n k == b) ≡ t → get_or (set last (bucket_of n k) (m + 1)) b 0 ≡ last_in n b (take (m + 1) ks)) [
        | true ↦ λ e. ends-same b (eqb-true (bucket_of n k) b e)
        | false ↦ λ e. ends-other b within e (λ same. let no : true ≡ false = sym (eq-eqb (bucket_of n k) b (sym same)) ∙ e in cc)
      ] refl

  links-next : (i : ℕ) (q : RowKey) → i < m + 1 → slice_get ks i ≡ Some q → slice_get (set links m (record { mixed = mixed_of k; before = get_or last (bucket_of n k) 0 })) i ≡ Some (link_of n ks i q)
  links-next i q within there = cases (cases_lt i m)
    where
      cases : (i < m) ⊎ (m ≤ i) → slice_get (set links m (record { mixed = mixed_of k; before = get_or last (bucket_of n k) 0 })) i ≡ Some (link_of n ks i q)
      cases (inl less) = set_apart links m i (record { mixed = mixed_of k; before = get_or last (bucket_of n k) 0 }) (λ same. omega arith) ∙ is.linked i q less there
      cases (inr more) =
          let same : i ≡ m = omega arith in
          let mine : k ≡ q = same_key ks m i k q at there same in
          ap (slice_get (set links m (record { mixed = mixed_of k; before = get_or last (bucket_of n k) 0 }))) same
          ∙ set_there links m (record { mixed = mixed_of k; before = get_or last (bucket_of n k) 0 }) room
          ∙ ap (λ (l : ℕ). Some (record { mixed = mixed_of k; before = l })) (is.ends (bucket_of n k) below) ∙ (λ j. Some (link_of n ks (sym same j) (mine j)))

  chained-next : IsChainedTo n (set last (bucket_of n k) (m + 1)) (set links m (record { mixed = mixed_of k; before = get_or last (bucket_of n k) 0 })) ks (m + 1)
  chained-next = record { ends = ends-next; linked = links-next }

pub chained-more : (last : List ℕ) (links : List KeyLink) (ks : List RowKey) (m b h : ℕ) (k : RowKey) → h ≡ mixed_of k → b ≡ bucket_of (length last) k → b < length last → m < length links → slice_get ks m ≡ Some k
    → IsChainedTo (length last) last links ks m → IsChainedTo (length (set last b (m + 1))) (set last b (m + 1)) (set links m (record { mixed = h; before = get_or last b 0 })) ks (m + 1)
chained-more last links ks m b h k mixed mine below room at is =
    let n : ℕ = length last in
    subst (λ l. IsChainedTo l (set last b (m + 1)) (set links m (record { mixed = h; before = get_or last b 0 })) ks (m + 1)) (sym (length-set last b (m + 1)))
    (subst (λ x. IsChainedTo n (set last x (m + 1)) (set links m (record { mixed = h; before = get_or last x 0 })) ks (m + 1)) (sym mine)
    (subst (λ x. IsChainedTo n (set last (bucket_of n k) (m + 1)) (set links m (record { mixed = x; before = get_or last (bucket_of n k) 0 })) ks (m + 1)) (sym mixed)
    (chained-next n last links ks m k at is refl (omega (arith, mine, below)) room)))

-- ---- no key yet, and one behind the list

pub chained-none : (n : ℕ) (last : List ℕ) (links : List KeyLink) (ks : List RowKey) → last ≡ replicate n 0 → IsChainedTo n last links ks 0
chained-none n last links ks bare = record {
  ends = λ b within. ap (λ l. get_or l b 0) bare ∙ get_or-replicate n b 0 0 within ∙ sym (last_in-nil n b);
  linked = λ i k within there. absurd (omega arith);
}

slice_get-left : (xs ys : List RowKey) (i : ℕ) (q : RowKey) → i < length xs → slice_get (xs ++ ys) i ≡ Some q → slice_get xs i ≡ Some q
slice_get-left [] ys i q within there = absurd (omega (arith, within))
slice_get-left (x ∷ xs) ys zero q within there = there
slice_get-left (x ∷ xs) ys (suc i) q within there = slice_get-left xs ys i q (omega (arith, within)) there

slice_get-push : {A : Type 0} (xs : List A) (x y : A) (i : ℕ) → slice_get xs i ≡ Some y → slice_get (xs ++ x ∷ []) i ≡ Some y
slice_get-push [] x y i there = cc
slice_get-push (z ∷ xs) x y zero there = there
slice_get-push (z ∷ xs) x y (suc i) there = slice_get-push xs x y i there

chained-room : (last : List ℕ) (links : List KeyLink) (ks : List RowKey) (k : RowKey) (v : KeyLink) → AreChained last links ks → IsChainedTo (length last) last (links ++ v ∷ []) (ks ++ k ∷ []) (length ks)
chained-room last links ks k v is = record {
  ends = λ b within. is.chained.ends b within ∙ ap (last_in (length last) b) (sym (take-append-le (length ks) ks (k ∷ []) (omega arith)));
  linked = λ i q within there.
      slice_get-push links v (link_of (length last) ks i q) i (is.chained.linked i q within (slice_get-left ks (k ∷ []) i q within there))
      ∙ ap (λ xs. Some (record { mixed = mixed_of q; before = last_in (length last) (bucket_of (length last) q) xs })) (sym (take-append-le i ks (k ∷ []) (omega (arith, within))));
}

slice_get-last : (ks : List RowKey) (k : RowKey) → slice_get (ks ++ k ∷ []) (length ks) ≡ Some k
slice_get-last [] k = refl
slice_get-last (x ∷ ks) k = slice_get-last ks k

pub key-read : (R : List RowKey) (i : ℕ) (x : RowKey) → i < length R → x ≡ get_or R i x → slice_get R i ≡ Some x
key-read R i x within read = slice_get-get_or R i x within ∙ ap Some (sym read)

-- where one more key was chained in room that was made for it
pub chained-push : (R : List RowKey) (k : RowKey) (last lent_last new_last : List ℕ) (v : KeyLink) (links pushed lent_links new_links : List KeyLink) → AreChained last links R
    → pushed ≡ links ++ v ∷ [] → lent_last ≡ last → lent_links ≡ pushed → length new_links ≡ length lent_links
    → ((ks : List RowKey) → slice_get ks (length R) ≡ Some k → IsChainedTo (length lent_last) lent_last lent_links ks (length R) → IsChainedTo (length new_last) new_last new_links ks (length R + 1))
    → AreChained new_last new_links (R ++ k ∷ [])
chained-push R k last lent_last new_last v links pushed lent_links new_links is room lent lent_too even more =
    let ks : List RowKey = R ++ k ∷ [] in
    let size : length ks ≡ length R + 1 = omega (arith, length-append R (k ∷ [])) in
    let there : slice_get ks (length R) ≡ Some k = slice_get-last R k in
    let over : IsChainedTo (length last) last (links ++ v ∷ []) ks (length R) = chained-room last links R k v is in
    let made : IsChainedTo (length last) last lent_links ks (length R) = subst (λ xs. IsChainedTo (length last) last xs ks (length R)) (sym (lent_too ∙ room)) over in
    let given : IsChainedTo (length lent_last) lent_last lent_links ks (length R) = subst (λ xs. IsChainedTo (length xs) xs lent_links ks (length R)) (sym lent) made in
    record {
      even = omega (arith, size, even, ap length lent_too, ap length room, length-append links (v ∷ []), is.even);
      chained = subst (IsChainedTo (length new_last) new_last new_links ks) (sym size) (more ks there given);
    }

-- the lists stand in vectors that kept their lengths
pub chained-written : (v : Vec ℕ) (w : Vec KeyLink) (last : List ℕ) (links : List KeyLink) (ks : List RowKey) → length last ≡ length v.items → length links ≡ length w.items → AreChained last links ks
    → AreChained (with_items v last).items (with_items w links).items ks
chained-written v w last links ks same same_too is =
    let last_is : (with_items v last).items ≡ last = with_items_is v last (omega (arith, same, v.ok.0)) in
    let links_is : (with_items w links).items ≡ links = with_items_is w links (omega (arith, same_too, w.ok.0)) in
    subst (λ xs. AreChained xs (with_items w links).items ks) (sym last_is) (subst (λ xs. AreChained last xs ks) (sym links_is) is)

-- ---- a look back from the last key of a bucket

-- the key is in the list if it is among those up to this number, which is that of a key of its bucket
pub record IsLookingBack (n : ℕ) (ks : List RowKey) (q : RowKey) (number : ℕ) : Type 0 where
  pub mine : last_in n (bucket_of n q) (take number ks) ≡ number
  pub left : listed ks q ≡ listed (take number ks) q

take-le : (n b number : ℕ) (ks : List RowKey) → last_in n b (take number ks) ≡ number → number ≤ length ks
take-le n b number ks mine = cases (cases_lt (length ks) number)
  where
    cases : (length ks < number) ⊎ (number ≤ length ks) → number ≤ length ks
    cases (inl less) = omega (arith, last_in-le n b (take number ks), ap length (take_all number ks (omega arith)))
    cases (inr within) = within

pub looking-within : (n : ℕ) (ks : List RowKey) (q : RowKey) (number : ℕ) → IsLookingBack n ks q number → number ≤ length ks
looking-within n ks q number is = take-le n (bucket_of n q) number ks is.mine

pub looking-start : (last : List ℕ) (links : List KeyLink) (ks : List RowKey) (q : RowKey) (b : ℕ) → AreChained last links ks → b ≡ bucket_of (length last) q → b < length last → IsLookingBack (length last) ks q (get_or last b 0)
looking-start last links ks q b is mine below =
    let n : ℕ = length last in
    let number : get_or last b 0 ≡ last_in n (bucket_of n q) ks =
    is.chained.ends b below ∙ (λ i. last_in n (mine i) (take_all (length ks) ks (omega arith) i)) in
    subst (IsLookingBack n ks q) (sym number)
    (record { mine = ends_there n (bucket_of n q) ks; left = among_first n (bucket_of n q) q ks refl })

-- where x is the key of the number, which is another than the one that is looked for
module _ (last : List ℕ) (links : List KeyLink) (ks : List RowKey) (q x : RowKey) (p : ℕ) (is : AreChained last links ks) (looking : IsLookingBack (length last) ks q (p + 1)) (there : slice_get ks p ≡ Some x) where
  within : p ≤ length ks
  within = omega (arith, slice_get_within ks p x there)

  same_bucket : bucket_of (length last) x ≡ bucket_of (length last) q
  same_bucket =
      let n : ℕ = length last in
      let number : p + 1 ≡ (if bucket_of n x == bucket_of n q then suc (length (take p ks)) else last_in n (bucket_of n q) (take p ks)) =
      sym looking.mine ∙ ap (last_in n (bucket_of n q)) (take-next ks p x there) ∙ last_in-push n (bucket_of n q) x (take p ks) in
      elim (bucket_of n x == bucket_of n q) as (λ t. (bucket_of n x == bucket_of n q) ≡ t → bucket_of n x ≡ bucket_of n q) [
        | true ↦ λ e. eqb-true (bucket_of n x) (bucket_of n q) e
        | false ↦ λ e.
            let less : p + 1 ≡ last_in n (bucket_of n q) (take p ks) = number ∙ ap (λ t. if t then suc (length (take p ks)) else last_in n (bucket_of n q) (take p ks)) e in
            absurd (omega (arith, less, last_in-le n (bucket_of n q) (take p ks), length-take-le p ks within))
      ] refl

  -- whatever is read beyond the end
  pub link_is : (d : KeyLink) → get_or links p d ≡ link_of (length last) ks p x
  link_is d = get_or_from_slice_get links p (link_of (length last) ks p x) d (is.chained.linked p x (slice_get_within ks p x there) there)

  pub next_is : (d : KeyLink) → (get_or links p d).before ≡ last_in (length last) (bucket_of (length last) q) (take p ks)
  next_is d =
      ap (λ (l : KeyLink). l.before) (link_is d) ∙ ap (λ b. last_in (length last) b (take p ks)) same_bucket

  pub looking-falls : (m : ℕ) → m ≡ last_in (length last) (bucket_of (length last) q) (take p ks) → m ≤ p
  looking-falls m next = omega (arith, next, last_in-le (length last) (bucket_of (length last) q) (take p ks), length-take-le p ks within)

  pub looking-next : (m : ℕ) → m ≡ last_in (length last) (bucket_of (length last) q) (take p ks) → rowkey_eq x q ≡ false → IsLookingBack (length last) ks q m
  looking-next m next apart =
      let n : ℕ = length last in
      let b : ℕ = bucket_of n q in
      let earlier : List RowKey = take p ks in
      let shorter : take m (take p ks) ≡ take m ks = take-take m p ks (looking-falls m next) in
      record {
        mine =
            ap (last_in n b) (sym shorter) ∙ ap (λ j. last_in n b (take j earlier)) next ∙ ends_there n b earlier ∙ sym next;
        left =
            looking.left ∙ ap (λ l. listed l q) (take-next ks p x there) ∙ list_any-append (rowkey_eq q) earlier (x ∷ [])
            ∙ one_apart (listed earlier q) (rowkey_eq q x) (rowkey_eq-laws.symm q x ∙ apart)
            ∙ among_first n b q earlier refl ∙ ap (λ j. listed (take j earlier) q) (sym next) ∙ ap (λ l. listed l q) shorter;
      }

pub looking-end : (n : ℕ) (ks : List RowKey) (q : RowKey) (number : ℕ) → IsLookingBack n ks q number → number ≡ 0 → listed ks q ≡ false
looking-end n ks q number is none = is.left ∙ ap (λ m. listed (take m ks) q) none

-- where the number is that of a key that is looked at
module _ (last : List ℕ) (links : List KeyLink) (R : List RowKey) (q : RowKey) (number : ℕ) (is : AreChained last links R) (some : 0 < number) (looking : IsLookingBack (length last) R q number) where
  pub number-within : number - 1 < length R
  number-within = omega (arith, some, looking-within (length last) R q number looking)

  pub number-linked : number - 1 < length links
  number-linked = omega (arith, some, looking-within (length last) R q number looking, is.even)

  at_place : IsLookingBack (length last) R q ((number - 1) + 1)
  at_place =
      let same : number ≡ (number - 1) + 1 = omega (arith, some) in
      subst (IsLookingBack (length last) R q) same looking

  -- where x is read as the key, and e stands for what is read beyond the end
  module _ (x : RowKey) (read : x ≡ get_or R (number - 1) x) where
    pub number-key : slice_get R (number - 1) ≡ Some x
    number-key = key-read R (number - 1) x number-within read

    pub number-found : rowkey_eq x q ≡ true → slice_get R (number - 1) ≡ Some q
    number-found same = number-key ∙ ap Some (rowkey_eq-equal x q same)

    pub number-mixed : (e : KeyLink) → (get_or links (number - 1) e).mixed ≡ mixed_of x
    number-mixed e = ap (λ (l : KeyLink). l.mixed) (link_is last links R q x (number - 1) is at_place number-key e)

    number-before : (e : KeyLink) → (get_or links (number - 1) e).before ≡ last_in (length last) (bucket_of (length last) q) (take (number - 1) R)
    number-before e = next_is last links R q x (number - 1) is at_place number-key e

    pub number-falls : (e : KeyLink) → (get_or links (number - 1) e).before < number
    number-falls e =
        omega (arith, some, looking-falls last links R q x (number - 1) is at_place number-key (get_or links (number - 1) e).before (number-before e))

    pub number-next : (e : KeyLink) → rowkey_eq x q ≡ false → IsLookingBack (length last) R q (get_or links (number - 1) e).before
    number-next e apart =
        looking-next last links R q x (number - 1) is at_place number-key (get_or links (number - 1) e).before (number-before e) apart
