-- The links of items in buckets: what a search along them finds, and that they stay right when an item is put into a
-- bucket or taken out.
use Rattle.std.proofs.Common.{take_all, ◌≡◌, ◌<◌, ◌≤◌, ◌-◌, ◌==◌, arith, ℕ, zero, suc, Bool, true, false, not, cond, List, [], ◌∷◌, length, get_or, set, take, replicate, ◌++◌, Option, Some, None, refl, sym, ap, ◌∙◌, subst, inl, inr, get_or-set_same, get_or-set_other}
use Rattle.std.specs.Prelude.{IfSome, if◌then◌else◌}
use Rattle.std.specs.Option.{is_some, option_eq}
use Rattle.std.proofs.lemmas.Bool.{cases_lt, eqb-true, eq-eqb}
use Rattle.std.proofs.lemmas.List.{length-map, get_or_past, get_or_read, map-set, set-get_or}
use Rattle.zt_index.specs.declared.chains.BucketLink.{BucketLink}
use Rattle.zt_index.specs.declared.chains.BucketEnds.{BucketEnds}
use Rattle.zt_index.specs.Chains.{IsBehind, IsShortOf, IsNext, bucket_at}
use Rattle.zt_index.specs.ProofsOnly.Chains.{IsPrevious, IsItemOf, IsAtOrBelow, IsBesides, IsChained, is_slot, is_bucket, is_in, buckets, next_of, before_of, no_link, no_ends}
use Rattle.zt_index.proofs.ChainOrder.{IsSingle, IsLinked, ComesIn, GoesOut, linked-alike, linked-in, linked-out, rising, falling}

-- ---- a search for the next item

pub besides-from : (q : ℕ → Bool) (low from next : Option ℕ) → IsAtOrBelow q low from → IsNext q from next → IsBesides q low next
besides-from q low from None below h = (tt, λ m behind short. h.1 m (below.1 m behind) short)
besides-from q low from (Some n) below h = (h.0.1, λ m behind short. h.1 m (below.1 m behind) short)

pub besides-more : (q : ℕ → Bool) (low : Option ℕ) (item : ℕ) (next : Option ℕ) → IsBesides q low (Some item) → (IsBehind (λ a b. a < b) low item → ⊥) → IsNext q (Some item) next → IsBesides q low next
besides-more q None item next h not g = absurd (not tt)
besides-more q (Some low) item next h not g = (within next g.0, λ m behind short. g.1 m (above m behind) short)
  where
    above : (m : ℕ) → low < m → item < m
    above m less = elim (cases_lt item m) [ inl h ↦ h | inr h ↦ absurd (not (omega arith)) ]

    within : (next : Option ℕ) → IfSome next (λ n. (item < n) × (q n ≡ true)) → IsItemOf q next
    within None h = tt
    within (Some n) h = h.1

pub found-besides : (q : ℕ → Bool) (low : Option ℕ) (item : ℕ) → IsBesides q low (Some item) → IsBehind (λ a b. a < b) low item → IsNext q low (Some item)
found-besides q low item h behind = ((behind, h.0), h.1)

pub none-besides : (q : ℕ → Bool) (low : Option ℕ) → IsBesides q low None → IsNext q low None
none-besides q low h = (tt, h.1)

-- where nothing is the first that passes, nothing passes
pub bare-by : (q : ℕ → Bool) (first : Option ℕ) → IsNext q None first → is_some first ≡ false → (n : ℕ) → q n ≡ false
bare-by q None h e n = h.1 n tt tt
bare-by q (Some x) h e n = cc

-- ---- an item goes behind a lower one of its bucket, where what is linked behind that one is above it

short-of : (next : Option ℕ) (n m : ℕ) → IsShortOf (λ a b. a < b) next n → m < n → IsShortOf (λ a b. a < b) next m
short-of None n m h less = tt
short-of (Some s) n m h less = omega arith

above-low : (before : Option ℕ) (m : ℕ) → IsShortOf (λ a b. b < a) before m → IsBehind (λ a b. a < b) before m
above-low None m h = tt
above-low (Some p) m h = h

pub between-previous : (q : ℕ → Bool) (before next : Option ℕ) (n : ℕ) → IsItemOf q before → IsBehind (λ a b. a < b) before n → IsShortOf (λ a b. a < b) next n → IsNext q before next → IsPrevious q (Some n) before
between-previous q before next n within behind short h = (found before within behind, λ m less more. h.1 m (above-low before m more) (short-of next n m short less))
  where
    found : (before : Option ℕ) → IsItemOf q before → IsBehind (λ a b. a < b) before n → IfSome before (λ m. (m < n) × (q m ≡ true))
    found None w b = tt
    found (Some m) w b = (b, w)

-- how far it is to the end
abbrev pub room_above : ℕ → Option ℕ → ℕ
room_above end None = 0
room_above end (Some n) = suc (end - n)

pub in-below : (all : List (Option ℕ)) (b n : ℕ) → is_in all b n ≡ true → n < length all
in-below all b n h = elim (cases_lt n (length all)) [ inl less ↦ less | inr past ↦ absurd (out past) ]
  where
    out : length all ≤ n → ⊥
    out past = let e : is_bucket b (bucket_at all n) ≡ false = ap (is_bucket b) (get_or_past all n None past) in let c : true ≡ false = sym h ∙ e in cc

pub above-shorter : (all : List (Option ℕ)) (b item : ℕ) (next : Option ℕ) → is_in all b item ≡ true → IsNext (is_in all b) (Some item) next → room_above (length all) next < room_above (length all) (Some item)
above-shorter all b item None h g = omega arith
above-shorter all b item (Some n) h g =
    let a : item < length all = in-below all b item h in
    let less : item < n = g.0.0 in
    let c : n < length all = in-below all b n g.0.1 in
    omega arith

abbrev pub room_below : Option ℕ → ℕ
room_below None = 0
room_below (Some n) = suc n

pub below-shorter : (q : ℕ → Bool) (item : ℕ) (before : Option ℕ) → IsPrevious q (Some item) before → room_below before < room_below (Some item)
below-shorter q item None h = omega arith
below-shorter q item (Some n) h = let less : n < item = h.0.0 in omega arith

-- ---- an item in buckets

same_bucket : (b c : ℕ) (x : Option ℕ) → is_bucket b x ≡ true → is_bucket c x ≡ true → c ≡ b
same_bucket b c None h g = cc
same_bucket b c (Some d) h g = sym (eqb-true d c g) ∙ eqb-true d b h

pub single : (all : List (Option ℕ)) → IsSingle (is_in all)
single all b c n h g = same_bucket b c (bucket_at all n) h g

own-bucket : (b : ℕ) → (b == b) ≡ true
own-bucket b = eq-eqb b b refl

goes-out : (all : List (Option ℕ)) (b n : ℕ) → n < length all → bucket_at all n ≡ Some b → GoesOut (is_in all b) (is_in (set all n None) b) n
goes-out all b n lt at = record {
  there = ap (is_bucket b) at ∙ own-bucket b;
  gone = ap (is_bucket b) (get_or-set_same all n None None lt);
  others = λ m ne. ap (is_bucket b) (get_or-set_other all n m None None ne);
}

comes-in : (all : List (Option ℕ)) (b n : ℕ) → n < length all → bucket_at all n ≡ None → ComesIn (is_in all b) (is_in (set all n (Some b)) b) n
comes-in all b n lt at = record {
  fresh = ap (is_bucket b) at;
  here = ap (is_bucket b) (get_or-set_same all n (Some b) None lt) ∙ own-bucket b;
  others = λ m ne. ap (is_bucket b) (get_or-set_other all n m (Some b) None ne);
}

other-bucket : (all : List (Option ℕ)) (n : ℕ) (x : Option ℕ) (c : ℕ) → n < length all → is_bucket c x ≡ false → is_in all c n ≡ false → (m : ℕ) → is_in (set all n x) c m ≡ is_in all c m
other-bucket all n x c lt not_x not_n m = by (m == n) refl
  where
    by : (t : Bool) → (m == n) ≡ t → is_in (set all n x) c m ≡ is_in all c m
    by true e =
        let same : m ≡ n = eqb-true m n e in
        ap (is_in (set all n x) c) same ∙ ap (is_bucket c) (get_or-set_same all n x None lt) ∙ not_x ∙ sym not_n ∙ sym (ap (is_in all c) same)
    by false e = ap (is_bucket c) (get_or-set_other all n m x None (λ same. let t : true ≡ false = sym (eq-eqb m n same) ∙ e in cc))

not_bucket : (c b : ℕ) → (c ≡ b → ⊥) → is_bucket c (Some b) ≡ false
not_bucket c b ne = by (b == c) refl
  where
    by : (t : Bool) → (b == c) ≡ t → (b == c) ≡ false
    by true e = absurd (ne (sym (eqb-true b c e)))
    by false e = e

-- ---- an item goes out of its bucket

pub removed : (links later : List BucketLink) (ends ends_later : List BucketEnds) (n b : ℕ) (before found : Option ℕ) → IsChained links ends
    → n < length (buckets links) → bucket_at (buckets links) n ≡ Some b → before ≡ before_of links ends b (Some n) → found ≡ next_of links ends b (Some n)
    → ((c : ℕ) (l : Option ℕ) → (l ≡ Some n → ⊥) → next_of later ends_later c l ≡ cond (is_slot b before c l) found (next_of links ends c l))
    → ((c : ℕ) (l : Option ℕ) → (l ≡ Some n → ⊥) → before_of later ends_later c l ≡ cond (is_slot b found c l) before (before_of links ends c l))
    → buckets later ≡ set (buckets links) n None → IsChained later ends_later
removed links later ends ends_later n b before found chained lt at is_before is_found nexts befores all =
    let q : ℕ → ℕ → Bool = is_in (buckets links) in
    let r : ℕ → ℕ → Bool = is_in (set (buckets links) n None) in
    let out : GoesOut (q b) (r b) n = goes-out (buckets links) b n lt at in
    let same : (c m : ℕ) → (c ≡ b → ⊥) → r c m ≡ q c m = λ c m ne. other-bucket (buckets links) n None c lt refl (ap (is_bucket c) at ∙ not_bucket c b ne) m in
    let previous : IsPrevious (q b) (Some n) before = subst (IsPrevious (q b) (Some n)) (sym is_before) (chained.befores b (Some n) out.there) in
    let next : IsNext (q b) (Some n) found = subst (IsNext (q b) (Some n)) (sym is_found) (chained.nexts b (Some n) out.there) in
    let up : IsLinked (λ x y. x < y) r (next_of later ends_later) = linked-out (λ x y. x < y) rising q r (next_of links ends) (next_of later ends_later) b n before found (single (buckets links)) out same previous next nexts chained.nexts in
    let down : IsLinked (λ x y. y < x) r (before_of later ends_later) = linked-out (λ x y. y < x) falling q r (before_of links ends) (before_of later ends_later) b n found before (single (buckets links)) out same next previous befores chained.befores in
    record {
      nexts = subst (λ bs. IsLinked (λ x y. x < y) (is_in bs) (next_of later ends_later)) (sym all) up;
      befores = subst (λ bs. IsLinked (λ x y. y < x) (is_in bs) (before_of later ends_later)) (sym all) down;
    }

-- ---- an item comes into a bucket

pub inserted : (links later : List BucketLink) (ends ends_later : List BucketEnds) (n b : ℕ) (before found : Option ℕ) → IsChained links ends
    → n < length (buckets links) → bucket_at (buckets links) n ≡ None → IsPrevious (is_in (buckets links) b) (Some n) before → IsNext (is_in (buckets links) b) (Some n) found
    → next_of later ends_later b (Some n) ≡ found → before_of later ends_later b (Some n) ≡ before
    → ((c : ℕ) (l : Option ℕ) → (l ≡ Some n → ⊥) → next_of later ends_later c l ≡ cond (is_slot b before c l) (Some n) (next_of links ends c l))
    → ((c : ℕ) (l : Option ℕ) → (l ≡ Some n → ⊥) → before_of later ends_later c l ≡ cond (is_slot b found c l) (Some n) (before_of links ends c l))
    → buckets later ≡ set (buckets links) n (Some b) → IsChained later ends_later
inserted links later ends ends_later n b before found chained lt at previous next own_next own_before nexts befores all =
    let q : ℕ → ℕ → Bool = is_in (buckets links) in
    let r : ℕ → ℕ → Bool = is_in (set (buckets links) n (Some b)) in
    let comes : ComesIn (q b) (r b) n = comes-in (buckets links) b n lt at in
    let free : (c : ℕ) → q c n ≡ false = λ c. ap (is_bucket c) at in
    let same : (c m : ℕ) → (c ≡ b → ⊥) → r c m ≡ q c m = λ c m ne. other-bucket (buckets links) n (Some b) c lt (not_bucket c b ne) (free c) m in
    let up : IsLinked (λ x y. x < y) r (next_of later ends_later) = linked-in (λ x y. x < y) rising q r (next_of links ends) (next_of later ends_later) b n before found (single (buckets links)) free comes same previous next own_next nexts chained.nexts in
    let down : IsLinked (λ x y. y < x) r (before_of later ends_later) = linked-in (λ x y. y < x) falling q r (before_of links ends) (before_of later ends_later) b n found before (single (buckets links)) free comes same next previous own_before befores chained.befores in
    record {
      nexts = subst (λ bs. IsLinked (λ x y. x < y) (is_in bs) (next_of later ends_later)) (sym all) up;
      befores = subst (λ bs. IsLinked (λ x y. y < x) (is_in bs) (before_of later ends_later)) (sym all) down;
    }

-- ---- links of other items

pub next-other : (links : List BucketLink) (ends : List BucketEnds) (n : ℕ) (link : BucketLink) (c : ℕ) (l : Option ℕ) → (l ≡ Some n → ⊥) → next_of (set links n link) ends c l ≡ next_of links ends c l
next-other links ends n link c None ne = refl
next-other links ends n link c (Some m) ne = ap (λ (x : BucketLink). x.next) (get_or-set_other links n m link no_link (λ e. ne (ap (λ x. Some x) e)))

pub before-other : (links : List BucketLink) (ends : List BucketEnds) (n : ℕ) (link : BucketLink) (c : ℕ) (l : Option ℕ) → (l ≡ Some n → ⊥) → before_of (set links n link) ends c l ≡ before_of links ends c l
before-other links ends n link c None ne = refl
before-other links ends n link c (Some m) ne = ap (λ (x : BucketLink). x.before) (get_or-set_other links n m link no_link (λ e. ne (ap (λ x. Some x) e)))

-- ---- the link of an item in no bucket

pub free-buckets : (links : List BucketLink) (n : ℕ) (link : BucketLink) → bucket_at (buckets links) n ≡ None → link.bucket ≡ None → buckets (set links n link) ≡ buckets links
free-buckets links n link at free =
    map-set (λ (x : BucketLink). x.bucket) links n link ∙ ap (set (buckets links) n) (free ∙ sym at) ∙ set-get_or (buckets links) n None

not-free : (all : List (Option ℕ)) (b n : ℕ) (l : Option ℕ) → bucket_at all n ≡ None → IsItemOf (is_in all b) l → l ≡ Some n → ⊥
not-free all b n l at within e =
    let t : is_in all b n ≡ true = subst (IsItemOf (is_in all b)) e within in
    let f : true ≡ false = sym t ∙ ap (is_bucket b) at in cc

pub free-link : (links : List BucketLink) (ends : List BucketEnds) (n : ℕ) (link : BucketLink) → bucket_at (buckets links) n ≡ None → link.bucket ≡ None → IsChained links ends → IsChained (set links n link) ends
free-link links ends n link at free chained =
    let same : (b m : ℕ) → is_in (buckets (set links n link)) b m ≡ is_in (buckets links) b m = λ b m. ap (λ all. is_in all b m) (free-buckets links n link at free) in
    record {
      nexts = linked-alike (λ x y. x < y) (is_in (buckets links)) (is_in (buckets (set links n link))) (next_of links ends) (next_of (set links n link) ends) same
          (λ b l within. next-other links ends n link b l (not-free (buckets links) b n l at within)) chained.nexts;
      befores = linked-alike (λ x y. y < x) (is_in (buckets links)) (is_in (buckets (set links n link))) (before_of links ends) (before_of (set links n link) ends) same
          (λ b l within. before-other links ends n link b l (not-free (buckets links) b n l at within)) chained.befores;
    }

-- the links before and behind n are not its own
pub not-slot-before : (q : ℕ → Bool) (b n : ℕ) (before : Option ℕ) → IsPrevious q (Some n) before → is_slot b before b (Some n) ≡ false
not-slot-before q b n None h = refl
not-slot-before q b n (Some p) h = by (n == p) refl
  where
    by : (t : Bool) → (n == p) ≡ t → (n == p) ≡ false
    by true e = let same : n ≡ p = eqb-true n p e in let less : p < n = h.0.0 in absurd (omega arith)
    by false e = e

pub not-slot-next : (q : ℕ → Bool) (b n : ℕ) (next : Option ℕ) → IsNext q (Some n) next → is_slot b next b (Some n) ≡ false
not-slot-next q b n None h = refl
not-slot-next q b n (Some p) h = by (n == p) refl
  where
    by : (t : Bool) → (n == p) ≡ t → (n == p) ≡ false
    by true e = let same : n ≡ p = eqb-true n p e in let less : n < p = h.0.0 in absurd (omega arith)
    by false e = e

-- ---- places

pub ends-there : (links : List BucketLink) (ends : List BucketEnds) (n b : ℕ) → IsChained links ends → bucket_at (buckets links) n ≡ Some b → b < length ends
ends-there links ends n b chained at = elim (cases_lt b (length ends)) [ inl less ↦ less | inr past ↦ absurd (out past) ]
  where
    out : length ends ≤ b → ⊥
    out past =
        let none : next_of links ends b None ≡ None = ap (λ (x : BucketEnds). x.first) (get_or_past ends b no_ends past) in
        let h : IsNext (is_in (buckets links) b) None None = subst (IsNext (is_in (buckets links) b) None) none (chained.nexts b None tt) in
        let f : is_in (buckets links) b n ≡ false = h.1 n tt tt in
        let t : is_in (buckets links) b n ≡ true = ap (is_bucket b) at ∙ own-bucket b in
        let e : true ≡ false = sym t ∙ f in cc

pub item-there : (links : List BucketLink) (b : ℕ) (n : ℕ) → is_in (buckets links) b n ≡ true → n < length links
item-there links b n h = let e : length (buckets links) ≡ length links = length-map links (λ (x : BucketLink). x.bucket) in let less : n < length (buckets links) = in-below (buckets links) b n h in omega arith

pub next-there : (links : List BucketLink) (b : ℕ) (low found : Option ℕ) → IsNext (is_in (buckets links) b) low found → IfSome found (λ n. n < length links)
next-there links b low None h = tt
next-there links b low (Some n) h = item-there links b n h.0.1

pub before-there : (links : List BucketLink) (b : ℕ) (low found : Option ℕ) → IsPrevious (is_in (buckets links) b) low found → IfSome found (λ n. n < length links)
before-there links b low None h = tt
before-there links b low (Some n) h = item-there links b n h.0.1

pub bucket-link : (links : List BucketLink) (n : ℕ) → bucket_at (buckets links) n ≡ (get_or links n no_link).bucket
bucket-link [] n = refl
bucket-link (x ∷ xs) zero = refl
bucket-link (x ∷ xs) (suc n) = bucket-link xs n

-- what was read at n is the link of n
link-read : (links : List BucketLink) (n : ℕ) (x : BucketLink) → n < length links → x ≡ get_or links n x → get_or links n no_link ≡ x
link-read links n x lt is = sym (get_or_read links n x lt is no_link)

-- the bucket that was read is that of the item, and so are the items beside it

pub bucket-read : (links : List BucketLink) (n : ℕ) (x : BucketLink) (bucket : Option ℕ) → n < length links → x ≡ get_or links n x → bucket ≡ x.bucket → bucket_at (buckets links) n ≡ bucket
bucket-read links n x bucket lt is read = bucket-link links n ∙ ap (λ (y : BucketLink). y.bucket) (link-read links n x lt is) ∙ sym read

pub before-read : (links : List BucketLink) (n : ℕ) (x : BucketLink) (before : Option ℕ) → n < length links → x ≡ get_or links n x → before ≡ x.before → before ≡ (get_or links n no_link).before
before-read links n x before lt is read = read ∙ sym (ap (λ (y : BucketLink). y.before) (link-read links n x lt is))

pub next-read : (links : List BucketLink) (n : ℕ) (x : BucketLink) (next : Option ℕ) → n < length links → x ≡ get_or links n x → next ≡ x.next → next ≡ (get_or links n no_link).next
next-read links n x next lt is read = read ∙ sym (ap (λ (y : BucketLink). y.next) (link-read links n x lt is))

pub in-own : (all : List (Option ℕ)) (n b : ℕ) → bucket_at all n ≡ Some b → is_in all b n ≡ true
in-own all n b at = ap (is_bucket b) at ∙ own-bucket b

pub lengths-same : (links : List BucketLink) → length (buckets links) ≡ length links
lengths-same links = length-map links (λ (x : BucketLink). x.bucket)

pub none_left : (o : Option ℕ) → ((n : ℕ) → o ≡ Some n → ⊥) → o ≡ None
none_left None h = refl
none_left (Some n) h = absurd (h n refl)

-- what is told of two options by code

pub told-none : (o : Option ℕ) (told : Bool) → is_some o ≡ not told → told ≡ true → o ≡ None
told-none None told h t = refl
told-none (Some n) told h t = let e : true ≡ false = h ∙ ap not t in cc

pub told-same : (a b : Option ℕ) → option_eq (λ x y. x == y) a b ≡ true → a ≡ b
told-same None None h = refl
told-same None (Some n) h = cc
told-same (Some m) None h = cc
told-same (Some m) (Some n) h = ap (λ x. Some x) (eqb-true m n h)

pub stays : (links : List BucketLink) (n : ℕ) (read bucket : Option ℕ) → bucket_at (buckets links) n ≡ read → option_eq (λ x y. x == y) read bucket ≡ true → buckets links ≡ set (buckets links) n bucket
stays links n read bucket is told =
    let at : bucket_at (buckets links) n ≡ bucket = is ∙ told-same read bucket told in
    sym (ap (set (buckets links) n) (sym at) ∙ set-get_or (buckets links) n None)

-- ---- more items, and more ends

filled-nil : {A : Type 0} (m k : ℕ) (d : A) → get_or (replicate m d) k d ≡ d
filled-nil zero k d = refl
filled-nil (suc m) zero d = refl
filled-nil (suc m) (suc k) d = filled-nil m k d

filled : {A : Type 0} (xs : List A) (m k : ℕ) (d : A) → get_or (xs ++ replicate m d) k d ≡ get_or xs k d
filled [] m k d = filled-nil m k d
filled (x ∷ xs) m zero d = refl
filled (x ∷ xs) m (suc k) d = filled xs m k d

pub resized : {A : Type 0} (xs : List A) (n m k : ℕ) (d : A) → length xs ≤ n → get_or (take n xs ++ replicate m d) k d ≡ get_or xs k d
resized xs n m k d h = ap (λ ys. get_or (ys ++ replicate m d) k d) (take_all n xs h) ∙ filled xs m k d

pub more-links : (links later : List BucketLink) (ends : List BucketEnds) → ((k : ℕ) → get_or later k no_link ≡ get_or links k no_link) → IsChained links ends → IsChained later ends
more-links links later ends same chained =
    let q : (b m : ℕ) → is_in (buckets later) b m ≡ is_in (buckets links) b m = λ b m. ap (is_bucket b) (bucket-link later m ∙ ap (λ (x : BucketLink). x.bucket) (same m) ∙ sym (bucket-link links m)) in
    record {
      nexts = linked-alike (λ x y. x < y) (is_in (buckets links)) (is_in (buckets later)) (next_of links ends) (next_of later ends) q (λ b l w. nexts b l) chained.nexts;
      befores = linked-alike (λ x y. y < x) (is_in (buckets links)) (is_in (buckets later)) (before_of links ends) (before_of later ends) q (λ b l w. befores b l) chained.befores;
    }
  where
    nexts : (b : ℕ) (l : Option ℕ) → next_of later ends b l ≡ next_of links ends b l
    nexts b None = refl
    nexts b (Some n) = ap (λ (x : BucketLink). x.next) (same n)

    befores : (b : ℕ) (l : Option ℕ) → before_of later ends b l ≡ before_of links ends b l
    befores b None = refl
    befores b (Some n) = ap (λ (x : BucketLink). x.before) (same n)

pub more-ends : (links : List BucketLink) (ends later : List BucketEnds) → ((k : ℕ) → get_or later k no_ends ≡ get_or ends k no_ends) → IsChained links ends → IsChained links later
more-ends links ends later same chained =
    record {
      nexts = linked-alike (λ x y. x < y) (is_in (buckets links)) (is_in (buckets links)) (next_of links ends) (next_of links later) (λ b m. refl) (λ b l w. nexts b l) chained.nexts;
      befores = linked-alike (λ x y. y < x) (is_in (buckets links)) (is_in (buckets links)) (before_of links ends) (before_of links later) (λ b m. refl) (λ b l w. befores b l) chained.befores;
    }
  where
    nexts : (b : ℕ) (l : Option ℕ) → next_of links later b l ≡ next_of links ends b l
    nexts b None = ap (λ (x : BucketEnds). x.first) (same b)
    nexts b (Some n) = refl

    befores : (b : ℕ) (l : Option ℕ) → before_of links later b l ≡ before_of links ends b l
    befores b None = ap (λ (x : BucketEnds). x.last) (same b)
    befores b (Some n) = refl

pub resized-if : {A : Type 0} (b : Bool) (xs : List A) (n m k : ℕ) (d : A) → length xs ≤ n → get_or (if b then take n xs ++ replicate m d else xs) k d ≡ get_or xs k d
resized-if true xs n m k d h = resized xs n m k d h
resized-if false xs n m k d h = refl
