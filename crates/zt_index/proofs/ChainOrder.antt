-- Items of one bucket in an order, each linked to the next: what stays linked when one item comes in or goes out. Said of
-- any order, since items are linked both ways.
use Rattle.std.proofs.Common.{◌≡◌, ◌<◌, arith, ℕ, ◌==◌, Bool, true, false, cond, Option, Some, None, refl, sym, ap, ◌∙◌, subst, ◌⊎◌, inl, inr}
use Rattle.std.specs.Prelude.{IfSome}
use Rattle.std.proofs.lemmas.Bool.{cases_lt, eqb-true, eq-eqb}
use Rattle.zt_index.specs.Chains.{IsBehind, IsShortOf, IsNextBy}
use Rattle.zt_index.specs.ProofsOnly.Chains.{IsItemOf, is_slot}

clash : {P : Type 0} (b : Bool) → b ≡ true → b ≡ false → P
clash b t f = let e : true ≡ false = sym t ∙ f in cc

-- an order of numbers
pub record IsOrder (lt : ℕ → ℕ → Type 0) : Type 0 where
  pub trans : (a b c : ℕ) → lt a b → lt b c → lt a c
  pub apart : (a b : ℕ) → lt a b → a ≡ b → ⊥
  pub total : (a b : ℕ) → (lt a b) ⊎ ((a ≡ b) ⊎ lt b a)

-- a low one before n is the one that is linked before n, or that one is between
nearest : (lt : ℕ → ℕ → Type 0) → IsOrder lt → (q : ℕ → Bool) (low before : Option ℕ) (n : ℕ) → IsItemOf q low → IsBehind lt low n → IsNextBy (λ a b. lt b a) q (Some n) before
    → (low ≡ before) ⊎ ((p : ℕ) × (before ≡ Some p) × IsBehind lt low p × lt p n × (q p ≡ true))
nearest lt o q None None n within behind h = inl refl
nearest lt o q None (Some p) n within behind h = inr (p, refl, tt, h.0.0, h.0.1)
nearest lt o q (Some a) None n within behind h = clash (q a) within (h.1 a behind tt)
nearest lt o q (Some a) (Some p) n within behind h =
    elim (o.total a p) [
      | inl less ↦ inr (p, refl, less, h.0.0, h.0.1)
      | inr either ↦ elim either [
        | inl same ↦ inl (ap (λ x. Some x) same)
        | inr more ↦ clash (q a) within (h.1 a behind more)
      ]
    ]

short-through : (lt : ℕ → ℕ → Type 0) → IsOrder lt → (n : ℕ) (r : Option ℕ) (p : ℕ) → IsShortOf lt r n → lt p n → IsShortOf lt r p
short-through lt o n None p h less = tt
short-through lt o n (Some s) p h less = o.trans p n s less h

-- n is not between another low one and what comes next behind it
not-between : (lt : ℕ → ℕ → Type 0) → IsOrder lt → (q : ℕ → Bool) (n : ℕ) (before low next : Option ℕ)
    → IsItemOf q low → (low ≡ before → ⊥) → IsNextBy (λ a b. lt b a) q (Some n) before → IsNextBy lt q low next → IsBehind lt low n → IsShortOf lt next n → ⊥
not-between lt o q n before low next within other h g behind short =
    elim (nearest lt o q low before n within behind h) [
      | inl same ↦ other same
      | inr found ↦ clash (q found.0) found.4 (g.1 found.0 found.2 (short-through lt o n next found.0 short found.3))
    ]

-- ---- an item comes in

pub record ComesIn (q r : ℕ → Bool) (n : ℕ) : Type 0 where
  pub fresh : q n ≡ false
  pub here : r n ≡ true
  pub others : (m : ℕ) → (m ≡ n → ⊥) → r m ≡ q m

kept-next : (lt : ℕ → ℕ → Type 0) (q r : ℕ → Bool) (low next : Option ℕ) → ((m : ℕ) → q m ≡ true → r m ≡ true) → IfSome next (λ m. IsBehind lt low m × (q m ≡ true)) → IfSome next (λ m. IsBehind lt low m × (r m ≡ true))
kept-next lt q r low None keep h = tt
kept-next lt q r low (Some s) keep h = (h.0, keep s h.1)

either-way : (lt : ℕ → ℕ → Type 0) → IsOrder lt → (m n : ℕ) (P : Type 0) → (m ≡ n → P) → ((m ≡ n → ⊥) → P) → P
either-way lt o m n P same other =
    elim (o.total m n) [
      | inl less ↦ other (o.apart m n less)
      | inr either ↦ elim either [
        | inl e ↦ same e
        | inr more ↦ other (λ e. o.apart n m more (sym e))
      ]
    ]

came-true : (q r : ℕ → Bool) (n : ℕ) → ComesIn q r n → (m : ℕ) → q m ≡ true → r m ≡ true
came-true q r n c m h = c.others m (λ e. clash (q m) h (ap q e ∙ c.fresh)) ∙ h

pub came-behind : (lt : ℕ → ℕ → Type 0) → IsOrder lt → (q r : ℕ → Bool) (n : ℕ) (next : Option ℕ) → ComesIn q r n → IsNextBy lt q (Some n) next → IsNextBy lt r (Some n) next
came-behind lt o q r n next c h = (
  kept-next lt q r (Some n) next (came-true q r n c) h.0,
  λ m behind short. c.others m (λ e. o.apart n m behind (sym e)) ∙ h.1 m behind short,
)

came-before : (lt : ℕ → ℕ → Type 0) (n : ℕ) (before : Option ℕ) (q : ℕ → Bool) → IsNextBy (λ a b. lt b a) q (Some n) before → IsBehind lt before n
came-before lt n None q h = tt
came-before lt n (Some p) q h = h.0.0

flip-short : (lt : ℕ → ℕ → Type 0) (before : Option ℕ) (m : ℕ) → IsBehind lt before m → IsShortOf (λ a b. lt b a) before m
flip-short lt None m h = tt
flip-short lt (Some p) m h = h

pub came-next : (lt : ℕ → ℕ → Type 0) → IsOrder lt → (q r : ℕ → Bool) (n : ℕ) (before : Option ℕ) → ComesIn q r n → IsNextBy (λ a b. lt b a) q (Some n) before → IsNextBy lt r before (Some n)
came-next lt o q r n before c h = (
  (came-before lt n before q h, c.here),
  λ m behind short. c.others m (o.apart m n short) ∙ h.1 m short (flip-short lt before m behind),
)

pub came-other : (lt : ℕ → ℕ → Type 0) → IsOrder lt → (q r : ℕ → Bool) (n : ℕ) (before low next : Option ℕ) → ComesIn q r n → IsNextBy (λ a b. lt b a) q (Some n) before
    → IsItemOf q low → (low ≡ before → ⊥) → IsNextBy lt q low next → IsNextBy lt r low next
came-other lt o q r n before low next c h within other g = (
  kept-next lt q r low next (came-true q r n c) g.0,
  λ m behind short.
      either-way lt o m n (r m ≡ false)
      (λ e. absurd (not-between lt o q n before low next within other h g (subst (IsBehind lt low) e behind) (subst (IsShortOf lt next) e short)))
      (λ ne. c.others m ne ∙ g.1 m behind short),
)

-- ---- an item goes out

pub record GoesOut (q r : ℕ → Bool) (n : ℕ) : Type 0 where
  pub there : q n ≡ true
  pub gone : r n ≡ false
  pub others : (m : ℕ) → (m ≡ n → ⊥) → r m ≡ q m

went-reached : (lt : ℕ → ℕ → Type 0) → IsOrder lt → (q r : ℕ → Bool) (n : ℕ) (before next : Option ℕ) → GoesOut q r n → IsNextBy (λ a b. lt b a) q (Some n) before → IsNextBy lt q (Some n) next → IfSome next (λ m. IsBehind lt before m × (r m ≡ true))
went-reached lt o q r n before None g h k = tt
went-reached lt o q r n None (Some s) g h k = (tt, g.others s (λ e. o.apart n s k.0.0 (sym e)) ∙ k.0.1)
went-reached lt o q r n (Some p) (Some s) g h k = (o.trans p n s h.0.0 k.0.0, g.others s (λ e. o.apart n s k.0.0 (sym e)) ∙ k.0.1)

pub went-next : (lt : ℕ → ℕ → Type 0) → IsOrder lt → (q r : ℕ → Bool) (n : ℕ) (before next : Option ℕ) → GoesOut q r n → IsNextBy (λ a b. lt b a) q (Some n) before → IsNextBy lt q (Some n) next → IsNextBy lt r before next
went-next lt o q r n before next g h k = (
  went-reached lt o q r n before next g h k,
  λ m behind short.
      elim (o.total m n) [
        | inl less ↦ g.others m (o.apart m n less) ∙ h.1 m less (flip-short lt before m behind)
        | inr either ↦ elim either [
          | inl e ↦ ap r e ∙ g.gone
          | inr more ↦ g.others m (λ e. o.apart n m more (sym e)) ∙ k.1 m more short
        ]
      ],
)

went-found : (lt : ℕ → ℕ → Type 0) → IsOrder lt → (q r : ℕ → Bool) (n : ℕ) (before low next : Option ℕ) → GoesOut q r n → IsNextBy (λ a b. lt b a) q (Some n) before
    → IsItemOf q low → (low ≡ before → ⊥) → IsNextBy lt q low next → IfSome next (λ m. IsBehind lt low m × (r m ≡ true))
went-found lt o q r n before low None g h within other k = tt
went-found lt o q r n before low (Some s) g h within other k =
    (k.0.0, g.others s (λ e. end (nearest lt o q low before n within (subst (IsBehind lt low) e k.0.0) h) e) ∙ k.0.1)
  where
    end : (low ≡ before) ⊎ ((p : ℕ) × (before ≡ Some p) × IsBehind lt low p × lt p n × (q p ≡ true)) → s ≡ n → ⊥
    end (inl same) e = other same
    end (inr found) e = clash (q found.0) found.4 (k.1 found.0 found.2 (subst (λ x. lt found.0 x) (sym e) found.3))

pub went-other : (lt : ℕ → ℕ → Type 0) → IsOrder lt → (q r : ℕ → Bool) (n : ℕ) (before low next : Option ℕ) → GoesOut q r n → IsNextBy (λ a b. lt b a) q (Some n) before
    → IsItemOf q low → (low ≡ before → ⊥) → IsNextBy lt q low next → IsNextBy lt r low next
went-other lt o q r n before low next g h within other k = (
  went-found lt o q r n before low next g h within other k,
  λ m behind short. either-way lt o m n (r m ≡ false) (λ e. ap r e ∙ g.gone) (λ ne. g.others m ne ∙ k.1 m behind short),
)

-- ---- all buckets

slot-same : (b : ℕ) (before : Option ℕ) (c : ℕ) (low : Option ℕ) → is_slot b before c low ≡ true → low ≡ before
slot-same b None c None h = refl
slot-same b None c (Some n) h = cc
slot-same b (Some a) c None h = cc
slot-same b (Some a) c (Some n) h = ap (λ x. Some x) (eqb-true n a h)

slot-own : (b : ℕ) (before low : Option ℕ) → is_slot b before b low ≡ false → low ≡ before → ⊥
slot-own b None None h e = clash (b == b) (eq-eqb b b refl) h
slot-own b None (Some n) h e = cc
slot-own b (Some a) None h e = cc
slot-own b (Some a) (Some n) h e = clash (n == a) (eq-eqb n a (some-same e)) h
  where
    some-same : {x y : ℕ} → Some x ≡ Some y → x ≡ y
    some-same e = cc

-- an item is in one bucket at most
abbrev pub IsSingle : (ℕ → ℕ → Bool) → Type 0
IsSingle q = (b c n : ℕ) → q b n ≡ true → q c n ≡ true → c ≡ b

-- the slot of another bucket is not the one that changes
slot-other : (q : ℕ → ℕ → Bool) → IsSingle q → (b : ℕ) (before : Option ℕ) (c : ℕ) (low : Option ℕ) → (c ≡ b → ⊥) → IsItemOf (q b) before → IsItemOf (q c) low → is_slot b before c low ≡ false
slot-other q one b None c None other h g = falls (c == b) refl
  where
    falls : (t : Bool) → (c == b) ≡ t → t ≡ false
    falls true e = absurd (other (eqb-true c b e))
    falls false e = refl
slot-other q one b None c (Some n) other h g = refl
slot-other q one b (Some a) c None other h g = refl
slot-other q one b (Some a) c (Some n) other h g = falls (n == a) refl
  where
    falls : (t : Bool) → (n == a) ≡ t → t ≡ false
    falls true e = absurd (other (one b c n (ap (q b) (eqb-true n a e) ∙ h) g))
    falls false e = refl

within-found : (lt : ℕ → ℕ → Type 0) (q : ℕ → Bool) (low found : Option ℕ) → IsNextBy lt q low found → IsItemOf q found
within-found lt q low None h = tt
within-found lt q low (Some n) h = h.0.1

-- each bucket is linked in this order
abbrev pub IsLinked : (ℕ → ℕ → Type 0) → (ℕ → ℕ → Bool) → (ℕ → Option ℕ → Option ℕ) → Type 0
IsLinked lt q next = (b : ℕ) (low : Option ℕ) → IsItemOf (q b) low → IsNextBy lt (q b) low (next b low)

within-same : (q r : ℕ → Bool) (low : Option ℕ) → ((m : ℕ) → r m ≡ q m) → IsItemOf r low → IsItemOf q low
within-same q r None same h = tt
within-same q r (Some n) same h = sym (same n) ∙ h

next-same : (lt : ℕ → ℕ → Type 0) (q r : ℕ → Bool) (low found : Option ℕ) → ((m : ℕ) → r m ≡ q m) → IsNextBy lt q low found → IsNextBy lt r low found
next-same lt q r low found same h = (kept-next lt q r low found (λ m e. same m ∙ e) h.0, λ m behind short. same m ∙ h.1 m behind short)

-- nothing changes of what is in a bucket
pub linked-alike : (lt : ℕ → ℕ → Type 0) (q r : ℕ → ℕ → Bool) (next later : ℕ → Option ℕ → Option ℕ) → ((b m : ℕ) → r b m ≡ q b m)
    → ((b : ℕ) (low : Option ℕ) → IsItemOf (q b) low → later b low ≡ next b low) → IsLinked lt q next → IsLinked lt r later
linked-alike lt q r next later same links all b low within =
    let kept : IsItemOf (q b) low = within-same (q b) (r b) low (same b) within in
    subst (IsNextBy lt (r b) low) (sym (links b low kept))
    (next-same lt (q b) (r b) low (next b low) (same b) (all b low kept))

-- n goes out of the bucket b
pub linked-out : (lt : ℕ → ℕ → Type 0) → IsOrder lt → (q r : ℕ → ℕ → Bool) (next later : ℕ → Option ℕ → Option ℕ) (b n : ℕ) (before found : Option ℕ)
    → IsSingle q → GoesOut (q b) (r b) n → ((c m : ℕ) → (c ≡ b → ⊥) → r c m ≡ q c m)
    → IsNextBy (λ x y. lt y x) (q b) (Some n) before → IsNextBy lt (q b) (Some n) found
    → ((c : ℕ) (low : Option ℕ) → (low ≡ Some n → ⊥) → later c low ≡ cond (is_slot b before c low) found (next c low))
    → IsLinked lt q next → IsLinked lt r later
linked-out lt o q r next later b n before found one goes same h k links all c low within =
    either-way lt o c b (IsNextBy lt (r c) low (later c low)) own other
  where
    other : (c ≡ b → ⊥) → IsNextBy lt (r c) low (later c low)
    other ne =
        let kept : IsItemOf (q c) low = within-same (q c) (r c) low (λ m. same c m ne) within in
        let not_n : low ≡ Some n → ⊥ = λ e. ne (one b c n goes.there (subst (IsItemOf (q c)) e kept)) in
        subst (IsNextBy lt (r c) low)
        (sym (links c low not_n ∙ ap (λ t. cond t found (next c low)) (slot-other q one b before c low ne (within-found (λ x y. lt y x) (q b) (Some n) before h) kept)))
        (next-same lt (q c) (r c) low (next c low) (λ m. same c m ne) (all c low kept))

    kept-out : (low : Option ℕ) → IsItemOf (r b) low → IsItemOf (q b) low
    kept-out None w = tt
    kept-out (Some m) w = either-way lt o m n (q b m ≡ true) (λ e. ap (q b) e ∙ goes.there) (λ ne. sym (goes.others m ne) ∙ w)

    here : (t : Bool) → is_slot b before b low ≡ t → IsItemOf (r b) low → IsNextBy lt (r b) low (cond t found (next b low))
    here true e w = subst (λ l. IsNextBy lt (r b) l found) (sym (slot-same b before b low e)) (went-next lt o (q b) (r b) n before found goes h k)
    here false e w = went-other lt o (q b) (r b) n before low (next b low) goes h (kept-out low w) (slot-own b before low e) (all b low (kept-out low w))

    at : IsItemOf (r b) low → IsNextBy lt (r b) low (later b low)
    at w = subst (IsNextBy lt (r b) low) (sym (links b low (λ e. clash (r b n) (subst (IsItemOf (r b)) e w) goes.gone))) (here (is_slot b before b low) refl w)

    own : c ≡ b → IsNextBy lt (r c) low (later c low)
    own e = subst (λ x. IsNextBy lt (r x) low (later x low)) (sym e) (at (subst (λ x. IsItemOf (r x) low) e within))

-- n comes into the bucket b
pub linked-in : (lt : ℕ → ℕ → Type 0) → IsOrder lt → (q r : ℕ → ℕ → Bool) (next later : ℕ → Option ℕ → Option ℕ) (b n : ℕ) (before found : Option ℕ)
    → IsSingle q → ((c : ℕ) → q c n ≡ false) → ComesIn (q b) (r b) n → ((c m : ℕ) → (c ≡ b → ⊥) → r c m ≡ q c m)
    → IsNextBy (λ x y. lt y x) (q b) (Some n) before → IsNextBy lt (q b) (Some n) found
    → later b (Some n) ≡ found
    → ((c : ℕ) (low : Option ℕ) → (low ≡ Some n → ⊥) → later c low ≡ cond (is_slot b before c low) (Some n) (next c low))
    → IsLinked lt q next → IsLinked lt r later
linked-in lt o q r next later b n before found one free comes same h k itself links all c low within =
    either-way lt o c b (IsNextBy lt (r c) low (later c low)) own other
  where
    other : (c ≡ b → ⊥) → IsNextBy lt (r c) low (later c low)
    other ne =
        let kept : IsItemOf (q c) low = within-same (q c) (r c) low (λ m. same c m ne) within in
        let not_n : low ≡ Some n → ⊥ = λ e. clash (q c n) (subst (IsItemOf (q c)) e kept) (free c) in
        subst (IsNextBy lt (r c) low)
        (sym (links c low not_n ∙ ap (λ t. cond t (Some n) (next c low)) (slot-other q one b before c low ne (within-found (λ x y. lt y x) (q b) (Some n) before h) kept)))
        (next-same lt (q c) (r c) low (next c low) (λ m. same c m ne) (all c low kept))

    here : (t : Bool) → is_slot b before b low ≡ t → IsItemOf (q b) low → IsNextBy lt (r b) low (cond t (Some n) (next b low))
    here true e w = subst (λ l. IsNextBy lt (r b) l (Some n)) (sym (slot-same b before b low e)) (came-next lt o (q b) (r b) n before comes h)
    here false e w = came-other lt o (q b) (r b) n before low (next b low) comes h w (slot-own b before low e) (all b low w)

    at : (low : Option ℕ) → IsItemOf (r b) low → ((w : IsItemOf (q b) low) → (low ≡ Some n → ⊥) → IsNextBy lt (r b) low (later b low)) → IsNextBy lt (r b) low (later b low)
    at None w f = f tt (λ e. cc)
    at (Some m) w f =
        either-way lt o m n (IsNextBy lt (r b) (Some m) (later b (Some m)))
        (λ e. subst (λ x. IsNextBy lt (r b) (Some x) (later b (Some x))) (sym e) (subst (IsNextBy lt (r b) (Some n)) (sym itself) (came-behind lt o (q b) (r b) n found comes k)))
        (λ ne. f (sym (comes.others m ne) ∙ w) (λ e. ne (some-same e)))
      where
        some-same : {x y : ℕ} → Some x ≡ Some y → x ≡ y
        some-same e = cc

    own : c ≡ b → IsNextBy lt (r c) low (later c low)
    own e =
        subst (λ x. IsNextBy lt (r x) low (later x low)) (sym e)
        (at low (subst (λ x. IsItemOf (r x) low) e within) (λ w not_n. subst (IsNextBy lt (r b) low) (sym (links b low not_n)) (here (is_slot b before b low) refl w)))

-- ---- both orders of numbers

pub rising : IsOrder (λ a b. a < b)
rising = record { trans = λ a b c h g. omega arith; apart = λ a b h e. omega arith; total = λ a b. tri a b }
  where
    tri : (a b : ℕ) → (a < b) ⊎ ((a ≡ b) ⊎ (b < a))
    tri a b = elim (cases_lt a b) [ inl h ↦ inl h | inr h ↦ elim (cases_lt b a) [ inl g ↦ inr (inr g) | inr g ↦ inr (inl (omega arith)) ] ]

pub falling : IsOrder (λ a b. b < a)
falling = record { trans = λ a b c h g. omega arith; apart = λ a b h e. omega arith; total = λ a b. turned (rising.total b a) }
  where
    turned : {a b : ℕ} → (b < a) ⊎ ((b ≡ a) ⊎ (a < b)) → (b < a) ⊎ ((a ≡ b) ⊎ (a < b))
    turned (inl h) = inl h
    turned (inr (inl e)) = inr (inl (sym e))
    turned (inr (inr h)) = inr (inr h)
