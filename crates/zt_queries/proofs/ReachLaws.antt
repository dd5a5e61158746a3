-- What is reached is the least closed set: the rounds stop finding more before they end, since each round that
-- finds more opens the queue of one message more.
use Rattle.std.proofs.Common.{◌≡◌, ◌≤◌, ◌<◌, ℕ, zero, suc, ◌+◌, Bool, true, false, cond, List, [], ◌∷◌, ◌++◌, map, length, ◌⊎◌, inl, inr, refl, sym, ap, ◌∙◌, subst, arith}
use Rattle.std.specs.Prelude.{Option, None, Some, is_some, if◌then◌else◌, ◌==◌}
use Rattle.std.specs.List.{filter_map, flat_map, count_by, cons_option, AllByRecursion}
use Rattle.std.proofs.lemmas.Bool.{eqb-true, eq-eqb}
use Rattle.zt_rows.specs.declared.keys.RowKey.{RowKey}
use Rattle.zt_rows.specs.declared.keys.RowKey.TheVariants as key
use Rattle.zt_rows.specs.declared.rows.Held.{Held}
use Rattle.zt_rows.specs.declared.rows.Row.{Row}
use Rattle.zt_rows.specs.declared.rows.Row.TheVariants as rows
use Rattle.zt_rows.specs.Contents.{MessageContent}
use Rattle.zt_rows.specs.State.{State, row}
use Rattle.zt_rows.specs.Reads.{as_entry, as_message, entry, message, message_at, messages}
use Rattle.zt_rows.specs.Tests.{among}
use Rattle.zt_rows.proofs.RowLaws.{In, list_any-in, in-list_any, row-in, in-row, count-cons}
use Rattle.zt_rows.proofs.ReadLaws.{entry-row, message-row}
use Rattle.zt_queries.specs.Reachability.{named, found, reached, HoldsAllNamed}

-- ---- lists

pub in-among : (x : ℕ) (xs : List ℕ) → In x xs → among xs x ≡ true
in-among x xs m = list_any-in (λ m. m == x) x xs m (eq-eqb x x refl)

pub among-in : (x : ℕ) (xs : List ℕ) → among xs x ≡ true → In x xs
among-in x xs h = let w = in-list_any (λ m. m == x) xs h in subst (λ z. In z xs) (eqb-true w.0 x w.2) w.1

pub in-append : {A : Type 0} (s : A) (xs ys : List A) → In s (xs ++ ys) → In s xs ⊎ In s ys
in-append s [] ys m = inr m
in-append s (x ∷ xs) ys (inl e) = inl (inl e)
in-append s (x ∷ xs) ys (inr m) = elim (in-append s xs ys m) [ inl l ↦ inl (inr l) | inr r ↦ inr r ]

pub append-left : {A : Type 0} (s : A) (xs ys : List A) → In s xs → In s (xs ++ ys)
append-left s [] ys m = absurd m
append-left s (x ∷ xs) ys (inl e) = inl e
append-left s (x ∷ xs) ys (inr m) = inr (append-left s xs ys m)

pub append-right : {A : Type 0} (s : A) (xs ys : List A) → In s ys → In s (xs ++ ys)
append-right s [] ys m = m
append-right s (x ∷ xs) ys m = inr (append-right s xs ys m)

in-flat_map_of : {A B : Type 0} (f : A → List B) (b : B) (x : A) (xs : List A) → (In b (flat_map f xs) → (y : A) × In y xs × In b (f y)) → In b (f x) ⊎ In b (flat_map f xs) → (y : A) × In y (x ∷ xs) × In b (f y)
in-flat_map_of f b x xs later (inl e) = (x, inl refl, e)
in-flat_map_of f b x xs later (inr m) = let w = later m in (w.0, inr w.1, w.2)

pub in-flat_map : {A B : Type 0} (f : A → List B) (b : B) (xs : List A) → In b (flat_map f xs) → (y : A) × In y xs × In b (f y)
in-flat_map f b [] m = absurd m
in-flat_map f b (x ∷ xs) m = in-flat_map_of f b x xs (λ g. in-flat_map f b xs g) (in-append b (f x) _ m)

pub flat_map-in : {A B : Type 0} (f : A → List B) (b : B) (y : A) (xs : List A) → In y xs → In b (f y) → In b (flat_map f xs)
flat_map-in f b y [] m e = absurd m
flat_map-in f b y (x ∷ xs) (inl p) e = append-left b (f x) _ (subst (λ z. In b (f z)) p e)
flat_map-in f b y (x ∷ xs) (inr m) e = append-right b (f x) _ (flat_map-in f b y xs m e)

pub in-map : {A B : Type 0} (f : A → B) (b : B) (xs : List A) → In b (map f xs) → (x : A) × In x xs × (b ≡ f x)
in-map f b [] m = absurd m
in-map f b (x ∷ xs) (inl e) = (x, inl refl, e)
in-map f b (x ∷ xs) (inr m) = let w = in-map f b xs m in (w.0, inr w.1, w.2)

pub map-in : {A B : Type 0} (f : A → B) (x : A) (xs : List A) → In x xs → In (f x) (map f xs)
map-in f x [] m = absurd m
map-in f x (y ∷ ys) (inl e) = inl (ap f e)
map-in f x (y ∷ ys) (inr m) = inr (map-in f x ys m)

pub all-in : {A : Type 0} (P : A → Type 0) (xs : List A) → AllByRecursion P xs → (x : A) → In x xs → P x
all-in P [] all x m = absurd m
all-in P (y ∷ ys) all x (inl e) = subst P (sym e) all.0
all-in P (y ∷ ys) all x (inr m) = all-in P ys all.1 x m

pub in-all : {A : Type 0} (P : A → Type 0) (xs : List A) → ((x : A) → In x xs → P x) → AllByRecursion P xs
in-all P [] h = tt
in-all P (x ∷ xs) h = (h x (inl refl), in-all P xs (λ y m. h y (inr m)))

flat_map-same : {A B : Type 0} (f g : A → List B) (xs : List A) → ((x : A) → In x xs → f x ≡ g x) → flat_map f xs ≡ flat_map g xs
flat_map-same f g [] h = refl
flat_map-same f g (x ∷ xs) h = ap (λ l. l ++ flat_map f xs) (h x (inl refl)) ∙ ap (λ l. g x ++ l) (flat_map-same f g xs (λ y m. h y (inr m)))

-- ---- what one row names

-- the row is a message at a known endpoint
abbrev is_opened : List ℕ → RowKey × Row → Bool
is_opened known (key.Msg e n, rows.Msg m) = among known e
is_opened known _ = false

-- what a row names depends on what is known only by whether it is opened
named-same : (a b : List ℕ) (e : RowKey × Row) → is_opened a e ≡ is_opened b e → named a e ≡ named b e
named-same a b (key.Msg e n, rows.Msg m) h = ap (λ t. if t then map (λ (held : Held). held.koid) m.handles else []) h
named-same a b _ h = refl

named-opened : (known : List ℕ) (e n : ℕ) (m : MessageContent) → among known e ≡ true → named known (key.Msg e n, rows.Msg m) ≡ map (λ (held : Held). held.koid) m.handles
named-opened known e n m h = ap (λ t. if t then map (λ (held : Held). held.koid) m.handles else []) h

opened-named : (x : ℕ) (b : Bool) (xs : List ℕ) → In x (if b then xs else []) → (b ≡ true) × In x xs
opened-named x true xs m = (refl, m)
opened-named x false xs m = absurd m

-- what is known of more names more
named-more : (a b : List ℕ) → ((y : ℕ) → In y a → In y b) → (x : ℕ) (e : RowKey × Row) → In x (named a e) → In x (named b e)
named-more a b more x (key.Entry p h, rows.Entry held) l = l
named-more a b more x (key.Msg e n, rows.Msg m) l =
    let w = opened-named x (among a e) (map (λ (held : Held). held.koid) m.handles) l in
    subst (λ ks. In x ks) (sym (named-opened b e n m (in-among e b (more e (among-in e a w.0))))) w.1
named-more a b more x _ l = absurd l

-- ---- counting

bit-le : (a b : Bool) → (a ≡ true → b ≡ true) → cond a 1 0 ≤ cond b 1 0
bit-le false b h = omega arith
bit-le true true h = omega arith
bit-le true false h = let e : false ≡ true = h refl in cc

bit_below : (a b : Bool) (m n : ℕ) → (a ≡ true → b ≡ true) → m < n → cond a 1 0 + m < cond b 1 0 + n
bit_below false b m n h l = omega arith
bit_below true true m n h l = omega arith
bit_below true false m n h l = let e : false ≡ true = h refl in cc

bit_rises : (a b : Bool) (m n : ℕ) → (a ≡ true → b ≡ true) → m ≤ n → (a ≡ b) ⊎ (cond a 1 0 + m < cond b 1 0 + n)
bit_rises true true m n h l = inl refl
bit_rises true false m n h l = let e : false ≡ true = h refl in cc
bit_rises false true m n h l = inr (omega arith)
bit_rises false false m n h l = inl refl

-- a test that holds of all of which another one does: both are one, or it holds of more
count-more : (p q : RowKey × Row → Bool) (es : List (RowKey × Row)) → ((e : RowKey × Row) → p e ≡ true → q e ≡ true) → count_by p es ≤ count_by q es
count-more p q [] h = omega arith
count-more p q (e ∷ es) h =
    let a : count_by p (e ∷ es) ≡ cond (p e) 1 0 + count_by p es = count-cons p e es in
    let b : count_by q (e ∷ es) ≡ cond (q e) 1 0 + count_by q es = count-cons q e es in
    let c : cond (p e) 1 0 ≤ cond (q e) 1 0 = bit-le (p e) (q e) (h e) in
    let d : count_by p es ≤ count_by q es = count-more p q es h in
    omega arith

same_so_far : (p q : RowKey × Row → Bool) (e : RowKey × Row) (es : List (RowKey × Row)) → p e ≡ q e → ((f : RowKey × Row) → In f es → p f ≡ q f) → (f : RowKey × Row) → In f (e ∷ es) → p f ≡ q f
same_so_far p q e es one rest f (inl g) = ap p g ∙ one ∙ sym (ap q g)
same_so_far p q e es one rest f (inr m) = rest f m

rises : (p q : RowKey × Row → Bool) (es : List (RowKey × Row)) → ((e : RowKey × Row) → p e ≡ true → q e ≡ true) → ((e : RowKey × Row) → In e es → p e ≡ q e) ⊎ (count_by p es < count_by q es)
rises p q [] h = inl (λ e m. absurd m)
rises p q (e ∷ es) h =
    let a : count_by p (e ∷ es) ≡ cond (p e) 1 0 + count_by p es = count-cons p e es in
    let b : count_by q (e ∷ es) ≡ cond (q e) 1 0 + count_by q es = count-cons q e es in
    elim (rises p q es h) [
      | inl same ↦ elim (bit_rises (p e) (q e) (count_by p es) (count_by q es) (h e) (count-more p q es h)) [
        | inl one ↦ inl (same_so_far p q e es one same)
        | inr less ↦ inr (let l : cond (p e) 1 0 + count_by p es < cond (q e) 1 0 + count_by q es = less in omega arith)
      ]
      | inr less ↦ inr (let l : cond (p e) 1 0 + count_by p es < cond (q e) 1 0 + count_by q es = bit_below (p e) (q e) (count_by p es) (count_by q es) (h e) less in omega arith)
    ]

opened-message : (known : List ℕ) (e : RowKey × Row) → is_opened known e ≡ true → is_some (message_at e) ≡ true
opened-message known (key.Msg e n, rows.Msg m) h = refl
opened-message known _ h = cc

longer : {A : Type 0} (o : Option A) (b : Bool) (ys : List A) (n : ℕ) → (b ≡ true → is_some o ≡ true) → n ≤ length ys → cond b 1 0 + n ≤ length (cons_option o ys)
longer None true ys n h l = let e : false ≡ true = h refl in cc
longer None false ys n h l = omega arith
longer (Some y) true ys n h l = omega arith
longer (Some y) false ys n h l = omega arith

-- no more rows are opened than there are messages
opened-few : (known : List ℕ) (es : List (RowKey × Row)) → count_by (is_opened known) es ≤ length (filter_map message_at es)
opened-few known [] = omega arith
opened-few known (e ∷ es) =
    let a : count_by (is_opened known) (e ∷ es) ≡ cond (is_opened known e) 1 0 + count_by (is_opened known) es = count-cons (is_opened known) e es in
    let b : cond (is_opened known e) 1 0 + count_by (is_opened known) es ≤ length (filter_map message_at (e ∷ es)) = longer (message_at e) (is_opened known e) (filter_map message_at es) (count_by (is_opened known) es) (opened-message known e) (opened-few known es) in
    omega arith

module _ (S : State) where
  -- ---- the rounds

  abbrev next : List ℕ → List ℕ
  next known = flat_map (named known) S.rows

  next-found : (n : ℕ) → found (suc n) S ≡ next (found n S)
  unfolding found
  next-found n = refl

  -- what one round finds the next one finds
  found-more : (n x : ℕ) → In x (found n S) → In x (found (suc n) S)
  unfolding found
  found-more zero x m = absurd m
  found-more (suc n) x m =
      let w = in-flat_map (named (found n S)) x S.rows m in
      flat_map-in (named (found (suc n) S)) x w.0 S.rows w.1 (named-more (found n S) (found (suc n) S) (λ y l. found-more n y l) x w.0 w.2)

  opened-more : (n : ℕ) (e : RowKey × Row) → is_opened (found n S) e ≡ true → is_opened (found (suc n) S) e ≡ true
  opened-more n (key.Msg e m, rows.Msg c) h = in-among e (found (suc n) S) (found-more n e (among-in e (found n S) h))
  opened-more n _ h = cc

  abbrev opened : ℕ → ℕ
  opened n = count_by (is_opened (found n S)) S.rows

  -- rounds that open the same messages find the same
  same_found : (n : ℕ) → ((e : RowKey × Row) → In e S.rows → is_opened (found n S) e ≡ is_opened (found (suc n) S) e) → found (suc (suc n)) S ≡ found (suc n) S
  same_found n same =
      next-found (suc n) ∙ flat_map-same (named (found (suc n) S)) (named (found n S)) S.rows (λ e m. sym (named-same (found n S) (found (suc n) S) e (same e m))) ∙ sym (next-found n)

  -- a round finds no more than the one before, or so many rounds open so many messages
  still_or_opened : (n : ℕ) → (found (suc (suc n)) S ≡ found (suc n) S) ⊎ (n < opened (suc n))
  still_or_opened zero = elim (rises (is_opened (found 0 S)) (is_opened (found 1 S)) S.rows (opened-more 0)) [
    | inl same ↦ inl (same_found 0 same)
    | inr less ↦ inr (let l : opened 0 < opened 1 = less in omega arith)
  ]
  still_or_opened (suc n) = elim (still_or_opened n) [
    | inl still ↦ inl (next-found (suc (suc n)) ∙ ap next still ∙ sym (next-found (suc n)))
    | inr many ↦ elim (rises (is_opened (found (suc n) S)) (is_opened (found (suc (suc n)) S)) S.rows (opened-more (suc n))) [
      | inl same ↦ inl (same_found (suc n) same)
      | inr less ↦ inr (let l : opened (suc n) < opened (suc (suc n)) = less in let k : n < opened (suc n) = many in omega arith)
    ]
  ]

  -- one round more finds no more
  reached-next : next (reached S) ≡ reached S
  unfolding reached messages
  reached-next = elim (still_or_opened (length (filter_map message_at S.rows))) [
    | inl still ↦ sym (next-found (suc (length (filter_map message_at S.rows)))) ∙ still
    | inr many ↦
        let few : opened (suc (length (filter_map message_at S.rows))) ≤ length (filter_map message_at S.rows) = opened-few (found (suc (length (filter_map message_at S.rows))) S) S.rows in
        let more : length (filter_map message_at S.rows) < opened (suc (length (filter_map message_at S.rows))) = many in
        absurd (omega arith)
  ]

  -- ---- closed, and inside every closed set

  named-reached : (x : ℕ) (e : RowKey × Row) → In e S.rows → In x (named (reached S) e) → among (reached S) x ≡ true
  named-reached x e there m = in-among x (reached S) (subst (λ ks. In x ks) reached-next (flat_map-in (named (reached S)) x e S.rows there m))

  pub entry-reached : (p h : ℕ) (held : Held) → entry S p h ≡ Some held → among (reached S) held.koid ≡ true
  entry-reached p h held e = named-reached held.koid (key.Entry p h, rows.Entry held) (row-in S (key.Entry p h) (rows.Entry held) (entry-row S p h held e)) (inl refl)

  pub message-reached : (e n : ℕ) (m : MessageContent) → message S e n ≡ Some m → among (reached S) e ≡ true → (held : Held) → In held m.handles → among (reached S) held.koid ≡ true
  message-reached e n m h known held l =
      named-reached held.koid (key.Msg e n, rows.Msg m) (row-in S (key.Msg e n) (rows.Msg m) (message-row S e n m h))
      (subst (λ ks. In held.koid ks) (sym (named-opened (reached S) e n m known)) (map-in (λ (held : Held). held.koid) held m.handles l))

  pub reached-closed : HoldsAllNamed S (among (reached S))
  reached-closed = record {
    entries = entry-reached;
    messages = λ e n m h known. in-all (λ (held : Held). among (reached S) held.koid ≡ true) m.handles (message-reached e n m h known);
  }

  module _ (set : ℕ → Bool) (closed : HoldsAllNamed S set) where
    named-inside : (known : List ℕ) → ((y : ℕ) → In y known → set y ≡ true) → (x : ℕ) (k : RowKey) (r : Row) → row S k ≡ Some r → In x (named known (k, r)) → set x ≡ true
    named-inside known inside x (key.Entry p h) (rows.Entry held) there (inl e) = ap set e ∙ closed.entries p h held (ap as_entry there)
    named-inside known inside x (key.Entry p h) (rows.Entry held) there (inr m) = absurd m
    named-inside known inside x (key.Msg e n) (rows.Msg m) there l =
        let w = opened-named x (among known e) (map (λ (held : Held). held.koid) m.handles) l in
        let one = in-map (λ (held : Held). held.koid) x m.handles w.1 in
        let owner : set e ≡ true = inside e (among-in e known w.0) in
        ap set one.2 ∙ all-in (λ (held : Held). set held.koid ≡ true) m.handles (closed.messages e n m (ap as_message there) owner) one.0 one.1
    named-inside known inside x _ _ there l = absurd l

    found-inside : (n x : ℕ) → In x (found n S) → set x ≡ true
    unfolding found
    found-inside zero x m = absurd m
    found-inside (suc n) x m =
        let w = in-flat_map (named (found n S)) x S.rows m in
        named-inside (found n S) (λ y l. found-inside n y l) x w.0.0 w.0.1 (in-row S w.0.0 w.0.1 w.1) w.2

    pub reached-least : (x : ℕ) → among (reached S) x ≡ true → set x ≡ true
    unfolding reached
    reached-least x h = found-inside (suc (length (messages S))) x (among-in x (reached S) h)

pub ruleset reach_laws = (reached-closed, reached-least)
