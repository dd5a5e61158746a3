-- An object is supported exactly where a row says so: an entry or a message that names it, a live child of a
-- live job, or itself.
use Rattle.std.proofs.Common.{◌≡◌, ℕ, suc, ◌+◌, Bool, true, false, ◌||◌, List, [], ◌∷◌, ◌++◌, length, ◌⊎◌, inl, inr, refl, sym, ap, ◌∙◌, subst, arith}
use Rattle.std.specs.Prelude.{Option, None, Some, if◌then◌else◌, ◌==◌}
use Rattle.std.specs.List.{filter_map, flat_map}
use Rattle.std.proofs.lemmas.Bool.{eqb-true, eq-eqb}
use Rattle.std.proofs.lemmas.Bool.Decides.{nat_tests}
use Rattle.zt_rows.specs.declared.keys.RowKey.{RowKey}
use Rattle.zt_rows.specs.declared.keys.RowKey.TheVariants as key
use Rattle.zt_rows.specs.declared.rows.Held.{Held}
use Rattle.zt_rows.specs.declared.rows.ObjectRow.{ObjectRow}
use Rattle.zt_rows.specs.declared.rows.Row.{Row}
use Rattle.zt_rows.specs.declared.rows.Row.TheVariants as rows
use Rattle.zt_rows.specs.declared.supports.Support.{Support}
use Rattle.zt_rows.specs.declared.supports.Support.TheVariants as support
use Rattle.zt_rows.specs.Contents.{MessageContent}
use Rattle.zt_rows.specs.State.{State, row}
use Rattle.zt_rows.specs.Reads.{as_object, as_entry, as_message, object, entry, message, is_live_process, is_live_job}
use Rattle.zt_rows.specs.Support.{root_job, entry_support, places, message_supports, child_support, children, itself, supports, support_count, is_supported}
use Rattle.zt_rows.proofs.RowLaws.{In, row-in, in-row, in-filter_map, filter_map-in, and_left, and_right, and_both}
use Rattle.zt_rows.proofs.ReadLaws.{object-row, entry-row, message-row}

-- what keeps the object x
pub data KeptBy (S : State) (x : ℕ) : Type 0 where
  by_entry : (p h : ℕ) (held : Held) → entry S p h ≡ Some held → held.koid ≡ x → KeptBy S x
  by_message : (e n : ℕ) (m : MessageContent) (held : Held) → message S e n ≡ Some m → In held m.handles → held.koid ≡ x → KeptBy S x
  by_child : (o : ObjectRow) (y : ℕ) (c : ObjectRow) → object S x ≡ Some o → is_live_job o ≡ true → object S y ≡ Some c → (is_live_job c || is_live_process c) ≡ true → c.link ≡ x → KeptBy S x
  by_itself : (o : ObjectRow) → object S x ≡ Some o → (is_live_process o || (x == root_job)) ≡ true → KeptBy S x

-- ---- lists

in-append : {A : Type 0} (s : A) (xs ys : List A) → In s (xs ++ ys) → In s xs ⊎ In s ys
in-append s [] ys m = inr m
in-append s (x ∷ xs) ys (inl e) = inl (inl e)
in-append s (x ∷ xs) ys (inr m) = elim (in-append s xs ys m) [ inl l ↦ inl (inr l) | inr r ↦ inr r ]

append-left : {A : Type 0} (s : A) (xs ys : List A) → In s xs → In s (xs ++ ys)
append-left s [] ys m = absurd m
append-left s (x ∷ xs) ys (inl e) = inl e
append-left s (x ∷ xs) ys (inr m) = inr (append-left s xs ys m)

append-right : {A : Type 0} (s : A) (xs ys : List A) → In s ys → In s (xs ++ ys)
append-right s [] ys m = m
append-right s (x ∷ xs) ys m = inr (append-right s xs ys m)

in-flat_map_of : {A B : Type 0} (f : A → List B) (b : B) (x : A) (xs : List A) → (In b (flat_map f xs) → (y : A) × In y xs × In b (f y)) → In b (f x) ⊎ In b (flat_map f xs) → (y : A) × In y (x ∷ xs) × In b (f y)
in-flat_map_of f b x xs later (inl e) = (x, inl refl, e)
in-flat_map_of f b x xs later (inr m) = let w = later m in (w.0, inr w.1, w.2)

in-flat_map : {A B : Type 0} (f : A → List B) (b : B) (xs : List A) → In b (flat_map f xs) → (y : A) × In y xs × In b (f y)
in-flat_map f b [] m = absurd m
in-flat_map f b (x ∷ xs) m = in-flat_map_of f b x xs (λ g. in-flat_map f b xs g) (in-append b (f x) _ m)

flat_map-in : {A B : Type 0} (f : A → List B) (b : B) (y : A) (xs : List A) → In y xs → In b (f y) → In b (flat_map f xs)
flat_map-in f b y [] m e = absurd m
flat_map-in f b y (x ∷ xs) (inl p) e = append-left b (f x) _ (subst (λ z. In b (f z)) p e)
flat_map-in f b y (x ∷ xs) (inr m) e = append-right b (f x) _ (flat_map-in f b y xs m e)

abbrev not_empty : {A : Type 0} → List A → Bool
not_empty xs = if length xs == 0 then false else true

suc_not_zero : (n : ℕ) → (suc n == 0) ≡ false
suc_not_zero n = grind (arith, nat_tests)

not_empty-in : {A : Type 0} (xs : List A) → not_empty xs ≡ true → (s : A) × In s xs
not_empty-in [] e = cc
not_empty-in (x ∷ xs) e = (x, inl refl)

in-not_empty : {A : Type 0} (s : A) (xs : List A) → In s xs → not_empty xs ≡ true
in-not_empty s [] m = absurd m
in-not_empty s (x ∷ xs) m = ap (λ b. if b then false else true) (suc_not_zero (length xs))

-- ---- each list of supports

if_some : {A : Type 0} (b : Bool) (v s : A) → (if b then Some v else None) ≡ Some s → b ≡ true
if_some true v s e = refl
if_some false v s e = cc

some_if : {A : Type 0} (b : Bool) (v : A) → b ≡ true → (if b then Some v else None) ≡ Some v
some_if b v e = ap (λ c. if c then Some v else None) e

module _ (S : State) (x : ℕ) where
  kept-entry : (k : RowKey) (r : Row) (s : Support) → row S k ≡ Some r → entry_support x (k, r) ≡ Some s → KeptBy S x
  kept-entry (key.Entry p h) (rows.Entry held) s e g = by_entry p h held (ap as_entry e) (eqb-true held.koid x (if_some _ _ _ g))
  kept-entry _ _ s e g = cc

  in-places : (e n index : ℕ) (hs : List Held) (s : Support) → In s (places x e n index hs) → (held : Held) × In held hs × (held.koid ≡ x)
  in-places e n index [] s m = absurd m
  in-places e n index (held ∷ rest) s m =
      elim (held.koid == x) as (λ b. (held.koid == x) ≡ b → In s (if b then support.Message e n index ∷ places x e n (index + 1) rest else places x e n (index + 1) rest) → (g : Held) × In g (held ∷ rest) × (g.koid ≡ x)) [
        | true ↦ λ t _. (held, inl refl, eqb-true held.koid x t)
        | false ↦ λ t l. let w = in-places e n (index + 1) rest s l in (w.0, inr w.1, w.2)
      ] refl m

  kept-message : (k : RowKey) (r : Row) (s : Support) → row S k ≡ Some r → In s (message_supports x (k, r)) → KeptBy S x
  kept-message (key.Msg e n) (rows.Msg m) s g l = let w = in-places e n 0 m.handles s l in by_message e n m w.0 (ap as_message g) w.1 w.2
  kept-message _ _ s e l = absurd l

  kept-child : (o : ObjectRow) → object S x ≡ Some o → is_live_job o ≡ true → (k : RowKey) (r : Row) (s : Support) → row S k ≡ Some r → child_support x (k, r) ≡ Some s → KeptBy S x
  kept-child o h live (key.Object y) (rows.Object c) s e g =
      let t = if_some _ _ _ g in
      by_child o y c h live (ap as_object e) (and_left _ _ t) (eqb-true c.link x (and_right (is_live_job c || is_live_process c) _ t))
  kept-child o h live _ _ s e g = cc

  kept-children : (r : Option ObjectRow) → object S x ≡ r → (s : Support) → In s (children r x S.rows) → KeptBy S x
  kept-children (Some o) h s m =
      elim (is_live_job o) as (λ b. is_live_job o ≡ b → In s (if b then filter_map (child_support x) S.rows else []) → KeptBy S x) [
        | true ↦ λ t l. let w = in-filter_map (child_support x) s S.rows l in kept-child o h t w.0.0 w.0.1 s (in-row S w.0.0 w.0.1 w.1) w.2
        | false ↦ λ t l. absurd l
      ] refl m
  kept-children None h s m = absurd m

  kept_itself : (r : Option ObjectRow) → object S x ≡ r → (s : Support) → In s (itself r x) → KeptBy S x
  kept_itself (Some o) h s m =
      elim (is_live_process o || (x == root_job)) as (λ b. (is_live_process o || (x == root_job)) ≡ b → In s (if b then support.Itself ∷ [] else []) → KeptBy S x) [
        | true ↦ λ t _. by_itself o h t
        | false ↦ λ t l. absurd l
      ] refl m
  kept_itself None h s m = absurd m

  abbrev by_entries : List Support
  by_entries = filter_map (entry_support x) S.rows

  abbrev by_messages : List Support
  by_messages = flat_map (message_supports x) S.rows

  abbrev by_children : List Support
  by_children = children (object S x) x S.rows

  kept-entries : (s : Support) → In s (by_entries ++ by_messages) → KeptBy S x
  kept-entries s m = elim (in-append s by_entries by_messages m) [
    | inl l ↦ let w = in-filter_map (entry_support x) s S.rows l in kept-entry w.0.0 w.0.1 s (in-row S w.0.0 w.0.1 w.1) w.2
    | inr l ↦ let w = in-flat_map (message_supports x) s S.rows l in kept-message w.0.0 w.0.1 s (in-row S w.0.0 w.0.1 w.1) w.2
  ]

  kept-rest : (s : Support) → In s (by_entries ++ by_messages ++ by_children) → KeptBy S x
  kept-rest s m = elim (in-append s (by_entries ++ by_messages) by_children m) [ inl l ↦ kept-entries s l | inr r ↦ kept-children (object S x) refl s r ]

  kept-all : (s : Support) → In s (by_entries ++ by_messages ++ by_children ++ itself (object S x) x) → KeptBy S x
  kept-all s m = elim (in-append s (by_entries ++ by_messages ++ by_children) (itself (object S x) x) m) [ inl l ↦ kept-rest s l | inr r ↦ kept_itself (object S x) refl s r ]

  -- what is supported is kept by something
  pub supported-kept : is_supported S x ≡ true → KeptBy S x
  unfolding is_supported support_count supports
  supported-kept e = let w = not_empty-in (by_entries ++ by_messages ++ by_children ++ itself (object S x) x) e in kept-all w.0 w.1

  -- ---- and back

  places-in : (e n index : ℕ) (hs : List Held) (held : Held) → In held hs → held.koid ≡ x → (s : Support) × In s (places x e n index hs)
  places-in e n index [] held m g = absurd m
  places-in e n index (first ∷ rest) held (inl p) g =
      let t : (first.koid == x) ≡ true = eq-eqb first.koid x (ap (λ (z : Held). z.koid) (sym p) ∙ g) in
      let there : In (support.Message e n index) (places x e n index (first ∷ rest)) = subst (λ b. In (support.Message e n index) (if b then support.Message e n index ∷ places x e n (index + 1) rest else places x e n (index + 1) rest)) (sym t) (inl refl) in
      (support.Message e n index, there)
  places-in e n index (first ∷ rest) held (inr m) g =
      let w = places-in e n (index + 1) rest held m g in
      elim (first.koid == x) as (λ b. (s : Support) × In s (if b then support.Message e n index ∷ places x e n (index + 1) rest else places x e n (index + 1) rest)) [
        | true ↦ (w.0, inr w.1)
        | false ↦ w
      ]

  kept-in : KeptBy S x → (s : Support) × In s (by_entries ++ by_messages ++ by_children ++ itself (object S x) x)
  kept-in (by_entry p h held e g) =
      let s : Support = support.Entry p h in
      (s, append-left s (by_entries ++ by_messages ++ by_children) _ (append-left s (by_entries ++ by_messages) _ (append-left s by_entries _ (filter_map-in (entry_support x) s (key.Entry p h, rows.Entry held) S.rows (row-in S _ _ (entry-row S p h held e)) (some_if (held.koid == x) s (eq-eqb held.koid x g))))))
  kept-in (by_message e n m held h l g) =
      let w = places-in e n 0 m.handles held l g in
      (w.0, append-left w.0 (by_entries ++ by_messages ++ by_children) _ (append-left w.0 (by_entries ++ by_messages) _ (append-right w.0 by_entries _ (flat_map-in (message_supports x) w.0 (key.Msg e n, rows.Msg m) S.rows (row-in S _ _ (message-row S e n m h)) w.1))))
  kept-in (by_child o y c h live d task g) =
      let s : Support = support.Child y in
      let one : child_support x (key.Object y, rows.Object c) ≡ Some s = some_if _ s (and_both (is_live_job c || is_live_process c) (c.link == x) task (eq-eqb c.link x g)) in
      let all : In s (filter_map (child_support x) S.rows) = filter_map-in (child_support x) s (key.Object y, rows.Object c) S.rows (row-in S _ _ (object-row S y c d)) one in
      let cs : In s (children (object S x) x S.rows) = subst (λ r. In s (children r x S.rows)) (sym h) (subst (λ b. In s (if b then filter_map (child_support x) S.rows else [])) (sym live) all) in
      (s, append-left s (by_entries ++ by_messages ++ by_children) _ (append-right s (by_entries ++ by_messages) _ cs))
  kept-in (by_itself o h t) =
      let s : Support = support.Itself in
      let me : In s (itself (object S x) x) = subst (λ r. In s (itself r x)) (sym h) (subst (λ b. In s (if b then support.Itself ∷ [] else [])) (sym t) (inl refl)) in
      (s, append-right s (by_entries ++ by_messages ++ by_children) _ me)

  pub kept-supported : KeptBy S x → is_supported S x ≡ true
  unfolding is_supported support_count supports
  kept-supported k = let w = kept-in k in in-not_empty w.0 (by_entries ++ by_messages ++ by_children ++ itself (object S x) x) w.1
