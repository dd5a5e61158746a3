-- The walk over a tree of handles, from link to link.
use Rattle.std.proofs.Common.{◌≡◌, ℕ, zero, suc, ◌+◌, ◌-◌, ◌≤◌, ◌<◌, Bool, true, false, cond, List, [], ◌∷◌, ◌++◌, length, drop, get_or, Option, Some, None, refl, sym, ◌∙◌, ap, append_assoc, arith}
use Rattle.std.specs.Prelude.{nat_lt, slice_get, reverse}
use Rattle.std.specs.Option.{option_map}
use Rattle.std.proofs.lemmas.Bool.Decides.{nat_tests}
use Rattle.std.proofs.lemmas.List.{drop_more, length-append, reverse-append}
use Rattle.std.proofs.lemmas.Option.{slice_get_read}
use Rattle.zt_lineage.specs.declared.origins.Origin.{Origin}
use Rattle.zt_lineage.specs.declared.origins.Origin.TheVariants as origins
use Rattle.zt_lineage.specs.declared.places.Place.{Place}
use Rattle.zt_lineage.specs.ProofsOnly.PlaceOrder.{is_same-equal}
use Rattle.zt_look.specs.declared.handle_tree.Firsts.{Firsts}
use Rattle.zt_look.specs.declared.handle_tree.Level.{Level}
use Rattle.zt_look.specs.declared.handle_tree.LineageStep.{LineageStep}
use Rattle.zt_look.specs.declared.handle_tree.Pending.{Pending}
use Rattle.zt_look.specs.declared.handle_tree.TreeLink.{TreeLink}
use Rattle.zt_look.specs.declared.object_handles.ObjectHandle.{ObjectHandle}
use Rattle.zt_look.specs.HandleTree.{below, came_from, depth_in, level_below}
use Rattle.zt_look.specs.ProofsOnly.TreeLinks.{first_from, first_in, link_at, links_from, pending, source, steps_at, steps_left, steps_of, visits}

-- ---- lists

drop-next : (list : List ObjectHandle) (n : ℕ) (h : ObjectHandle) (later : List ObjectHandle) → drop n list ≡ h ∷ later → (slice_get list n ≡ Some h) × (drop (suc n) list ≡ later)
drop-next [] zero h later e = cc
drop-next [] (suc n) h later e = cc
drop-next (x ∷ xs) zero h later e = (cc, cc)
drop-next (x ∷ xs) (suc n) h later e = drop-next xs n h later e

-- what stands at a number within the list
pub read-at : {A : Type 0} (xs : List A) (i : ℕ) (x : A) → true ≡ nat_lt i (length xs) → x ≡ get_or xs i x → slice_get xs i ≡ Some x
read-at xs i x within at = let low : i < length xs = grind (arith, nat_tests) in slice_get_read xs (length xs) i x refl low at

-- beyond the list there is nothing
pub read-beyond : {A : Type 0} (xs : List A) (i : ℕ) → false ≡ nat_lt i (length xs) → slice_get xs i ≡ None
read-beyond xs i beyond = let high : length xs ≤ i = grind (arith, nat_tests) in none xs i high
  where
    none : {A : Type 0} (xs : List A) (i : ℕ) → length xs ≤ i → slice_get xs i ≡ None
    none [] i h = refl
    none (x ∷ xs) zero h = absurd (omega (arith, h))
    none (x ∷ xs) (suc i) h = none xs i (omega (arith, h))

append_nil : (l : List LineageStep) → l ++ [] ≡ l
append_nil [] = refl
append_nil (x ∷ l) = ap (λ r. x ∷ r) (append_nil l)

-- what is put last is visited first
pub left-append : (list : List ObjectHandle) (xs ys : List Pending) → steps_left list (xs ++ ys) ≡ steps_left list ys ++ steps_left list xs
left-append list [] ys = sym (append_nil (steps_left list ys))
left-append list (x ∷ xs) ys =
    ap (λ l. l ++ steps_at list x) (left-append list xs ys) ∙ append_assoc (steps_left list ys) (steps_left list xs) (steps_at list x)

-- what is left, before one was taken from its end
pub left-popped : (list : List ObjectHandle) (left rest : List Pending) (next : Pending) (steps : List LineageStep) → left ≡ rest ++ next ∷ []
    → (steps ++ steps_at list next) ++ steps_left list rest ≡ steps ++ steps_left list left
left-popped list left rest next steps e =
    append_assoc steps (steps_at list next) (steps_left list rest) ∙ ap (λ l. steps ++ l) (sym (ap (steps_left list) e ∙ left-append list rest (next ∷ [])))

-- ---- what is below a place

same_source : (from : Option Place) (origin : Origin) → came_from from origin ≡ true → source origin ≡ from
same_source (Some at) (origins.From other) e = ap Some (is_same-equal other at e)
same_source (Some at) origins.Stayed e = cc
same_source (Some at) origins.Made e = cc
same_source None (origins.From other) e = cc
same_source None origins.Stayed e = refl
same_source None origins.Made e = refl

-- it begins with the first that came from there
pub below-first : (list : List ObjectHandle) (n : ℕ) (level : Level) (from : Option Place) (later : List ObjectHandle) → drop n list ≡ later
    → below later level from ≡ steps_left list (pending (first_from from n later) level)
below-first list n level from [] e = refl
below-first list n level from (h ∷ later) e = by (below-first list (suc n) level from later (drop-next list n h later e).1) (came_from from h.origin) refl
  where
    next : (slice_get list n ≡ Some h) × (drop (suc n) list ≡ later)
    next = drop-next list n h later e

    one : LineageStep
    one = record { depth = depth_in level h.place; handle = h }

    by : below later level from ≡ steps_left list (pending (first_from from (suc n) later) level) → (b : Bool) → came_from from h.origin ≡ b → below (h ∷ later) level from ≡ steps_left list (pending (first_from from n (h ∷ later)) level)
    by rest true is =
        ap (λ b. cond b (one ∷ below later (level_below (depth_in level h.place) h) (Some h.place) ++ below later level from) (below later level from)) is
        ∙ ap (λ l. one ∷ below l (level_below (depth_in level h.place) h) (Some h.place) ++ below l level from) (sym next.1)
        ∙ ap (λ o. one ∷ below (drop (suc n) list) (level_below (depth_in level h.place) h) (Some h.place) ++ below (drop (suc n) list) level o) (sym (same_source from h.origin is))
        ∙ ap (steps_of list n level) (sym next.0)
        ∙ ap (λ b. steps_left list (pending (cond b (Some n) (first_from from (suc n) later)) level)) (sym is)
    by rest false is =
        ap (λ b. cond b (one ∷ below later (level_below (depth_in level h.place) h) (Some h.place) ++ below later level from) (below later level from)) is
        ∙ rest
        ∙ ap (λ b. steps_left list (pending (cond b (Some n) (first_from from (suc n) later)) level)) (sym is)

-- ---- the links of a handle

links-at : (n i k : ℕ) (list : List ObjectHandle) → k ≡ suc (n + i) → slice_get (links_from n list) i ≡ option_map (link_at k (drop (suc i) list)) (slice_get list i)
links-at n i k [] e = refl
links-at n zero k (h ∷ later) e = let same : suc n ≡ k = omega (arith, e) in ap (λ m. Some (link_at m later h)) same
links-at n (suc i) k (h ∷ later) e = let same : k ≡ suc (suc n + i) = omega (arith, e) in links-at (suc n) i k later same

module _ (list : List ObjectHandle) (links : List TreeLink) (are : links ≡ links_from 0 list) (next : Pending) where
  abbrev i : ℕ
  i = next.index

  at : slice_get links i ≡ option_map (link_at (suc i) (drop (suc i) list)) (slice_get list i)
  at = ap (λ l. slice_get l i) are ∙ links-at 0 i (suc i) list (omega arith)

  module _ (h : ObjectHandle) (link : TreeLink) (there : slice_get list i ≡ Some h) (linked : slice_get links i ≡ Some link) where
    some_same : Some link ≡ Some (link_at (suc i) (drop (suc i) list) h) → link ≡ link_at (suc i) (drop (suc i) list) h
    some_same e = cc

    link-is : link ≡ link_at (suc i) (drop (suc i) list) h
    link-is = some_same (sym linked ∙ at ∙ ap (option_map (link_at (suc i) (drop (suc i) list))) there)

    module _ (deep : Level) (one_more : deep ≡ level_below (depth_in next.level h.place) h) (steps : List LineageStep) (old new : List Pending)
        (put : new ≡ (old ++ pending link.next next.level) ++ pending link.child deep) where
      abbrev one : LineageStep
      one = record { depth = depth_in next.level h.place; handle = h }

      children : steps_left list (pending link.child deep) ≡ below (drop (suc i) list) (level_below (depth_in next.level h.place) h) (Some h.place)
      children =
          ap (λ (l : TreeLink). steps_left list (pending l.child deep)) link-is
          ∙ sym (below-first list (suc i) deep (Some h.place) (drop (suc i) list) refl)
          ∙ ap (λ d. below (drop (suc i) list) d (Some h.place)) one_more

      siblings : steps_left list (pending link.next next.level) ≡ below (drop (suc i) list) next.level (source h.origin)
      siblings =
          ap (λ (l : TreeLink). steps_left list (pending l.next next.level)) link-is
          ∙ sym (below-first list (suc i) next.level (source h.origin) (drop (suc i) list) refl)

      abbrev C : List LineageStep
      C = below (drop (suc i) list) (level_below (depth_in next.level h.place) h) (Some h.place)

      abbrev N : List LineageStep
      N = below (drop (suc i) list) next.level (source h.origin)

      steps-here : steps_at list next ≡ one ∷ C ++ N
      steps-here = ap (steps_of list i next.level) there

      left-new : steps_left list new ≡ C ++ (N ++ steps_left list old)
      left-new =
          ap (steps_left list) put
          ∙ left-append list (old ++ pending link.next next.level) (pending link.child deep)
          ∙ ap (λ l. l ++ steps_left list (old ++ pending link.next next.level)) children
          ∙ ap (λ l. C ++ l) (left-append list old (pending link.next next.level) ∙ ap (λ l. l ++ steps_left list old) siblings)

      pub visit-some : (steps ++ one ∷ []) ++ steps_left list new ≡ (steps ++ steps_at list next) ++ steps_left list old
      visit-some =
          append_assoc steps (one ∷ []) (steps_left list new)
          ∙ ap (λ l. steps ++ (one ∷ l)) (left-new ∙ sym (append_assoc C N (steps_left list old)))
          ∙ sym (append_assoc steps (one ∷ (C ++ N)) (steps_left list old))
          ∙ ap (λ l. (steps ++ l) ++ steps_left list old) (sym steps-here)

      one-pending : (found : Option ℕ) (d : Level) → length (pending found d) ≤ 1
      one-pending None d = omega arith
      one-pending (Some n) d = omega arith

      few : length new ≤ length old + 2
      few =
          let a : length new ≡ length old + length (pending link.next next.level) + length (pending link.child deep) =
          ap length put ∙ length-append (old ++ pending link.next next.level) (pending link.child deep) ∙ ap (λ n. n + length (pending link.child deep)) (length-append old (pending link.next next.level)) in
          let b : length (pending link.next next.level) ≤ 1 = one-pending link.next next.level in
          let c : length (pending link.child deep) ≤ 1 = one-pending link.child deep in
          omega (arith, a, b, c)

      pub less-some : visits list new < visits list (old ++ next ∷ [])
      less-some =
          let a : length (steps_left list new) ≡ length C + (length N + length (steps_left list old)) =
          ap length left-new ∙ length-append C (N ++ steps_left list old) ∙ ap (λ n. length C + n) (length-append N (steps_left list old)) in
          let b : length (steps_left list (old ++ next ∷ [])) ≡ suc (length C + length N) + length (steps_left list old) =
          ap length (left-append list old (next ∷ []) ∙ ap (λ l. l ++ steps_left list old) steps-here) ∙ length-append (one ∷ C ++ N) (steps_left list old)
          ∙ ap (λ n. suc n + length (steps_left list old)) (length-append C N) in
          let c : length (old ++ next ∷ []) ≡ length old + 1 = length-append old (next ∷ []) in
          omega (arith, a, b, c, few)

  -- a number beyond the list has no steps
  pub visit-none : slice_get list i ≡ None → (steps : List LineageStep) (old : List Pending) → steps ++ steps_left list old ≡ (steps ++ steps_at list next) ++ steps_left list old
  visit-none none steps old =
      ap (λ l. l ++ steps_left list old) (sym (append_nil steps)) ∙ ap (λ l. (steps ++ l) ++ steps_left list old) (sym (ap (steps_of list i next.level) none))

  pub less-none : slice_get list i ≡ None → (old : List Pending) → visits list old < visits list (old ++ next ∷ [])
  less-none none old =
      let b : length (steps_left list (old ++ next ∷ [])) ≡ length (steps_left list old) =
      ap length (left-append list old (next ∷ []) ∙ ap (λ l. l ++ steps_left list old) (ap (steps_of list i next.level) none)) in
      let c : length (old ++ next ∷ []) ≡ length old + 1 = length-append old (next ∷ []) in
      omega (arith, b, c)

  -- a handle without links is none of the list
  pub no-links : slice_get links i ≡ None → slice_get list i ≡ None
  no-links none = by (slice_get list i) refl
    where
      clash : (l : TreeLink) → Some l ≡ None → ⊥
      clash l e = cc

      by : (o : Option ObjectHandle) → slice_get list i ≡ o → slice_get list i ≡ None
      by None e = e
      by (Some h) e = absurd (clash (link_at (suc i) (drop (suc i) list) h) (sym (at ∙ ap (option_map (link_at (suc i) (drop (suc i) list))) e) ∙ none))

-- ---- from the last handle back

module _ (list : List ObjectHandle) (k : ℕ) (h : ObjectHandle) (some : 0 < k) (within : k ≤ length list) (at : h ≡ get_or list (k - 1) h) where
  one_more : k ≡ suc (k - 1)
  one_more = omega (arith, some)

  dropped : drop (k - 1) list ≡ h ∷ drop k list
  dropped =
      let back : k - 1 + 1 ≡ k = omega (arith, some) in
      drop_more list (k - 1) h (omega (arith, some, within))
      ∙ ap (λ x. x ∷ drop (k - 1 + 1) list) (sym at)
      ∙ ap (λ n. h ∷ drop n list) back

  module _ (firsts : Firsts) (are : (from : Option Place) → first_in firsts from ≡ first_from from k (drop k list)) where
    -- the links of the handle ahead of those behind it
    pub links-back : (links : List TreeLink) (link : TreeLink) → reverse links ≡ links_from k (drop k list) → link.child ≡ first_in firsts (Some h.place)
        → link.next ≡ first_in firsts (source h.origin) → reverse (links ++ link ∷ []) ≡ links_from (k - 1) (drop (k - 1) list)
    links-back links link so_far child next =
        let here : link ≡ link_at k (drop k list) h = λ i. record { child = (child ∙ are (Some h.place)) i; next = (next ∙ are (source h.origin)) i } in
        reverse-append links (link ∷ [])
        ∙ ap (λ l. link ∷ l) so_far
        ∙ ap (λ l. l ∷ links_from k (drop k list)) here
        ∙ ap (λ n. link_at n (drop k list) h ∷ links_from n (drop k list)) one_more
        ∙ sym (ap (links_from (k - 1)) dropped)

    -- the handle is the first that came from where it came from
    pub firsts-back : (new : Firsts) → ((from : Option Place) → first_in new from ≡ cond (came_from from h.origin) (Some (k - 1)) (first_in firsts from))
        → (from : Option Place) → first_in new from ≡ first_from from (k - 1) (drop (k - 1) list)
    firsts-back new put from =
        put from
        ∙ ap (cond (came_from from h.origin) (Some (k - 1))) (are from)
        ∙ ap (λ n. cond (came_from from h.origin) (Some (k - 1)) (first_from from n (drop k list))) one_more
        ∙ sym (ap (first_from from (k - 1)) dropped)
