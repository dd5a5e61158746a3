-- Handles that come to places and leave them, from the end of a path back to its beginning.
use Rattle.std.proofs.Common.{◌≡◌, ℕ, zero, suc, ◌+◌, ◌-◌, ◌≤◌, ◌<◌, Bool, true, false, not, cond, ◌&&◌, ◌||◌, List, [], ◌∷◌, ◌++◌, length, map, take, drop, get_or, Option, Some, None, refl, sym, ◌∙◌, ap, subst, append_assoc, arith}
use Rattle.std.specs.Prelude.{slice_get, reverse, ◌==◌}
use Rattle.std.specs.List.{cons_option, filter_map, flat_map, list_any}
use Rattle.std.specs.Option.{option_map}
use Rattle.std.proofs.lemmas.Bool.{eqb-true}
use Rattle.std.proofs.lemmas.Bool.Decides.{nat_tests}
use Rattle.std.proofs.lemmas.List.{reverse-append, reverse-reverse}
use Rattle.std.proofs.lemmas.List.Elements.{filter_map-append}
use Rattle.std.proofs.lemmas.List.Folds.{list_any-append}
use Rattle.zt_rows.specs.declared.keys.RowKey.{RowKey}
use Rattle.zt_rows.specs.declared.keys.RowKey.TheVariants as key
use Rattle.zt_rows.specs.declared.rows.Held.{Held}
use Rattle.zt_rows.specs.declared.rows.Row.{Row}
use Rattle.zt_rows.specs.Change.{before, changed, differ_at}
use Rattle.zt_rows.specs.Contents.{MessageContent}
use Rattle.zt_rows.specs.Reads.{as_entry, as_message, message}
use Rattle.zt_rows.specs.State.{State, row}
use Rattle.zt_rows.proofs.ChangeLaws.{among-changed, same_where_not_differ}
use Rattle.zt_history.specs.Timeline.{IsPath}
use Rattle.zt_history.specs.Tree.{Made, end_of, parent_at, state_at}
use Rattle.zt_history.specs.TreeInvariant.{Falls, recorded_at}
use Rattle.zt_lineage.specs.declared.origins.Origin.TheVariants as origins
use Rattle.zt_lineage.specs.declared.places.Place.{Place}
use Rattle.zt_lineage.specs.declared.places.Place.TheVariants as place
use Rattle.zt_lineage.specs.Lives.{origin_at}
use Rattle.zt_lineage.specs.Places.{handle_in, held_at, is_same}
use Rattle.zt_lineage.specs.ProofsOnly.PlaceOrder.{is_same-self}
use Rattle.zt_look.specs.declared.object_handles.Leaving.{Leaving}
use Rattle.zt_look.specs.declared.object_handles.ObjectHandle.{ObjectHandle}
use Rattle.zt_look.specs.MessageList.{names_it}
use Rattle.zt_look.specs.ObjectHandles.{came, coming_at, comings_at, first_handle, first_place, handle_count, handles_along, holds, leaving_at, left_on, message_places, named, places_under}
use Rattle.zt_look.specs.ProofsOnly.Departures.{AreDepartures, departed, departed_in, departs, is_in}
use Rattle.zt_look.specs.ProofsOnly.RecordSides.{row_before}
use Rattle.zt_look.proofs.ChangeLaws.{keys-before, record-forth, row-turned}
use Rattle.zt_look.proofs.EventLaws.{dropped, moment-end, moment-parent}
use Rattle.zt_look.proofs.MessageLaws.{one_of}

abbrev Left : Type 0
Left = Place → Option (ℕ × Leaving)

-- ---- places of a list

both-in : (a b d : Bool) (v old : Option (ℕ × Leaving)) → cond ((a || b) && d) v old ≡ cond (b && d) v (cond (a && d) v old)
both-in true true true v old = refl
both-in true true false v old = refl
both-in true false true v old = refl
both-in true false false v old = refl
both-in false true true v old = refl
both-in false true false v old = refl
both-in false false true v old = refl
both-in false false false v old = refl

-- what leaves at some places and then at others
pub in-more : (made : List Made) (x m : ℕ) (ps qs : List Place) (at : Place) (old : Option (ℕ × Leaving))
    → departed_in made x m qs at (departed_in made x m ps at old) ≡ departed_in made x m (ps ++ qs) at old
in-more made x m ps qs at old =
    sym (
    ap (λ b. cond (b && departs made x m at) (Some (m, leaving_at made m at)) old) (list_any-append (λ other. is_same other at) ps qs)
    ∙ both-in (is_in ps at) (is_in qs at) (departs made x m at) (Some (m, leaving_at made m at)) old
    )

in-flat : (f : RowKey → List Place) (at : Place) (ks : List RowKey) → is_in (flat_map f ks) at ≡ list_any (λ k. is_in (f k) at) ks
in-flat f at [] = refl
in-flat f at (k ∷ ks) = list_any-append (λ other. is_same other at) (f k) (flat_map f ks) ∙ ap (λ b. is_in (f k) at || b) (in-flat f at ks)

or_true : (b : Bool) → (b || true) ≡ true
or_true true = refl
or_true false = refl

-- each of the first places of a message
in-places : (e n i count : ℕ) → i < count → is_in (message_places e n count) (place.Message e n i) ≡ true
in-places e n i zero h = absurd (omega (arith, h))
in-places e n i (suc c) h =
    list_any-append (λ other. is_same other (place.Message e n i)) (message_places e n c) (place.Message e n c ∷ [])
    ∙ by (in-places e n i c) (i == c) refl
  where
    less : (i == c) ≡ false → i < c
    less s = grind (arith, nat_tests)

    by : (i < c → is_in (message_places e n c) (place.Message e n i) ≡ true) → (b : Bool) → (i == c) ≡ b → (is_in (message_places e n c) (place.Message e n i) || (is_same (place.Message e n c) (place.Message e n i) || false)) ≡ true
    by rest true s =
        ap (λ j. is_in (message_places e n c) (place.Message e n i) || (is_same (place.Message e n c) (place.Message e n j) || false)) (eqb-true i c s)
        ∙ ap (λ b. is_in (message_places e n c) (place.Message e n i) || (b || false)) (is_same-self (place.Message e n c))
        ∙ or_true (is_in (message_places e n c) (place.Message e n i))
    by rest false s = ap (λ b. b || (is_same (place.Message e n c) (place.Message e n i) || false)) (rest (less s))

-- ---- a place that holds a handle

-- the key under which a place's handle is
abbrev key_of : Place → RowKey
key_of (place.Entry p h) = key.Entry p h
key_of (place.Message e n i) = key.Msg e n

-- what a place holds depends on this row alone
same_held : (S T : State) (at : Place) → row S (key_of at) ≡ row T (key_of at) → held_at S at ≡ held_at T at
same_held S T (place.Entry p h) e = ap as_entry e
same_held S T (place.Message f n i) e = ap (λ r. handle_in (as_message r) i) e

get-inside : {A : Type 0} (xs : List A) (i : ℕ) (x : A) → slice_get xs i ≡ Some x → i < length xs
get-inside [] i x e = cc
get-inside (y ∷ ys) zero x e = omega arith
get-inside (y ∷ ys) (suc i) x e = let rest : i < length ys = get-inside ys i x e in omega (arith, rest)

names-some : (x : ℕ) (o : Option Held) → names_it x o ≡ true → (held : Held) × (o ≡ Some held)
names-some x (Some held) e = (held, refl)
names-some x None e = cc

inside-count : (o : Option MessageContent) (i : ℕ) (held : Held) → handle_in o i ≡ Some held → i < handle_count o
inside-count (Some m) i held e = get-inside m.handles i held e
inside-count None i held e = cc

-- it is among the places under its key
in-under : (S : State) (x : ℕ) (at : Place) → holds x S at ≡ true → is_in (places_under S (key_of at)) at ≡ true
in-under S x (place.Entry p h) e = ap (λ b. b || false) (is_same-self (place.Entry p h))
in-under S x (place.Message f n i) e =
    let found = names-some x (held_at S (place.Message f n i)) e in
    in-places f n i (handle_count (message S f n)) (inside-count (message S f n) i found.0 found.1)

-- the handle that names the object names it
named-names : (x : ℕ) (o : Option Held) (held : Held) → named x o ≡ Some held → names_it x o ≡ true
named-names x (Some h) held e = by (h.koid == x) refl
  where
    clash : (held : Held) → None ≡ Some held → ⊥
    clash held e = cc

    by : (b : Bool) → (h.koid == x) ≡ b → (h.koid == x) ≡ true
    by true s = s
    by false s = absurd (clash held (sym (ap (λ b. cond b (Some h) None) s) ∙ e))
named-names x None held e = cc

-- ---- between two states

module _ (made : List Made) (x m : ℕ) where
  abbrev S : State
  S = state_at made (parent_at made m)

  abbrev T : State
  T = state_at made m

  left_both : (a b : Bool) → (a && b) ≡ true → a ≡ true
  left_both true b e = refl
  left_both false b e = e

  right_both : (a b : Bool) → (a && b) ≡ true → b ≡ true
  right_both true b e = e
  right_both false b e = cc

  -- where a handle leaves, the row changed
  differs : (at : Place) → departs made x m at ≡ true → differ_at T S (key_of at) ≡ true
  differs at e = by (differ_at T S (key_of at)) refl
    where
      clash : (b : Bool) → (b && not b) ≡ true → ⊥
      clash true e = cc
      clash false e = cc

      by : (b : Bool) → differ_at T S (key_of at) ≡ b → differ_at T S (key_of at) ≡ true
      by true h = h
      by false h =
          absurd (clash (holds x S at) (ap (λ o. holds x S at && not (names_it x o)) (sym (same_held T S at (same_where_not_differ T S (key_of at) h))) ∙ e))

  is-in-changed : (at : Place) → departs made x m at ≡ true → is_in (flat_map (places_under S) (changed T S)) at ≡ true
  is-in-changed at e =
      in-flat (places_under S) at (changed T S)
      ∙ one_of (λ k. is_in (places_under S k) at) (key_of at) (in-under S x at (left_both (holds x S at) (not (holds x T at)) e)) (changed T S)
      (among-changed T S (key_of at) ∙ differs at e)

  -- all that leaves is under the keys that changed
  pub in-changed : (ks : List RowKey) → ks ≡ changed T S → (at : Place) (old : Option (ℕ × Leaving))
      → departed_in made x m (flat_map (places_under S) ks) at old ≡ departed made x m at old
  in-changed ks are at old = ap (λ ks. departed_in made x m (flat_map (places_under S) ks) at old) are ∙ by (departs made x m at) refl
    where
      none : (a : Bool) → (a && false) ≡ false
      none true = refl
      none false = refl

      by : (b : Bool) → departs made x m at ≡ b → departed_in made x m (flat_map (places_under S) (changed T S)) at old ≡ departed made x m at old
      by true e = ap (λ b. cond (b && departs made x m at) (Some (m, leaving_at made m at)) old) (is-in-changed at e)
      by false e =
          ap (λ b. cond (is_in (flat_map (places_under S) (changed T S)) at && b) (Some (m, leaving_at made m at)) old) e
          ∙ ap (λ b. cond b (Some (m, leaving_at made m at)) old) (none (is_in (flat_map (places_under S) (changed T S)) at))
          ∙ sym (ap (λ b. cond b (Some (m, leaving_at made m at)) old) e)

  -- how the handles leave that are there before the call
  pub departures-over : (later : List ℕ) (old new : Left) → AreDepartures made x T later old → ((at : Place) → new at ≡ departed made x m at (old at)) → AreDepartures made x S (m ∷ later) new
  departures-over later old new are put at was = by (holds x T at) refl
    where
      gone : Option (ℕ × Leaving)
      gone = Some (m, leaving_at made m at)

      by : (b : Bool) → holds x T at ≡ b → new at ≡ left_on made x (m ∷ later) at
      by true e =
          put at
          ∙ ap (λ b. cond (b && not (holds x T at)) gone (old at)) was
          ∙ ap (λ b. cond (not b) gone (old at)) e
          ∙ are at e
          ∙ sym (ap (λ b. cond b (left_on made x later at) gone) e)
      by false e =
          put at
          ∙ ap (λ b. cond (b && not (holds x T at)) gone (old at)) was
          ∙ ap (λ b. cond (not b) gone (old at)) e
          ∙ sym (ap (λ b. cond b (left_on made x later at) gone) e)

  -- what comes is the same with all that says how handles leave that are there after the call
  module _ (left other : Left) (agree : (at : Place) → holds x T at ≡ true → left at ≡ other at) where
    came-holds : (at : Place) (held : Held) → came x S T at ≡ Some held → holds x T at ≡ true
    came-holds at held e = by (holds x S at) refl
      where
        clash : (held : Held) → None ≡ Some held → ⊥
        clash held e = cc

        by : (b : Bool) → holds x S at ≡ b → holds x T at ≡ true
        by true s = absurd (clash held (sym (ap (λ b. cond b None (named x (held_at T at))) s) ∙ e))
        by false s = named-names x (held_at T at) held (sym (ap (λ b. cond b None (named x (held_at T at))) s) ∙ e)

    abbrev made_of : Place → Option (ℕ × Leaving) → Held → ObjectHandle
    made_of at how held = record { moment = m; place = at; held = held; origin = origin_at made m at; left = how }

    same-coming : (at : Place) → coming_at left made x m at ≡ coming_at other made x m at
    same-coming at = by (came x S T at) refl
      where
        by : (o : Option Held) → came x S T at ≡ o → coming_at left made x m at ≡ coming_at other made x m at
        by None e = ap (option_map (made_of at (left at))) e ∙ sym (ap (option_map (made_of at (other at))) e)
        by (Some held) e =
            ap (λ (how : Option (ℕ × Leaving)). option_map (made_of at how) (came x S T at)) (agree at (came-holds at held e))

    same-comings : (ps : List Place) → filter_map (coming_at left made x m) ps ≡ filter_map (coming_at other made x m) ps
    same-comings [] = refl
    same-comings (p ∷ ps) =
        ap (λ o. cons_option o (filter_map (coming_at left made x m) ps)) (same-coming p) ∙ ap (cons_option (coming_at other made x m p)) (same-comings ps)

    same-all : (ks : List RowKey) → flat_map (λ k. filter_map (coming_at left made x m) (places_under T k)) ks ≡ flat_map (λ k. filter_map (coming_at other made x m) (places_under T k)) ks
    same-all [] = refl
    same-all (k ∷ ks) =
        ap (λ l. l ++ flat_map (λ k. filter_map (coming_at left made x m) (places_under T k)) ks) (same-comings (places_under T k))
        ∙ ap (λ l. filter_map (coming_at other made x m) (places_under T k) ++ l) (same-all ks)

    pub comings-agree : comings_at left made x m ≡ comings_at other made x m
    comings-agree = same-all (changed T S)

-- one more place of a message
pub push-more : (f : Place → Option ObjectHandle) (e n i : ℕ) (old now new : List ObjectHandle) → now ≡ old ++ filter_map f (message_places e n i)
    → new ≡ now ++ cons_option (f (place.Message e n i)) [] → new ≡ old ++ filter_map f (message_places e n (i + 1))
push-more f e n i old now new so_far put =
    let next : suc i ≡ i + 1 = omega arith in
    put
    ∙ ap (λ l. l ++ cons_option (f (place.Message e n i)) []) so_far
    ∙ append_assoc old (filter_map f (message_places e n i)) (cons_option (f (place.Message e n i)) [])
    ∙ ap (λ l. old ++ l) (sym (filter_map-append f (message_places e n i) (place.Message e n i ∷ [])))
    ∙ ap (λ k. old ++ filter_map f (message_places e n k)) next

-- what comes stands ahead, turned
pub turned-more : (old here : List ObjectHandle) → reverse (old ++ reverse here) ≡ here ++ reverse old
turned-more old here = reverse-append old (reverse here) ∙ ap (λ l. l ++ reverse old) (reverse-reverse here)

-- ---- a record

-- the keys of the record of a moment, for a history at its parent
pub recorded-changes : (made : List Made) → Falls made → (position m : ℕ) (R : List (RowKey × Option Row)) (ks : List RowKey) → position ≡ parent_at made m → recorded_at made position m ≡ Some R
    → ks ≡ map (λ e. e.0) R → ks ≡ changed (state_at made m) (state_at made (parent_at made m))
recorded-changes made falls position m R ks at kept are =
    are
    ∙ ap (map (λ e. e.0)) (record-forth made falls m R (sym (ap (λ p. recorded_at made p m) at) ∙ kept))
    ∙ keys-before (state_at made m) (state_at made (parent_at made m))

-- the row after the moment's call, by its record
pub recorded-row : (made : List Made) → Falls made → (position m : ℕ) (R : List (RowKey × Option Row)) (S : State) (k : RowKey) → position ≡ parent_at made m → recorded_at made position m ≡ Some R
    → S ≡ state_at made position → row_before R k (row S k) ≡ row (state_at made m) k
recorded-row made falls position m R S k at kept stands =
    ap (λ R. row_before R k (row S k)) (record-forth made falls m R (sym (ap (λ p. recorded_at made p m) at) ∙ kept))
    ∙ ap (λ S. row_before (before (state_at made m) (state_at made (parent_at made m))) k (row S k)) (stands ∙ ap (state_at made) at)
    ∙ row-turned (state_at made m) (state_at made (parent_at made m)) k

-- ---- along a path

module _ (made : List Made) (falls : Falls made) (way : List ℕ) (is : IsPath made way) (i q : ℕ) (some : 0 < i) (within : i ≤ length way) (at : q ≡ get_or way (i - 1) q) (x : ℕ) where
  -- the handles that come at the moment, ahead of those of the later moments
  pub handles-back : (left : Left) (old new : List ObjectHandle) → AreDepartures made x (state_at made (end_of (take i way))) (drop i way) left
      → reverse old ≡ handles_along made x (drop i way) → reverse new ≡ comings_at left made x q ++ reverse old → reverse new ≡ handles_along made x (drop (i - 1) way)
  handles-back left old new are so_far put =
      put
      ∙ ap (λ l. l ++ reverse old) (comings-agree made x q left (left_on made x (drop i way)) (subst (λ m. AreDepartures made x (state_at made m) (drop i way) left) (moment-end made falls way is i q some within at) are))
      ∙ ap (λ l. comings_at (left_on made x (drop i way)) made x q ++ l) so_far
      ∙ sym (ap (handles_along made x) (dropped made falls way is i q some within at))

  -- how the handles leave that are there before it
  pub departures-back : (old new : Left) → AreDepartures made x (state_at made (end_of (take i way))) (drop i way) old → ((p : Place) → new p ≡ departed made x q p (old p))
      → AreDepartures made x (state_at made (end_of (take (i - 1) way))) (drop (i - 1) way) new
  departures-back old new are put =
      subst (λ l. AreDepartures made x (state_at made (end_of (take (i - 1) way))) l new) (sym (dropped made falls way is i q some within at))
      (subst (λ m. AreDepartures made x (state_at made m) (q ∷ drop i way) new) (moment-parent made falls way is i q some within at)
      (departures-over made x q (drop i way) old new (subst (λ m. AreDepartures made x (state_at made m) (drop i way) old) (moment-end made falls way is i q some within at) are) put))

-- ---- at the opening

abbrev opened : Option (ℕ × Leaving) → Held → ObjectHandle
opened how held = record { moment = 0; place = first_place; held = held; origin = origins.Stayed; left = how }

-- the handle of the opening leaves on the whole path
pub first-agrees : (made : List Made) (x : ℕ) (way : List ℕ) (left : Left) → AreDepartures made x (state_at made 0) way left → first_handle left made x ≡ first_handle (left_on made x way) made x
first-agrees made x way left are = by (named x (held_at (state_at made 0) first_place)) refl
  where
    by : (o : Option Held) → named x (held_at (state_at made 0) first_place) ≡ o → first_handle left made x ≡ first_handle (left_on made x way) made x
    by None e = ap (option_map (opened (left first_place))) e ∙ sym (ap (option_map (opened (left_on made x way first_place))) e)
    by (Some held) e =
        ap (λ (how : Option (ℕ × Leaving)). option_map (opened how) (named x (held_at (state_at made 0) first_place)))
        (are first_place (named-names x (held_at (state_at made 0) first_place) held e))
