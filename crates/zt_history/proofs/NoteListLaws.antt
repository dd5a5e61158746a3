-- Changes as they are listed and chained: one more, one less, the last ones of a moment dropped, and the chain of an object
-- gone along from its last change.
use Rattle.std.proofs.Common.{◌≡◌, ℕ, zero, suc, ◌+◌, ◌-◌, ◌≤◌, ◌<◌, Bool, true, false, ◌&&◌, List, [], ◌∷◌, ◌⊎◌, ◌++◌, length, map, set, take, get_or, Option, Some, None, refl, sym, ◌∙◌, ap, subst, inl, inr, arith, append-nil}
use Rattle.std.specs.Prelude.{◌==◌, if◌then◌else◌, slice_get}
use Rattle.std.specs.List.{AllByRecursion}
use Rattle.std.specs.Option.{option_map}
use Rattle.std.proofs.lemmas.Bool.{cases_lt, eqb-true, eqb-false, eq-eqb, ne_eqb, true≢false}
use Rattle.std.proofs.lemmas.List.{append_assoc, flat_map_more, get_or-set_same, get_or-set_other, get_or_past, map-append, take-append-le, take_all, take_more}
use Rattle.std.proofs.lemmas.Option.{get_or_from_slice_get, none-some, same_Some, slice_get-map, slice_get_past, slice_get_read, slice_get_within}
use Rattle.std.proofs.Math.Seq.{take-append_seam, take-length}
use Rattle.zt_rows.specs.declared.keys.RowKey.{RowKey}
use Rattle.zt_rows.specs.declared.rows.Row.{Row}
use Rattle.zt_rows.specs.State.{State}
use Rattle.zt_store.specs.RecordLook.{held}
use Rattle.zt_rows.specs.Tests.{among}
use Rattle.zt_rows.proofs.ChangeLaws.{Rows}
use Rattle.zt_history.specs.declared.object_notes.note_chains.ObjectNote.{ObjectNote}
use Rattle.zt_history.specs.declared.object_notes.Sought.{Sought}
use Rattle.zt_history.specs.Tree.{Made, path}
use Rattle.zt_history.specs.TreeInvariant.{Falls}
use Rattle.zt_history.specs.ProofsOnly.Branches.{without_last}
use Rattle.zt_history.specs.ProofsOnly.ObjectNotes.{AreChained, AreLinked, AreRising, ChangeNote, HasNoneFrom, IsCut, IsLastFound, IsLonger, IsSameEnd, end_at, ends_at, is_at, is_found, is_of, last_of, note_as, note_before, note_over, note_under, notes_in, notes_under, tells}
use Rattle.zt_history.proofs.GrownLaws.{length-push}
use Rattle.zt_history.proofs.ListLaws.{get-left, get-last, length-mapped, place}
use Rattle.zt_history.proofs.PathLaws.{among-early, among-self}
use Rattle.zt_history.proofs.TreeLaws.{last_apart, without_last-push}

-- ---- the last change of an object among the first n

module _ (x : ℕ) (list : List ObjectNote) where
  pub last_of-early : (n : ℕ) → last_of x list n ≤ n
  last_of-early zero = omega arith
  last_of-early (suc n) =
      let rest = last_of-early n in
      elim (is_of x (slice_get list n)) as (λ b. (if b then suc n else last_of x list n) ≤ suc n) [
        | true ↦ omega arith
        | false ↦ omega (arith, rest)
      ]

  pub last_of-more : (more : List ObjectNote) (n : ℕ) → n ≤ length list → last_of x (list ++ more) n ≡ last_of x list n
  last_of-more more zero h = refl
  last_of-more more (suc n) h =
      let rest = last_of-more more n (omega (arith, h)) in
      let here = get-left list more n (omega (arith, h)) in
      λ j. if is_of x (here j) then suc n else rest j

  -- it is one of the object
  pub last_of-its : (n i : ℕ) → last_of x list n ≡ suc i → (i < n) × (is_of x (slice_get list i) ≡ true)
  last_of-its zero i e = absurd (omega (arith, e))
  last_of-its (suc n) i e = by (is_of x (slice_get list n)) refl e (λ e. last_of-its n i e)
    where
      by : (b : Bool) → is_of x (slice_get list n) ≡ b → (if b then suc n else last_of x list n) ≡ suc i → (last_of x list n ≡ suc i → (i < n) × (is_of x (slice_get list i) ≡ true))
          → (i < suc n) × (is_of x (slice_get list i) ≡ true)
      by true is e rest = let same : n ≡ i = omega (arith, e) in (omega (arith, same), ap (λ i. is_of x (slice_get list i)) (sym same) ∙ is)
      by false is e rest = let r = rest e in (omega (arith, r.0), r.1)

  -- and none behind it is
  pub last_of-last : (n j : ℕ) → last_of x list n ≤ j → j < n → is_of x (slice_get list j) ≡ false
  last_of-last zero j low high = absurd (omega (arith, high))
  last_of-last (suc n) j low high = by (is_of x (slice_get list n)) refl low (λ low l. last_of-last n j low l)
    where
      by : (b : Bool) → is_of x (slice_get list n) ≡ b → (if b then suc n else last_of x list n) ≤ j → (last_of x list n ≤ j → j < n → is_of x (slice_get list j) ≡ false)
          → is_of x (slice_get list j) ≡ false
      by true is low rest = absurd (omega (arith, low, high))
      by false is low rest = elim (cases_lt j n) [
        | inl l ↦ rest low l
        | inr past ↦ let same : j ≡ n = omega (arith, past, high) in ap (λ j. is_of x (slice_get list j)) same ∙ is
      ]

-- ---- one more, and one less

module _ (list : List ObjectNote) (c : ObjectNote) where
  end_is : (x : ℕ) → last_of x (list ++ c ∷ []) (suc (length list)) ≡ (if c.koid == x then suc (length list) else last_of x list (length list))
  end_is x =
      let here = get-last list c (length list) refl in
      let rest = last_of-more x list (c ∷ []) (length list) (omega arith) in
      λ j. if is_of x (here j) then suc (length list) else rest j

  whole : (x : ℕ) → last_of x (list ++ c ∷ []) (length (list ++ c ∷ [])) ≡ (if c.koid == x then suc (length list) else last_of x list (length list))
  whole x = ap (last_of x (list ++ c ∷ [])) (length-push list c) ∙ end_is x

  pub chained-push : (last : List ℕ) → AreChained list last → c.koid < length last → c.earlier ≡ end_at last c.koid → AreChained (list ++ c ∷ []) (set last c.koid (suc (length list)))
  chained-push last are within linked = record {
    earlier = λ i d at. elim (place list c i) [
      | inl l ↦
          are.earlier i d (sym (get-left list (c ∷ []) i l) ∙ at)
          ∙ sym (last_of-more d.koid list (c ∷ []) i (omega (arith, l)))
      | inr r ↦ elim r [
        | inl e ↦
            let same : c ≡ d = same_Some c d (sym (get-last list c i e) ∙ at) in
            ap (λ (d : ObjectNote). d.earlier) (sym same) ∙ linked ∙ are.ends c.koid
            ∙ sym (last_of-more c.koid list (c ∷ []) (length list) (omega arith))
            ∙ (λ j. last_of (same j).koid (list ++ c ∷ []) (sym e j))
        | inr past ↦ absurd (none-some d (sym (slice_get_past (list ++ c ∷ []) i past) ∙ at))
      ]
    ];
    ends = λ x. by x (c.koid == x) refl;
  }
    where
      by : (x : ℕ) (b : Bool) → (c.koid == x) ≡ b → end_at (set last c.koid (suc (length list))) x ≡ last_of x (list ++ c ∷ []) (length (list ++ c ∷ []))
      by x true is =
          let same : c.koid ≡ x = eqb-true c.koid x is in
          ap (λ x. get_or (set last c.koid (suc (length list))) x 0) (sym same)
          ∙ get_or-set_same last c.koid (suc (length list)) 0 within
          ∙ sym (whole x ∙ ap (λ b. if b then suc (length list) else last_of x list (length list)) is)
      by x false is =
          let other = eqb-false c.koid x is in
          get_or-set_other last c.koid x (suc (length list)) 0 (λ e. other (sym e))
          ∙ are.ends x
          ∙ sym (whole x ∙ ap (λ b. if b then suc (length list) else last_of x list (length list)) is)

  module _ (last : List ℕ) (are : AreChained (list ++ c ∷ []) last) where
    end_here : end_at last c.koid ≡ suc (length list)
    end_here = are.ends c.koid ∙ whole c.koid ∙ ap (λ b. if b then suc (length list) else last_of c.koid list (length list)) (eq-eqb c.koid c.koid refl)

    pub popped-within : c.koid < length last
    popped-within = elim (cases_lt c.koid (length last)) [
      | inl l ↦ l
      | inr past ↦ absurd (omega (arith, end_here, get_or_past last c.koid 0 past))
    ]

    pub chained-pop : AreChained list (set last c.koid c.earlier)
    chained-pop = record {
      earlier = λ i d at.
          let l : i < length list = slice_get_within list i d at in
          are.earlier i d (get-left list (c ∷ []) i l ∙ at) ∙ last_of-more d.koid list (c ∷ []) i (omega (arith, l));
      ends = λ x. by x (c.koid == x) refl;
    }
      where
        by : (x : ℕ) (b : Bool) → (c.koid == x) ≡ b → end_at (set last c.koid c.earlier) x ≡ last_of x list (length list)
        by x true is =
            let same : c.koid ≡ x = eqb-true c.koid x is in
            ap (λ x. get_or (set last c.koid c.earlier) x 0) (sym same)
            ∙ get_or-set_same last c.koid c.earlier 0 popped-within
            ∙ are.earlier (length list) c (get-last list c (length list) refl)
            ∙ last_of-more c.koid list (c ∷ []) (length list) (omega arith)
            ∙ ap (λ x. last_of x list (length list)) same
        by x false is =
            let other = eqb-false c.koid x is in
            get_or-set_other last c.koid x c.earlier 0 (λ e. other (sym e))
            ∙ are.ends x ∙ whole x ∙ ap (λ b. if b then suc (length list) else last_of x list (length list)) is

-- as a vector meets them

pub chained-pushed : (list new : List ObjectNote) (c : ObjectNote) (last : List ℕ) (k j n : ℕ) → new ≡ list ++ c ∷ [] → k ≡ c.koid → j ≡ c.koid → n ≡ length new
    → c.koid < length last → c.earlier ≡ get_or last k c.earlier → AreChained list last → AreChained new (set last j n)
chained-pushed list new c last k j n pushed here there len within read are =
    let e : c.earlier ≡ end_at last c.koid =
    sym (get_or_from_slice_get last c.koid c.earlier 0 (slice_get_read last (length last) c.koid c.earlier refl within (read ∙ ap (λ k. get_or last k c.earlier) here))) in
    let size : suc (length list) ≡ n = sym (length-push list c) ∙ ap length (sym pushed) ∙ sym len in
    subst (λ xs. AreChained xs (set last j n)) (sym pushed)
    (subst (AreChained (list ++ c ∷ [])) (λ i. set last (sym there i) (size i)) (chained-push list c last are within e))

pub chained-popped : (list new : List ObjectNote) (c : ObjectNote) (last : List ℕ) (j e : ℕ) → list ≡ new ++ c ∷ [] → j ≡ c.koid → e ≡ c.earlier → AreChained list last
    → (j < length last) × AreChained new (set last j e)
chained-popped list new c last j e apart here linked are =
    let all : AreChained (new ++ c ∷ []) last = subst (λ xs. AreChained xs last) apart are in (
      omega (arith, here, popped-within new c last all),
      subst (AreChained new) (λ i. set last (sym here i) (sym linked i)) (chained-pop new c last all),
    )

-- the changes that are listed then

pub pushed-notes : (list new : List ObjectNote) (c : ObjectNote) (old : List ChangeNote) → notes_in list ≡ old → new ≡ list ++ c ∷ [] → notes_in new ≡ old ++ note_as c ∷ []
pushed-notes list new c old was pushed = ap notes_in pushed ∙ map-append note_as list (c ∷ []) ∙ ap (λ notes. notes ++ note_as c ∷ []) was

pub popped-notes : (list new : List ObjectNote) (c : ObjectNote) → list ≡ new ++ c ∷ [] → notes_in new ≡ without_last (notes_in list)
popped-notes list new c apart =
    sym (ap without_last (ap notes_in apart ∙ map-append note_as new (c ∷ [])) ∙ without_last-push (notes_in new) (note_as c))

-- ---- the last ones of a moment

all-append : {A : Type 0} (P : A → Type 0) (xs ys : List A) → AllByRecursion P (xs ++ ys) → AllByRecursion P xs
all-append P [] ys all = tt
all-append P (x ∷ xs) ys all = (all.0, all-append P xs ys all.1)

ends-next : (m : ℕ) (n k : ChangeNote) (notes : List ChangeNote) → ends_at (n ∷ k ∷ notes) m ≡ ends_at (k ∷ notes) m
ends-next m n k notes =
    let e : length (n ∷ k ∷ notes) - 1 ≡ suc (length (k ∷ notes) - 1) = omega arith in
    ap (λ i. is_at m (slice_get (n ∷ k ∷ notes) i)) e

-- of what is all of one moment, the last is
ends-all : (m : ℕ) (n : ChangeNote) (notes : List ChangeNote) → AllByRecursion (λ n. n.moment ≡ m) (n ∷ notes) → ends_at (n ∷ notes) m ≡ true
ends-all m n [] all = eq-eqb n.moment m all.0
ends-all m n (k ∷ notes) all = ends-next m n k notes ∙ ends-all m k notes all.1

-- what is cut off of a front of other moments and an end of one moment is that end
pub cut-front : (m : ℕ) (front end new gone : List ChangeNote) → front ++ end ≡ new ++ gone → AllByRecursion (λ n. n.moment ≡ m → ⊥) front → AllByRecursion (λ n. n.moment ≡ m) end
    → AllByRecursion (λ n. n.moment ≡ m) gone → ends_at new m ≡ false → new ≡ front
cut-front m [] end [] gone same others ends went left = refl
cut-front m [] end (n ∷ new) gone same others ends went left =
    let all = all-append (λ n. n.moment ≡ m) (n ∷ new) gone (subst (AllByRecursion (λ n. n.moment ≡ m)) same ends) in
    absurd (true≢false (sym (ends-all m n new all) ∙ left))
cut-front m (f ∷ front) end [] gone same others ends went left =
    absurd (others.0 ((subst (AllByRecursion (λ n. n.moment ≡ m)) (sym same) went).0))
cut-front m (f ∷ front) end (n ∷ new) gone same others ends went left =
    let heads : n ≡ f = ap (λ xs. get_or xs 0 f) (sym same) in
    let tails : front ++ end ≡ new ++ gone = ap (λ (xs : List ChangeNote). tail xs) same in
    λ j. heads j ∷ cut-front m front end new gone tails others.1 ends went (left_of new left) j
  where
    tail : List ChangeNote → List ChangeNote
    tail [] = []
    tail (x ∷ xs) = xs

    left_of : (new : List ChangeNote) → ends_at (n ∷ new) m ≡ false → ends_at new m ≡ false
    left_of [] e = refl
    left_of (k ∷ new) e = sym (ends-next m n k new) ∙ e

ends-push : (m : ℕ) (notes : List ChangeNote) (n : ChangeNote) → ends_at (notes ++ n ∷ []) m ≡ (n.moment == m)
ends-push m notes n =
    let e : length (notes ++ n ∷ []) - 1 ≡ length notes = omega (arith, length-push notes n) in
    ap (λ i. is_at m (slice_get (notes ++ n ∷ []) i)) e ∙ ap (is_at m) (get-last notes n (length notes) refl)

pub ends-some : (m : ℕ) (notes : List ChangeNote) → ends_at notes m ≡ true → 0 < length notes
ends-some m [] e = absurd (true≢false (sym e))
ends-some m (n ∷ notes) e = omega arith

-- `now` is `old` without some last changes, all of one moment
pub record AreGone (old now : List ChangeNote) (m : ℕ) : Type 0 where
  pub gone : List ChangeNote
  pub apart : old ≡ now ++ gone
  pub each : AllByRecursion (λ n. n.moment ≡ m) gone

pub gone-none : (old : List ChangeNote) (m : ℕ) → AreGone old old m
gone-none old m = record { gone = []; apart = sym (append-nil old); each = tt }

pub gone-next : (old notes less : List ChangeNote) (m : ℕ) → ends_at notes m ≡ true → less ≡ without_last notes → AreGone old notes m → AreGone old less m
gone-next old notes less m ends fewer is =
    let apart = last_apart notes (ends-some m notes ends) in
    let n : ChangeNote = apart.0 in
    let of_m : n.moment ≡ m = eqb-true n.moment m (sym (ends-push m (without_last notes) n) ∙ sym (ap (λ notes. ends_at notes m) apart.1) ∙ ends) in
    record {
      gone = n ∷ is.gone;
      apart =
          is.apart ∙ ap (λ notes. notes ++ is.gone) apart.1
          ∙ append_assoc (without_last notes) (n ∷ []) is.gone
          ∙ ap (λ front. front ++ n ∷ is.gone) (sym fewer);
      each = (of_m, is.each);
    }

pub gone-cut : (old now : List ChangeNote) (m : ℕ) → AreGone old now m → ends_at now m ≡ false → IsCut old now m
gone-cut old now m is ends = record { gone = is.gone; apart = is.apart; each = is.each; ends = ends }

-- ---- places for koids

end-padded : (last : List ℕ) (x : ℕ) → end_at (last ++ 0 ∷ []) x ≡ end_at last x
end-padded [] zero = refl
end-padded [] (suc x) = refl
end-padded (e ∷ last) zero = refl
end-padded (e ∷ last) (suc x) = end-padded last x

pub same-padded : (old last new : List ℕ) → new ≡ last ++ 0 ∷ [] → IsSameEnd old last → IsSameEnd old new
same-padded old last new pushed same x = ap (λ xs. end_at xs x) pushed ∙ end-padded last x ∙ same x

pub same-chained : (list : List ObjectNote) (old new : List ℕ) → IsSameEnd old new → AreChained list old → AreChained list new
same-chained list old new same are = record { earlier = are.earlier; ends = λ x. same x ∙ are.ends x }

-- ---- further changes behind

pub longer-self : (list : List ChangeNote) → IsLonger list list
longer-self list = record { more = []; apart = sym (append-nil list) }

pub longer-push : (list new : List ChangeNote) (n : ChangeNote) → new ≡ list ++ n ∷ [] → IsLonger list new
longer-push list new n pushed = record { more = n ∷ []; apart = pushed }

pub longer-next : (old now new : List ChangeNote) → IsLonger old now → IsLonger now new → IsLonger old new
longer-next old now new first then_is = record {
  more = first.more ++ then_is.more;
  apart = then_is.apart ∙ ap (λ list. list ++ then_is.more) first.apart ∙ append_assoc old first.more then_is.more;
}

-- the first so many of them are those that were there
pub longer-first : (old now : List ChangeNote) (n : ℕ) → n ≡ length old → IsLonger old now → take n now ≡ old
longer-first old now n size longer = (λ j. take (size j) (longer.apart j)) ∙ take-append_seam old longer.more

-- the first so many stay where the last of more goes
pub first-left : (start list less : List ChangeNote) (n : ℕ) → n < length list → less ≡ without_last list → take n list ≡ take n start → take n less ≡ take n start
first-left start list less n more fewer same =
    let apart = last_apart list (omega (arith, more)) in
    let size : length list ≡ suc (length (without_last list)) = ap length apart.1 ∙ length-push (without_last list) apart.0 in
    ap (take n) fewer
    ∙ sym (take-append-le n (without_last list) (apart.0 ∷ []) (omega (arith, more, size)))
    ∙ sym (ap (take n) apart.1) ∙ same

pub first-all : (start list : List ChangeNote) (n : ℕ) → length list ≤ n → take n list ≡ take n start → list ≡ take n start
first-all start list n few same = sym (take_all n list few) ∙ same

-- ---- what a loop over keys notes

pub key-read : (R : Rows) (i : ℕ) (q : RowKey) → option_map (λ e. e.0) (slice_get R i) ≡ Some q → q ≡ get_or (map (λ e. e.0) R) i q
key-read R i q there = sym (get_or_from_slice_get (map (λ e. e.0) R) i q q (slice_get-map (λ (e : RowKey × Option Row). e.0) R i ∙ there))

-- what is noted of a key is by the row that the record has under it
pub by-row : (m : ℕ) (R : Rows) (T : State) (q : RowKey) (r : Option Row) → held R q ≡ Some r → note_before m r T q ≡ note_under m R T q
by-row m R T q r e = ap (λ h. note_over m h T q) (sym e)

pub notes-next : (m : ℕ) (R : Rows) (T : State) (keys : List RowKey) (i : ℕ) (q : RowKey) (start now new : List ChangeNote) → i < length keys → q ≡ get_or keys i q
    → now ≡ start ++ notes_under m R T (take i keys) → new ≡ now ++ note_under m R T q → new ≡ start ++ notes_under m R T (take (i + 1) keys)
notes-next m R T keys i q start now new within read now_is new_is =
    new_is ∙ ap (λ xs. xs ++ note_under m R T q) now_is ∙ flat_map_more (note_under m R T) start (take i keys) q
    ∙ ap (λ ks. start ++ notes_under m R T ks) (sym (take_more keys i q within ∙ ap (λ k. take i keys ++ k ∷ []) (sym read)))

pub notes-all : (m : ℕ) (R : Rows) (T : State) (keys : List RowKey) (i : ℕ) (start now : List ChangeNote) → i ≡ length keys → now ≡ start ++ notes_under m R T (take i keys)
    → now ≡ start ++ notes_under m R T keys
notes-all m R T keys i start now whole is = is ∙ ap (λ ks. start ++ notes_under m R T ks) (ap (λ i. take i keys) whole ∙ take-length keys)

-- ---- gone along the chain of an object

-- from the place before `next` on, of the object x, for a moment on the path to `at`: the changes behind were none that is
-- looked for
pub record IsSearched (list : List ObjectNote) (made : List Made) (what : Sought) (x at next : ℕ) : Type 0 where
  pub n : ℕ
  pub within : n ≤ length list
  pub next_is : next ≡ last_of x list n
  pub none : HasNoneFrom (notes_in list) made what x at n

pub searched-start : (list : List ObjectNote) (made : List Made) (what : Sought) (x at next : ℕ) → next ≡ last_of x list (length list) → IsSearched list made what x at next
searched-start list made what x at next is = record {
  n = length list;
  within = omega arith;
  next_is = is;
  none = λ j n past there. absurd (none-some n (sym (slice_get_past (notes_in list) j (omega (arith, past, length-mapped note_as list))) ∙ there));
}

-- nothing is left, so there is none
pub searched-none : (list : List ObjectNote) (made : List Made) (what : Sought) (x at : ℕ) → IsSearched list made what x at 0 → HasNoneFrom (notes_in list) made what x at 0
searched-none list made what x at is = λ j n low there. elim (cases_lt j is.n) [
  | inl l ↦
      let c = noted_there j n there in
      let other : is_of x (slice_get list j) ≡ false = last_of-last x list is.n j (omega (arith, is.next_is)) l in
      ap (λ n. is_found made what x at n) (sym c.2) ∙ ap (λ b. b && (tells what (note_as c.0) && among (path made at) c.0.moment)) (sym (ap (is_of x) c.1) ∙ other)
  | inr past ↦ is.none j n past there
]
  where
    noted_there : (j : ℕ) (n : ChangeNote) → slice_get (notes_in list) j ≡ Some n → (c : ObjectNote) × (slice_get list j ≡ Some c) × (note_as c ≡ n)
    noted_there j n there = by (slice_get list j) refl
      where
        by : (o : Option ObjectNote) → slice_get list j ≡ o → (c : ObjectNote) × (slice_get list j ≡ Some c) × (note_as c ≡ n)
        by None e = absurd (none-some n (sym (slice_get-map note_as list j ∙ ap (option_map note_as) e) ∙ there))
        by (Some c) e = (c, e, same_Some (note_as c) n (sym (slice_get-map note_as list j ∙ ap (option_map note_as) e) ∙ there))

-- ---- one step along it

module _ (list : List ObjectNote) (made : List Made) (what : Sought) (x at next : ℕ) (linked : AreLinked list) (is : IsSearched list made what x at next)
    (i : ℕ) (c : ObjectNote) (place_is : next ≡ suc i) (there : slice_get list i ≡ Some c) where
  its : (i < is.n) × (is_of x (slice_get list i) ≡ true)
  its = last_of-its x list is.n i (sym is.next_is ∙ place_is)

  its_koid : (c.koid == x) ≡ true
  its_koid = sym (ap (is_of x) there) ∙ its.1

  noted : slice_get (notes_in list) i ≡ Some (note_as c)
  noted = slice_get-map note_as list i ∙ ap (option_map note_as) there

  pub found_is : is_found made what x at (note_as c) ≡ (tells what (note_as c) && among (path made at) c.moment)
  found_is = ap (λ b. b && (tells what (note_as c) && among (path made at) c.moment)) its_koid

  behind : HasNoneFrom (notes_in list) made what x at (suc i)
  behind j n low at_j = elim (cases_lt j is.n) [
    | inl l ↦ other l (slice_get list j) refl
    | inr past ↦ is.none j n past at_j
  ]
    where
      other : j < is.n → (o : Option ObjectNote) → slice_get list j ≡ o → is_found made what x at n ≡ false
      other l None e = absurd (none-some n (sym (slice_get-map note_as list j ∙ ap (option_map note_as) e) ∙ at_j))
      other l (Some d) e =
          let same : note_as d ≡ n = same_Some (note_as d) n (sym (slice_get-map note_as list j ∙ ap (option_map note_as) e) ∙ at_j) in
          let no : is_of x (slice_get list j) ≡ false = last_of-last x list is.n j (omega (arith, is.next_is, place_is, low)) l in
          ap (λ n. is_found made what x at n) (sym same)
          ∙ ap (λ b. b && (tells what (note_as d) && among (path made at) d.moment)) (sym (ap (is_of x) e) ∙ no)

  pub searched-found : (tells what (note_as c) && among (path made at) c.moment) ≡ true → IsLastFound (notes_in list) made what x at c.moment
  searched-found both = record {
    place = i;
    note = note_as c;
    there = noted;
    at_moment = refl;
    found = found_is ∙ both;
    last = behind;
  }

  pub searched-next : (tells what (note_as c) && among (path made at) c.moment) ≡ false → IsSearched list made what x at c.earlier
  searched-next not_both = record {
    n = i;
    within = omega (arith, its.0, is.within);
    next_is = linked i c there ∙ ap (λ x. last_of x list i) (eqb-true c.koid x its_koid);
    none = λ j n low at_j. elim (cases_lt i j) [
      | inl l ↦ behind j n l at_j
      | inr h ↦
          let same : j ≡ i = omega (arith, low, h) in
          let k : note_as c ≡ n = same_Some (note_as c) n (sym noted ∙ ap (slice_get (notes_in list)) (sym same) ∙ at_j) in
          ap (λ n. is_found made what x at n) (sym k) ∙ found_is ∙ not_both
    ];
  }

  pub searched-less : c.earlier < next
  searched-less = omega (arith, linked i c there, last_of-early c.koid list i, place_is)

-- a change is of a moment on the path where the last moment there that is no later is its own
pub on_path : (list : List ObjectNote) (made : List Made) → Falls made → AreRising (notes_in list) → (at i : ℕ) (c : ObjectNote) → slice_get list i ≡ Some c → (nearer : ℕ) → nearer ≤ c.moment
    → ((m : ℕ) → m ≤ c.moment → among (path made nearer) m ≡ among (path made at) m) → among (path made at) c.moment ≡ (nearer == c.moment)
on_path list made falls rising at i c there nearer early near = sym (near c.moment (omega arith)) ∙ stands nearer refl (cases_lt nearer c.moment)
  where
    noted : slice_get (notes_in list) i ≡ Some (note_as c)
    noted = slice_get-map note_as list i ∙ ap (option_map note_as) there

    stands : (m : ℕ) → nearer ≡ m → (nearer < c.moment) ⊎ (c.moment ≤ nearer) → among (path made nearer) c.moment ≡ (nearer == c.moment)
    stands m e (inl l) = off (among (path made nearer) c.moment) refl ∙ sym (ne_eqb nearer c.moment (λ e. omega (arith, e, l)))
      where
        off : (b : Bool) → among (path made nearer) c.moment ≡ b → among (path made nearer) c.moment ≡ false
        off true on = absurd (omega (arith, among-early made falls nearer c.moment on, l))
        off false on = on
    stands zero e (inr g) = absurd (omega (arith, e, g, rising.some i (note_as c) noted))
    stands (suc k) e (inr g) =
        let same : c.moment ≡ suc k = omega (arith, e, g, early) in
        (λ j. among (path made (e j)) (same j)) ∙ among-self made falls k ∙ sym (eq-eqb nearer c.moment (e ∙ sym same))
