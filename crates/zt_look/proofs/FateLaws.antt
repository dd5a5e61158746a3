-- What the events of a path tell of each object, and what became of it.
use Rattle.std.proofs.Common.{◌≡◌, ℕ, zero, suc, ◌+◌, ◌≤◌, ◌<◌, Bool, true, false, cond, not, ◌&&◌, ◌||◌, List, [], ◌∷◌, ◌++◌, length, take, get_or, Option, Some, None, is_some, ◌⊎◌, inl, inr, refl, sym, ◌∙◌, ap, subst, arith}
use Rattle.std.specs.Prelude.{◌==◌, filter, if◌then◌else◌}
use Rattle.std.specs.List.{AllByRecursion, last_or, list_any}
use Rattle.std.specs.Option.{option_map, unwrap_or}
use Rattle.std.proofs.lemmas.Bool.{cases_lt, eqb-true, eq-eqb}
use Rattle.std.proofs.lemmas.List.{get_or_past, take_more}
use Rattle.zt_bits.specs.declared.kinds.Kind.{Kind}
use Rattle.zt_rows.specs.declared.calls.Happening.{Happening}
use Rattle.zt_rows.specs.declared.calls.Happening.TheVariants as happening
use Rattle.zt_rows.specs.declared.rows.ObjectRow.{ObjectRow}
use Rattle.zt_rows.specs.Opening.{opening}
use Rattle.zt_rows.specs.Reads.{counters, is_live, object, on_object}
use Rattle.zt_rows.specs.State.{State}
use Rattle.zt_rows.specs.Tests.{among, exists, kind_at}
use Rattle.zt_rows.proofs.OpeningLaws.{of_both}
use Rattle.zt_rows.proofs.ReadLaws.{some-exists}
use Rattle.zt_rows.proofs.RowLaws.{In, true≢false, and_right, and_both}
use Rattle.zt_history.specs.Tree.{Made, Tree, last_moment, parent_at, path, state_at}
use Rattle.zt_history.specs.TreeInvariant.{Falls, IsTree}
use Rattle.zt_history.proofs.LawsOfTrees.{tree-consistent}
use Rattle.zt_history.proofs.PathLaws.{path-opening, by_parents, among-step, among-self}
use Rattle.zt_history.proofs.RunLaws.{state-opening}
use Rattle.zt_queries.specs.Happenings.{lives}
use Rattle.zt_queries.specs.HappeningTimes.{at_moment, happens, last_on}
use Rattle.zt_queries.specs.LaterMoments.{leads_to}
use Rattle.zt_queries.specs.Leaks.{is_leaked}
use Rattle.zt_queries.proofs.FirstLeakLaws.{gone-unleaked, opening-unleaked}
use Rattle.zt_queries.proofs.StayLaws.{tree-stays}
use Rattle.zt_queries.proofs.TreeTimes.{among-filter, tree-once}
use Rattle.zt_look.specs.declared.event_list.ObjectEvent.{ObjectEvent}
use Rattle.zt_look.specs.declared.fates.Fate.{Fate}
use Rattle.zt_look.specs.declared.fates.Fate.TheVariants as fates
use Rattle.zt_look.specs.declared.fates.ObjectFate.{ObjectFate}
use Rattle.zt_look.specs.declared.fates.FateTimes.{FateTimes}
use Rattle.zt_look.specs.EventList.{AreEvents, IsEvent, happening_number, is_asked, is_told, kind_by, kind_or}
use Rattle.zt_look.specs.Fates.{AreFates, IsFate, fate_by, happening_since}
use Rattle.zt_look.specs.ProofsOnly.FatesSoFar.{AreFatesUpTo, AreFateTimes, fate_shown, fate_told, is_at, is_turn, kind_told, latest, moment_in, no_fate_times, of_fates, shown, told, fate_times, turned, turned_by}
use Rattle.zt_look.proofs.BelowLaws.{below-all, below-each, below-rising}

-- ---- the last event that passes

module _ {A : Type 0} (p : ObjectEvent → Bool) (v : ObjectEvent → A) where
  latest-push : (o : Option A) (es : List ObjectEvent) (e : ObjectEvent) → latest p v o (es ++ e ∷ []) ≡ (if p e then Some (v e) else latest p v o es)
  latest-push o [] e = refl
  latest-push o (x ∷ es) e = latest-push (if p x then Some (v x) else o) es e

  latest-some : (o : Option A) (es : List ObjectEvent) (a : A) → latest p v o es ≡ Some a → (o ≡ Some a) ⊎ ((e : ObjectEvent) × In e es × (p e ≡ true) × (v e ≡ a))
  latest-some o [] a h = inl h
  latest-some o (x ∷ es) a h = by (p x) refl (latest-some (if p x then Some (v x) else o) es a h)
    where
      by : (b : Bool) → p x ≡ b → ((if p x then Some (v x) else o) ≡ Some a) ⊎ ((e : ObjectEvent) × In e es × (p e ≡ true) × (v e ≡ a))
          → (o ≡ Some a) ⊎ ((e : ObjectEvent) × In e (x ∷ es) × (p e ≡ true) × (v e ≡ a))
      by b e (inr found) = inr (found.0, inr found.1, found.2, found.3)
      by true e (inl here) = let s : Some (v x) ≡ Some a = sym (ap (λ c. if c then Some (v x) else o) e) ∙ here in let same : v x ≡ a = cc in inr (x, inl refl, e, same)
      by false e (inl here) = inl (sym (ap (λ c. if c then Some (v x) else o) e) ∙ here)

  latest-kept : (a : A) (es : List ObjectEvent) → latest p v (Some a) es ≡ None → ⊥
  latest-kept a [] h = cc
  latest-kept a (x ∷ es) h = by (p x) refl (λ b g. latest-kept b es g)
    where
      by : (b : Bool) → p x ≡ b → ((b : A) → latest p v (Some b) es ≡ None → ⊥) → ⊥
      by true e rest = rest (v x) (sym (ap (λ c. latest p v (if c then Some (v x) else Some a) es) e) ∙ h)
      by false e rest = rest a (sym (ap (λ c. latest p v (if c then Some (v x) else Some a) es) e) ∙ h)

  latest-none : (o : Option A) (es : List ObjectEvent) → latest p v o es ≡ None → (e : ObjectEvent) → In e es → p e ≡ true → ⊥
  latest-none o [] h e m t = m
  latest-none o (x ∷ es) h e (inl s) t =
      latest-kept (v x) es (sym (ap (λ c. latest p v (if c then Some (v x) else o) es) (ap p (sym s) ∙ t)) ∙ h)
  latest-none o (x ∷ es) h e (inr m) t = latest-none (if p x then Some (v x) else o) es h e m t

-- ---- one event more

turned-is : (b : Bool) (what : Happening) (k : Kind) (m : ℕ) (t : FateTimes)
    → ◌≡◌ {A = FateTimes} (record {
      kind = if b then Some k else t.kind;
      made = if b && (happening_number what == 0) then Some m else t.made;
      ended = if b && (happening_number what == 1) then Some m else t.ended;
      leaked = if b && (happening_number what == 3) then Some m else t.leaked;
    }) (if b then turned_by what k m t else t)
turned-is false what k m t = refl
turned-is true happening.Made k m t = refl
turned-is true happening.Ended k m t = refl
turned-is true happening.PeerClosed k m t = refl
turned-is true happening.Leaked k m t = refl

abbrev times_with : Option Kind → Option ℕ → Option ℕ → Option ℕ → FateTimes
times_with k made ended leaked = record { kind = k; made = made; ended = ended; leaked = leaked }

times-push : (x : ℕ) (es : List ObjectEvent) (e : ObjectEvent) → fate_times x (es ++ e ∷ []) ≡ (if e.koid == x then turned e (fate_times x es) else fate_times x es)
times-push x es e =
    let k = latest-push (is_at x) (λ (e : ObjectEvent). e.kind) None es e in
    let made = latest-push (is_turn fates.Alive x) (λ (e : ObjectEvent). e.moment) None es e in
    let ended = latest-push (is_turn fates.Dead x) (λ (e : ObjectEvent). e.moment) None es e in
    let leaked = latest-push (is_turn fates.Leaked x) (λ (e : ObjectEvent). e.moment) None es e in
    (λ i. times_with (k i) (made i) (ended i) (leaked i)) ∙ turned-is (e.koid == x) e.what e.kind e.moment (fate_times x es)

all_times-more : (es : List ObjectEvent) (e : ObjectEvent) (old new : List FateTimes) → AreFateTimes es old
    → ((x : ℕ) → get_or new x no_fate_times ≡ (if e.koid == x then turned e (get_or old x no_fate_times) else get_or old x no_fate_times)) → AreFateTimes (es ++ e ∷ []) new
all_times-more es e old new was is x =
    is x ∙ ap (λ t. if e.koid == x then turned e t else t) (was x) ∙ sym (times-push x es e)

pub all_times-next : (es : List ObjectEvent) (i : ℕ) (e : ObjectEvent) (old new : List FateTimes) → i < length es → e ≡ get_or es i e → AreFateTimes (take i es) old
    → ((x : ℕ) → get_or new x no_fate_times ≡ (if e.koid == x then turned e (get_or old x no_fate_times) else get_or old x no_fate_times)) → AreFateTimes (take (i + 1) es) new
all_times-next es i e old new h at was is =
    let one : take (i + 1) es ≡ take i es ++ e ∷ [] = take_more es i e h ∙ ap (λ q. take i es ++ q ∷ []) (sym at) in
    subst (λ l. AreFateTimes l new) (sym one) (all_times-more (take i es) e old new was is)

-- ---- lists

all-in : {A : Type 0} (P : A → Type 0) (xs : List A) (x : A) → AllByRecursion P xs → In x xs → P x
all-in P [] x all m = absurd m
all-in P (y ∷ xs) x all (inl e) = subst P (sym e) all.0
all-in P (y ∷ xs) x all (inr m) = all-in P xs x all.1 m

any-in : (t : ObjectEvent → Bool) (xs : List ObjectEvent) → list_any t xs ≡ true → (x : ObjectEvent) × In x xs × (t x ≡ true)
any-in t [] h = cc
any-in t (y ∷ xs) h = by (t y) refl (λ g. any-in t xs g)
  where
    by : (b : Bool) → t y ≡ b → (list_any t xs ≡ true → (x : ObjectEvent) × In x xs × (t x ≡ true)) → (x : ObjectEvent) × In x (y ∷ xs) × (t x ≡ true)
    by true e rest = (y, inl refl, e)
    by false e rest = let r = rest (sym (ap (λ c. c || list_any t xs) e) ∙ h) in (r.0, inr r.1, r.2)

and_parts : (a b : Bool) → (a && b) ≡ true → (a ≡ true) × (b ≡ true)
and_parts true true h = (refl, refl)
and_parts true false h = cc
and_parts false b h = cc

or_first : (a b : Bool) → a ≡ true → (a || b) ≡ true
or_first true b h = refl
or_first false b h = cc

or_second : (a b : Bool) → b ≡ true → (a || b) ≡ true
or_second true b h = refl
or_second false b h = h

or_either : (a b : Bool) → (a || b) ≡ true → (a ≡ true) ⊎ (b ≡ true)
or_either true b h = inl refl
or_either false b h = inr h

-- ---- the last that passes

last-told : (test : ℕ → Bool) (xs : List ℕ) (n : ℕ) → length (filter test xs) ≤ 1 → among xs n ≡ true → test n ≡ true → last_or None (filter test xs) ≡ Some n
last-told test xs n few on passes = by (filter test xs) few (among-filter test xs n on passes)
  where
    by : (ys : List ℕ) → length ys ≤ 1 → among ys n ≡ true → last_or None ys ≡ Some n
    by [] few h = cc
    by (y ∷ []) few h = elim (or_either (y == n) false h) [ inl e ↦ ap Some (eqb-true y n e) | inr e ↦ absurd (true≢false false e refl) ]
    by (y ∷ z ∷ ys) few h = absurd (omega arith)

last-none : (test : ℕ → Bool) (xs : List ℕ) → ((n : ℕ) → among xs n ≡ true → test n ≡ true → ⊥) → last_or None (filter test xs) ≡ None
last-none test xs none = ap (last_or None) (empty xs none)
  where
    empty : (xs : List ℕ) → ((n : ℕ) → among xs n ≡ true → test n ≡ true → ⊥) → filter test xs ≡ []
    empty [] none = refl
    empty (x ∷ xs) none = by (test x) refl (λ f. empty xs f)
      where
        by : (b : Bool) → test x ≡ b → (((n : ℕ) → among xs n ≡ true → test n ≡ true → ⊥) → filter test xs ≡ []) → filter test (x ∷ xs) ≡ []
        by true e rest = absurd (none x (or_first (x == x) (among xs x) (eq-eqb x x refl)) e)
        by false e rest = ap (λ b. cond b (x ∷ filter test xs) (filter test xs)) e ∙ rest (λ n on. none n (or_second (x == n) (among xs n) on))

-- ---- paths

module _ (made : List Made) (falls : Falls made) where
  leads-self : (m : ℕ) → leads_to made m m ≡ true
  leads-self zero = refl
  leads-self (suc i) = or_second (0 == suc i) (among (path made (suc i)) (suc i)) (among-self made falls i)

  among-child : (i q : ℕ) → among (path made (parent_at made (suc i))) q ≡ true → among (path made (suc i)) q ≡ true
  among-child i q h = among-step made falls i q ∙ or_first (among (path made (parent_at made (suc i))) q) (suc i == q || false) h

  leads-child : (m i : ℕ) → leads_to made m (parent_at made (suc i)) ≡ true → leads_to made m (suc i) ≡ true
  leads-child m i h = elim (or_either (0 == m) (among (path made (parent_at made (suc i))) m) h) [
    | inl e ↦ or_first (0 == m) (among (path made (suc i)) m) e
    | inr e ↦ or_second (0 == m) (among (path made (suc i)) m) (among-child i m e)
  ]

  -- it is on the path to the parent, or the last
  among-either : (i q : ℕ) → among (path made (suc i)) q ≡ true → (among (path made (parent_at made (suc i))) q ≡ true) ⊎ (suc i ≡ q)
  among-either i q h = by (or_either (among (path made (parent_at made (suc i))) q) (suc i == q || false) (sym (among-step made falls i q) ∙ h))
    where
      by : (among (path made (parent_at made (suc i))) q ≡ true) ⊎ ((suc i == q || false) ≡ true) → (among (path made (parent_at made (suc i))) q ≡ true) ⊎ (suc i ≡ q)
      by (inl e) = inl e
      by (inr e) = elim (or_either (suc i == q) false e) [ inl f ↦ inr (eqb-true (suc i) q f) | inr f ↦ absurd (true≢false false f refl) ]

  none-opening : (q : ℕ) → among (path made 0) q ≡ true → ⊥
  none-opening q h = true≢false (among (path made 0) q) h (ap (λ l. among l q) (path-opening made))

  parent-leads : (at q : ℕ) → among (path made at) q ≡ true → leads_to made (parent_at made q) at ≡ true
  parent-leads at q = by_parents made falls (λ m. among (path made m) q ≡ true → leads_to made (parent_at made q) m ≡ true) (λ h. absurd (none-opening q h)) step at
    where
      step : (i : ℕ) → (among (path made (parent_at made (suc i))) q ≡ true → leads_to made (parent_at made q) (parent_at made (suc i)) ≡ true) → among (path made (suc i)) q ≡ true
          → leads_to made (parent_at made q) (suc i) ≡ true
      step i rest h = by (among-either i q h)
        where
          by : (among (path made (parent_at made (suc i))) q ≡ true) ⊎ (suc i ≡ q) → leads_to made (parent_at made q) (suc i) ≡ true
          by (inl e) = leads-child (parent_at made q) i (rest e)
          by (inr e) = subst (λ k. leads_to made (parent_at made k) (suc i) ≡ true) e (leads-child (parent_at made (suc i)) i (leads-self (parent_at made (suc i))))

  among-later : (at m q : ℕ) → leads_to made m at ≡ true → among (path made m) q ≡ true → among (path made at) q ≡ true
  among-later at m q = by_parents made falls (λ n. leads_to made m n ≡ true → among (path made m) q ≡ true → among (path made n) q ≡ true) base step at
    where
      first : (0 == m) ≡ true → among (path made m) q ≡ true → ⊥
      first e on = none-opening q (ap (λ k. among (path made k) q) (eqb-true 0 m e) ∙ on)

      base : leads_to made m 0 ≡ true → among (path made m) q ≡ true → among (path made 0) q ≡ true
      base h on = elim (or_either (0 == m) (among (path made 0) m) h) [ inl e ↦ absurd (first e on) | inr e ↦ absurd (none-opening m e) ]

      step : (i : ℕ) → (leads_to made m (parent_at made (suc i)) ≡ true → among (path made m) q ≡ true → among (path made (parent_at made (suc i))) q ≡ true) → leads_to made m (suc i) ≡ true
          → among (path made m) q ≡ true → among (path made (suc i)) q ≡ true
      step i rest h on = by (or_either (0 == m) (among (path made (suc i)) m) h)
        where
          on_path : (among (path made (parent_at made (suc i))) m ≡ true) ⊎ (suc i ≡ m) → among (path made (suc i)) q ≡ true
          on_path (inl e) = among-child i q (rest (or_second (0 == m) (among (path made (parent_at made (suc i))) m) e) on)
          on_path (inr e) = ap (λ k. among (path made k) q) e ∙ on

          by : ((0 == m) ≡ true) ⊎ (among (path made (suc i)) m ≡ true) → among (path made (suc i)) q ≡ true
          by (inl e) = absurd (first e on)
          by (inr e) = on_path (among-either i m e)

  -- what was not so at the opening, and is at a moment, began by the call of a moment before
  module _ (P : State → Bool) (not_yet : P (state_at made 0) ≡ false) where
    abbrev Begun : ℕ → Type 0
    Begun m = (q : ℕ) × (among (path made m) q ≡ true) × (P (state_at made (parent_at made q)) ≡ false) × (P (state_at made q) ≡ true)

    begun : (m : ℕ) → P (state_at made m) ≡ true → Begun m
    begun = by_parents made falls (λ m. P (state_at made m) ≡ true → Begun m) (λ e. absurd (true≢false (P (state_at made 0)) e not_yet)) step
      where
        step : (i : ℕ) → (P (state_at made (parent_at made (suc i))) ≡ true → Begun (parent_at made (suc i))) → P (state_at made (suc i)) ≡ true → Begun (suc i)
        step i rest e = by (P (state_at made (parent_at made (suc i)))) refl
          where
            by : (b : Bool) → P (state_at made (parent_at made (suc i))) ≡ b → Begun (suc i)
            by true f = let r = rest f in (r.0, among-child i r.0 r.1, r.2, r.3)
            by false f = (suc i, among-self made falls i, f, e)

    begun-on : (at m : ℕ) → leads_to made m at ≡ true → P (state_at made m) ≡ true → Begun at
    begun-on at m leads e = let b = begun m e in (b.0, among-later at m b.0 leads b.1, b.2, b.3)

-- ---- the events of a path

what-number : (a b : Happening) → happening_number a ≡ happening_number b → a ≡ b
what-number a b e = sym (same a) ∙ ap what_of e ∙ same b
  where
    what_of : ℕ → Happening
    what_of n = if n == 0 then happening.Made else if n == 1 then happening.Ended else if n == 2 then happening.PeerClosed else happening.Leaked

    same : (a : Happening) → what_of (happening_number a) ≡ a
    same happening.Made = refl
    same happening.Ended = refl
    same happening.PeerClosed = refl
    same happening.Leaked = refl

asked-turn : (f : Fate) → is_asked of_fates (happening_since f) ≡ true
asked-turn fates.Alive = refl
asked-turn fates.Leaked = refl
asked-turn fates.Dead = refl

module _ (t : Tree) (tree : IsTree t) (at : ℕ) (within : at ≤ last_moment t) (es : List ObjectEvent) (are : AreEvents t.made of_fates (path t.made at) es) where
  -- the event that is told happened on the path
  told-event : (f : Fate) (x m : ℕ) → told f x es ≡ Some m → (e : ObjectEvent) × In e es × (e.koid ≡ x) × (among (path t.made at) m ≡ true) × (at_moment (happens (happening_since f) x) t.made m ≡ true)
  told-event f x m h = by (latest-some (is_turn f x) (λ e. e.moment) None es m h)
    where
      by : (◌≡◌ {A = Option ℕ} None (Some m)) ⊎ ((e : ObjectEvent) × In e es × (is_turn f x e ≡ true) × (e.moment ≡ m))
          → (e : ObjectEvent) × In e es × (e.koid ≡ x) × (among (path t.made at) m ≡ true) × (at_moment (happens (happening_since f) x) t.made m ≡ true)
      by (inl n) = cc
      by (inr found) =
          let e : ObjectEvent = found.0 in
          let is : IsEvent t.made of_fates (path t.made at) e = all-in (IsEvent t.made of_fates (path t.made at)) es e are.each found.1 in
          let parts = and_parts (e.koid == x) (happening_number e.what == happening_number (happening_since f)) found.2 in
          let koid : e.koid ≡ x = eqb-true e.koid x parts.0 in
          let what : e.what ≡ happening_since f = what-number e.what (happening_since f) (eqb-true (happening_number e.what) (happening_number (happening_since f)) parts.1) in (
            e,
            found.1,
            koid,
            ap (among (path t.made at)) (sym found.3) ∙ is.moment,
            ap (at_moment (happens (happening_since f) x) t.made) (sym found.3)
                ∙ ap (λ w. at_moment (happens w x) t.made e.moment) (sym what)
                ∙ ap (λ k. at_moment (happens e.what k) t.made e.moment) (sym koid)
                ∙ is.happened,
          )

  -- where none is told, it does not happen
  told-none : (f : Fate) (x : ℕ) → told f x es ≡ None → (i : ℕ) → among (path t.made at) i ≡ true → at_moment (happens (happening_since f) x) t.made i ≡ true → ⊥
  told-none f x h i on here =
      let found = any-in (is_told i x (happening_since f)) es (are.all i x (happening_since f) on (asked-turn f) here) in
      latest-none (is_turn f x) (λ e. e.moment) None es h found.0 found.1 (tested found.0 found.2)
    where
      tested : (e : ObjectEvent) → is_told i x (happening_since f) e ≡ true → is_turn f x e ≡ true
      tested e h = by (e.moment == i) (e.koid == x) (happening_number e.what == happening_number (happening_since f)) h
        where
          by : (a b c : Bool) → (a && b && c) ≡ true → (b && c) ≡ true
          by true true true h = refl
          by true true false h = cc
          by true false c h = cc
          by false true c h = cc
          by false false c h = cc

  told-last : (f : Fate) (x : ℕ) → told f x es ≡ last_on (happens (happening_since f) x) t.made at
  unfolding last_on
  told-last f x = by (told f x es) refl
    where
      by : (o : Option ℕ) → told f x es ≡ o → told f x es ≡ last_or None (filter (at_moment (happens (happening_since f) x) t.made) (path t.made at))
      by (Some m) h =
          let e = told-event f x m h in
          h ∙ sym (last-told (at_moment (happens (happening_since f) x) t.made) (path t.made at) m (tree-once t tree (happening_since f) at x within) e.3 e.4)
      by None h = h ∙ sym (last-none (at_moment (happens (happening_since f) x) t.made) (path t.made at) (told-none f x h))

  -- the kind of an event is one that the object has at a moment of the path
  kind-by : (x : ℕ) (k : Kind) (e : ObjectEvent) → IsEvent t.made of_fates (path t.made at) e → kind_by t.made e.moment x ≡ Some k
      → (m : ℕ) × (leads_to t.made m at ≡ true) × (kind_at (state_at t.made m) x ≡ Some k)
  kind-by x k e is kind = either (kind_at (state_at t.made e.moment) x) refl
    where
      either : (o : Option Kind) → kind_at (state_at t.made e.moment) x ≡ o → (m : ℕ) × (leads_to t.made m at ≡ true) × (kind_at (state_at t.made m) x ≡ Some k)
      either (Some q) there = (
        e.moment,
        or_second (0 == e.moment) (among (path t.made at) e.moment) is.moment,
        there ∙ sym (ap (λ o. kind_or o (kind_at (state_at t.made (parent_at t.made e.moment)) x)) there) ∙ kind,
      )
      either None there = (
        parent_at t.made e.moment,
        parent-leads t.made tree.moments.falls at e.moment is.moment,
        sym (ap (λ o. kind_or o (kind_at (state_at t.made (parent_at t.made e.moment)) x)) there) ∙ kind,
      )

  kind-event : (x : ℕ) (k : Kind) → kind_told x es ≡ Some k → (m : ℕ) × (leads_to t.made m at ≡ true) × (kind_at (state_at t.made m) x ≡ Some k)
  kind-event x k h = by (latest-some (is_at x) (λ e. e.kind) None es k h)
    where
      by : (◌≡◌ {A = Option Kind} None (Some k)) ⊎ ((e : ObjectEvent) × In e es × (is_at x e ≡ true) × (e.kind ≡ k)) → (m : ℕ) × (leads_to t.made m at ≡ true) × (kind_at (state_at t.made m) x ≡ Some k)
      by (inl n) = cc
      by (inr found) =
          let is : IsEvent t.made of_fates (path t.made at) found.0 = all-in (IsEvent t.made of_fates (path t.made at)) es found.0 are.each found.1 in
          kind-by x k found.0 is (ap (kind_by t.made found.0.moment) (sym (eqb-true found.0.koid x found.2)) ∙ is.kind ∙ ap Some found.3)

  -- a kind is told where anything is
  kind-some : (f : Fate) (x m : ℕ) → told f x es ≡ Some m → kind_told x es ≡ None → ⊥
  kind-some f x m h none = let e = told-event f x m h in latest-none (is_at x) (λ e. e.kind) None es none e.0 e.1 (eq-eqb e.0.koid x e.2)

  -- ---- what is leaked at the end

  leaked-now : (x : ℕ) → exists (state_at t.made at) x ≡ true → is_leaked (state_at t.made at) x ≡ is_some (told fates.Leaked x es)
  leaked-now x there = by (told fates.Leaked x es) refl
    where
      by : (o : Option ℕ) → told fates.Leaked x es ≡ o → is_leaked (state_at t.made at) x ≡ is_some (told fates.Leaked x es)
      by (Some m) h =
          let e = told-event fates.Leaked x m h in
          let so : is_leaked (state_at t.made m) x ≡ true = and_right (not (is_leaked (state_at t.made (parent_at t.made m)) x)) (is_leaked (state_at t.made m) x) e.4 in
          (tree-stays t tree m at x within (or_second (0 == m) (among (path t.made at) m) e.3) so).leaked_or_gone there ∙ sym (ap is_some h)
      by None h = never (is_leaked (state_at t.made at) x) refl ∙ sym (ap is_some h)
        where
          never : (b : Bool) → is_leaked (state_at t.made at) x ≡ b → is_leaked (state_at t.made at) x ≡ false
          never false e = e
          never true e =
              let b = begun t.made tree.moments.falls (λ S. is_leaked S x) (ap (λ S. is_leaked S x) (state-opening t.made) ∙ opening-unleaked x) at e in
              absurd (told-none fates.Leaked x h b.0 b.1 (and_both (not (is_leaked (state_at t.made (parent_at t.made b.0)) x)) (is_leaked (state_at t.made b.0) x) (ap not b.2) b.3))

  -- ---- one fate

  moment-told : (f : Fate) (x : ℕ) → moment_in f (fate_times x es) ≡ told f x es
  moment-told fates.Alive x = refl
  moment-told fates.Leaked x = refl
  moment-told fates.Dead x = refl

  since-told : (f : Fate) (x : ℕ) → unwrap_or (moment_in f (fate_times x es)) 0 ≡ unwrap_or (last_on (happens (happening_since f) x) t.made at) 0
  since-told f x = ap (λ o. unwrap_or o 0) (moment-told f x ∙ told-last f x)

  fate-there : (x : ℕ) (o : ObjectRow) → object (state_at t.made at) x ≡ Some o → IsFate t.made at (fate_told x o.kind (fate_by (is_some (told fates.Leaked x es)) (is_live o.life)) (fate_times x es))
  fate-there x o there = record {
    fate =
        ap (λ b. fate_by b (is_live o.life)) (sym (leaked-now x (ap is_some there)))
        ∙ ap (fate_by (is_leaked (state_at t.made at) x)) (sym (ap (on_object (λ o. is_live o.life)) there));
    since = since-told (fate_by (is_some (told fates.Leaked x es)) (is_live o.life)) x;
    moment = at;
    upto = leads-self t.made tree.moments.falls at;
    kind = ap (option_map (λ (o : ObjectRow). o.kind)) there;
  }

  fate-gone : (x : ℕ) (k : Kind) → object (state_at t.made at) x ≡ None → kind_told x es ≡ Some k → IsFate t.made at (fate_told x k fates.Dead (fate_times x es))
  fate-gone x k gone told = let e = kind-event x k told in record {
    fate =
        ap (fate_by false) (sym (ap (on_object (λ o. is_live o.life)) gone))
        ∙ ap (λ b. fate_by b (lives (state_at t.made at) x)) (sym (gone-unleaked (state_at t.made at) x (ap is_some gone)));
    since = since-told fates.Dead x;
    moment = e.0;
    upto = e.1;
    kind = e.2;
  }

  -- ---- all fates

  module _ (S : State) (state : S ≡ state_at t.made at) (ts : List FateTimes) (all_times : AreFateTimes es ts) where
    shown-is : (x : ℕ) → shown S ts x ≡ fate_shown x (object (state_at t.made at) x) (fate_times x es)
    shown-is x = ap (λ T. fate_shown x (object T x) (get_or ts x no_fate_times)) state ∙ ap (fate_shown x (object (state_at t.made at) x)) (all_times x)

    fate-shown : (x : ℕ) (f : ObjectFate) → shown S ts x ≡ Some f → IsFate t.made at f × (f.koid ≡ x)
    fate-shown x f h = by (object (state_at t.made at) x) refl
      where
        same : (a b : ObjectFate) → Some a ≡ Some b → a ≡ b
        same a b e = cc

        gone : object (state_at t.made at) x ≡ None → (o : Option Kind) → kind_told x es ≡ o → IsFate t.made at f × (f.koid ≡ x)
        gone n (Some k) told =
            let at_f : fate_told x k fates.Dead (fate_times x es) ≡ f =
            same (fate_told x k fates.Dead (fate_times x es)) f
            (sym (shown-is x ∙ ap (λ o. fate_shown x o (fate_times x es)) n ∙ ap (option_map (λ (k : Kind). fate_told x k fates.Dead (fate_times x es))) told) ∙ h)
            in
            (subst (IsFate t.made at) at_f (fate-gone x k n told), sym (ap (λ (g : ObjectFate). g.koid) at_f))
        gone n None told =
            let never : ◌≡◌ {A = Option ObjectFate} None (Some f) =
            sym (shown-is x ∙ ap (λ o. fate_shown x o (fate_times x es)) n ∙ ap (option_map (λ (k : Kind). fate_told x k fates.Dead (fate_times x es))) told) ∙ h
            in cc

        by : (o : Option ObjectRow) → object (state_at t.made at) x ≡ o → IsFate t.made at f × (f.koid ≡ x)
        by (Some o) there =
            let at_f : fate_told x o.kind (fate_by (is_some (told fates.Leaked x es)) (is_live o.life)) (fate_times x es) ≡ f =
            same (fate_told x o.kind (fate_by (is_some (told fates.Leaked x es)) (is_live o.life)) (fate_times x es)) f
            (sym (shown-is x ∙ ap (λ o. fate_shown x o (fate_times x es)) there) ∙ h)
            in
            (subst (IsFate t.made at) at_f (fate-there x o there), sym (ap (λ (g : ObjectFate). g.koid) at_f))
        by None n = gone n (kind_told x es) refl

    -- what was there at a moment and is gone left an event
    left-event : (m x : ℕ) → leads_to t.made m at ≡ true → exists (state_at t.made m) x ≡ true → object (state_at t.made at) x ≡ None → kind_told x es ≡ None → ⊥
    left-event m x leads there gone none = by (exists (state_at t.made 0) x) refl
      where
        never : (f : Fate) (i : ℕ) → among (path t.made at) i ≡ true → at_moment (happens (happening_since f) x) t.made i ≡ true → ⊥
        never f i on here = by_told (told f x es) refl
          where
            by_told : (o : Option ℕ) → told f x es ≡ o → ⊥
            by_told (Some n) h = kind-some f x n h none
            by_told None h = told-none f x h i on here

        both : (a b : Bool) → a ≡ true → b ≡ true → (a && b) ≡ true
        both a b e f = ap (λ c. c && b) e ∙ f

        untrue : (b : Bool) → not b ≡ false → b ≡ true
        untrue true e = refl
        untrue false e = cc

        by : (b : Bool) → exists (state_at t.made 0) x ≡ b → ⊥
        by false e =
            let b = begun-on t.made tree.moments.falls (λ S. exists S x) e at m leads there in
            never fates.Alive b.0 b.1 (both (not (exists (state_at t.made (parent_at t.made b.0)) x)) (exists (state_at t.made b.0) x) (ap not b.2) b.3)
        by true e =
            let w = some-exists opening x (ap (λ S. exists S x) (sym (state-opening t.made)) ∙ e) in
            let lived : lives opening x ≡ true = ap (on_object (λ o. is_live o.life)) w.1 ∙ of_both (λ y o. is_live o.life ≡ true) refl refl x w.0 w.1 in
            let first : not (lives (state_at t.made 0) x) ≡ false = ap (λ S. not (lives S x)) (state-opening t.made) ∙ ap not lived in
            let last : not (lives (state_at t.made at) x) ≡ true = ap not (ap (on_object (λ o. is_live o.life)) gone) in
            let b = begun t.made tree.moments.falls (λ S. not (lives S x)) first at last in
            never fates.Dead b.0 b.1 (both (lives (state_at t.made (parent_at t.made b.0)) x) (not (lives (state_at t.made b.0) x)) (untrue (lives (state_at t.made (parent_at t.made b.0)) x) b.2) b.3)

    fate-of : (end m x : ℕ) → (counters S).next_koid ≤ end → length ts ≤ end → leads_to t.made m at ≡ true → exists (state_at t.made m) x ≡ true
        → (x < end) × ((f : ObjectFate) × (shown S ts x ≡ Some f))
    fate-of end m x known timed leads there = by (object (state_at t.made at) x) refl
      where
        timed_below : (k : Kind) → kind_told x es ≡ Some k → x < end
        timed_below k told = elim (cases_lt x (length ts)) [
          | inl l ↦ omega (arith, l, timed)
          | inr g ↦
              let nothing : ◌≡◌ {A = Option Kind} None (Some k) =
              ap (λ (t : FateTimes). t.kind) (sym (get_or_past ts x no_fate_times g) ∙ all_times x) ∙ told
              in cc
        ]

        gone : object (state_at t.made at) x ≡ None → (o : Option Kind) → kind_told x es ≡ o → (x < end) × ((f : ObjectFate) × (shown S ts x ≡ Some f))
        gone n (Some k) told = (
          timed_below k told,
          (
            fate_told x k fates.Dead (fate_times x es),
            shown-is x ∙ ap (λ o. fate_shown x o (fate_times x es)) n ∙ ap (option_map (λ (k : Kind). fate_told x k fates.Dead (fate_times x es))) told,
          ),
        )
        gone n None told = absurd (left-event m x leads there n told)

        by : (o : Option ObjectRow) → object (state_at t.made at) x ≡ o → (x < end) × ((f : ObjectFate) × (shown S ts x ≡ Some f))
        by (Some o) here =
            let high : x < (counters (state_at t.made at)).next_koid = ((tree-consistent t at tree within).sound.of_objects x o here).high in
            let low : (counters S).next_koid ≡ (counters (state_at t.made at)).next_koid = ap (λ S. (counters S).next_koid) state in (
              omega (arith, high, low, known),
              (fate_told x o.kind (fate_by (is_some (told fates.Leaked x es)) (is_live o.life)) (fate_times x es), shown-is x ∙ ap (λ o. fate_shown x o (fate_times x es)) here),
            )
        by None n = gone n (kind_told x es) refl

    pub fates-told : (list : List ObjectFate) → AreFatesUpTo S ts list → AreFates t.made at list
    fates-told list upto = subst (AreFates t.made at) (sym upto.is) (record {
      each = below-each (shown S ts) (IsFate t.made at) (λ x f h. (fate-shown x f h).0) upto.end;
      rising = below-rising (shown S ts) (λ (g : ObjectFate). g.koid) (λ x f h. (fate-shown x f h).1) upto.end;
      all = λ m x leads there.
          let found = fate-of upto.end m x upto.known upto.timed leads there in
          below-all (shown S ts) (λ (g : ObjectFate). g.koid) (λ x f h. (fate-shown x f h).1) upto.end x found.1.0 found.0 found.1.1;
    })
