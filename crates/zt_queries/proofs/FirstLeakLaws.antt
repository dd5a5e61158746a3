-- From which place of a path on an object is leaked: behind a place at which it is leaked it is leaked or gone, so that it
-- is leaked never where it is not at the last place at which it is there, and any place behind which it is leaked is the
-- only one. And what tells without a search that it is not leaked.
use Rattle.std.proofs.Common.{◌≡◌, ◌≤◌, ◌<◌, ℕ, zero, suc, ◌+◌, Bool, true, false, not, ◌&&◌, ◌||◌, inl, inr, List, [], ◌∷◌, length, take, get_or, refl, sym, ap, ◌∙◌, subst, arith}
use Rattle.std.specs.Prelude.{Option, None, Some, filter, slice_get, ◌==◌, unwrap_or}
use Rattle.std.specs.List.{last_or}
use Rattle.std.proofs.lemmas.Bool.{cases_lt, eqb-true, eq-eqb}
use Rattle.std.proofs.lemmas.Map.Keys.{any_passes_from_place}
use Rattle.std.proofs.lemmas.Option.{slice_get_read, slice_get_within}
use Rattle.std.proofs.Math.Seq.{take-length}
use Rattle.zt_rows.specs.declared.calls.Happening.TheVariants as happening
use Rattle.zt_rows.specs.declared.keys.RowKey.{RowKey}
use Rattle.zt_rows.specs.declared.keys.RowKey.TheVariants as key
use Rattle.zt_rows.specs.declared.rows.Held.{Held}
use Rattle.zt_rows.specs.declared.rows.ObjectRow.{ObjectRow}
use Rattle.zt_rows.specs.declared.rows.Row.{Row}
use Rattle.zt_rows.specs.Opening.{opening}
use Rattle.zt_rows.specs.Reads.{on_object, is_live_process, object, entry, has_live_process}
use Rattle.zt_rows.specs.State.{State, row, put}
use Rattle.zt_rows.specs.Support.{root_job}
use Rattle.zt_rows.specs.Tests.{among, exists}
use Rattle.zt_rows.specs.Consistent.{IsConsistent}
use Rattle.zt_rows.proofs.OpeningLaws.{opening-consistent, of_both}
use Rattle.zt_rows.proofs.ReadLaws.{some-exists}
use Rattle.zt_rows.proofs.RowLaws.{true≢false, not_true, and_right, and_both}
use Rattle.zt_store.specs.RecordLook.{held}
use Rattle.zt_history.specs.TreeInvariant.{recorded_at}
use Rattle.zt_history.specs.Timeline.{Timeline}
use Rattle.zt_history.specs.Tree.{Made, made_at, parent_at, end_of, state_at}
use Rattle.zt_history.proofs.ListLaws.{get-within}
use Rattle.zt_history.proofs.PathLaws.{path-end}
use Rattle.zt_history.proofs.RunLaws.{state-opening}
use Rattle.zt_history.proofs.WayLaws as ways
use Rattle.zt_queries.specs.Happenings.{leaked, IsCallStep}
use Rattle.zt_queries.specs.Leaks.{is_leaked}
use Rattle.zt_queries.specs.Reachability.{reached}
use Rattle.zt_queries.specs.HappeningTimes.{at_moment}
use Rattle.zt_history.specs.RowHappenings.{is_there}
use Rattle.zt_queries.specs.ProofsOnly.RowHappenings.{row_over, AreWays}
use Rattle.zt_queries.specs.ProofsOnly.FirstLeak.{state_after, IsLast, IsFirstLeak, keeps_itself, is_sure, entry_names, names_object, names_in, has_none, HoldsRowsOf}
use Rattle.zt_queries.proofs.LeakLaws.{leaked-lost}
use Rattle.zt_queries.proofs.OnceLaws.{has_leaked, leaked-begins, leaked-goes-on, next-consistent, leaked-exists}
use Rattle.zt_queries.proofs.ReachLaws.{entry-reached}
use Rattle.zt_queries.proofs.TreeTimes.{next-made, once, among-filter}
use Rattle.zt_queries.proofs.WayLaws.{way-end, way-parent, way-made, back-over}

-- ---- what tells that an object is not leaked

pub gone-unleaked : (S : State) (x : ℕ) → exists S x ≡ false → is_leaked S x ≡ false
gone-unleaked S x gone = not_true (is_leaked S x) (λ t. true≢false (exists S x) (leaked-exists S x t) gone)

sure-by : (S : State) (x : ℕ) (o : ObjectRow) → object S x ≡ Some o → (x == root_job) ≡ false → on_object is_live_process (object S x) ≡ false → keeps_itself (object S x) x ≡ false
sure-by S x o there other ended =
    ap (λ q. keeps_itself q x) there ∙ ap (λ b. b || is_live_process o) other ∙ ap (on_object is_live_process) (sym there) ∙ ended

pub sure-unleaked : (S : State) (x : ℕ) → is_sure (row S (key.Object x)) x ≡ true → is_leaked S x ≡ false
sure-unleaked S x sure = not_true (is_leaked S x) (λ t.
    let lost = leaked-lost S x t in
    let w = some-exists S x lost.there in
    true≢false (is_sure (row S (key.Object x)) x) sure (sure-by S x w.0 w.1 lost.not_root lost.not_running))

pub reached-unleaked : (S : State) (x : ℕ) → among (reached S) x ≡ true → is_leaked S x ≡ false
reached-unleaked S x known = not_true (is_leaked S x) (λ t. true≢false (among (reached S) x) known (leaked-lost S x t).unreached)

entered-reached : (S : State) (x p h : ℕ) (o : Option Held) → entry S p h ≡ o → entry_names o x ≡ true → among (reached S) x ≡ true
entered-reached S x p h (Some held) there named = ap (among (reached S)) (sym (eqb-true held.koid x named)) ∙ entry-reached S p h held there
entered-reached S x p h None there named = cc

pub named-reached : (S : State) (k : RowKey) (x : ℕ) → names_object k (row S k) x ≡ true → among (reached S) x ≡ true
named-reached S (key.Entry p h) x named = entered-reached S x p h (entry S p h) refl named
named-reached S key.Counters x named = cc
named-reached S (key.Object y) x named = cc
named-reached S (key.Msg e n) x named = cc
named-reached S (key.Packet p n) x named = cc
named-reached S (key.Wait n) x named = cc

pub named-unleaked : (S : State) (k : RowKey) (x : ℕ) → names_object k (row S k) x ≡ true → is_leaked S x ≡ false
named-unleaked S k x named = reached-unleaked S x (named-reached S k x named)

-- ---- the opening

at-opening : (x : ℕ) (o : ObjectRow) → object opening x ≡ Some o → is_leaked opening x ≡ true → ⊥
unfolding row put
at-opening x o there = of_both (λ y p. is_leaked opening y ≡ true → ⊥)
    (λ t. true≢false (1024 == root_job) refl (leaked-lost opening 1024 t).not_root)
    (λ t. true≢false (has_live_process opening 1025) refl (leaked-lost opening 1025 t).not_running) x o there

pub opening-unleaked : (x : ℕ) → is_leaked opening x ≡ false
opening-unleaked x = not_true (is_leaked opening x) (λ t. let w = some-exists opening x (leaked-exists opening x t) in at-opening x w.0 w.1 t)

pub first-unleaked : (made : List Made) (way : List ℕ) (x : ℕ) → is_leaked (state_after made way 0) x ≡ false
first-unleaked made way x = ap (λ S. is_leaked S x) (state-opening made) ∙ opening-unleaked x

-- ---- lists

pub take-front : (n i : ℕ) (xs : List ℕ) → i ≤ n → take i (take n xs) ≡ take i xs
take-front n zero xs h = refl
take-front zero (suc i) xs h = absurd (omega (arith, h))
take-front (suc n) (suc i) [] h = refl
take-front (suc n) (suc i) (x ∷ xs) h = ap (λ l. x ∷ l) (take-front n i xs (omega (arith, h)))

none-last : (test : ℕ → Bool) (xs : List ℕ) → ((i q : ℕ) → slice_get xs i ≡ Some q → test q ≡ false) → last_or None (filter test xs) ≡ None
none-last test [] h = refl
none-last test (x ∷ xs) h = rw (h 0 x refl) (none-last test xs (λ i q e. h (suc i) q e))

pub one-last : (xs : List ℕ) (q : ℕ) → length xs ≤ 1 → among xs q ≡ true → last_or None xs ≡ Some q
one-last [] q few h = cc
one-last (x ∷ []) q few h = by (x == q) refl
  where
    by : (b : Bool) → (x == q) ≡ b → last_or None (x ∷ []) ≡ Some q
    by true e = ap Some (eqb-true x q e)
    by false e = absurd (true≢false (among (x ∷ []) q) h (ap (λ c. c || false) e))
one-last (x ∷ y ∷ xs) q few h = absurd (omega (arith, few))

-- ---- along the way

module _ (h : Timeline) (way here : List ℕ) (shared : ℕ) (w : AreWays h way here shared) where
  abbrev at : ℕ → State
  at i = state_after h.tree.made way i

  pub shared-state : (i : ℕ) → i ≤ shared → state_after h.tree.made here i ≡ state_after h.tree.made way i
  shared-state i low =
      ap (λ l. state_at h.tree.made (end_of l)) (sym (take-front shared i here low) ∙ ap (take i) (sym w.fork.same) ∙ take-front shared i way low)

  -- the last place of the path to the position is the position
  pub position-state : (i : ℕ) → i ≡ length here → state_after h.tree.made here i ≡ state_at h.tree.made h.position
  position-state i whole =
      ap (λ n. state_at h.tree.made (end_of (take n here))) whole
      ∙ ap (λ l. state_at h.tree.made (end_of l)) (take-length here ∙ w.stood)
      ∙ ap (state_at h.tree.made) (path-end h.tree.made w.tree.moments.falls h.position)

  next-by : (q : ℕ) → 0 < q → (e : Made) → made_at h.tree.made q ≡ Some e → IsCallStep (state_at h.tree.made (parent_at h.tree.made q)) (state_at h.tree.made q)
  next-by zero some e there = absurd (omega (arith, some))
  next-by (suc i) some e there = next-made h.tree.made w.tree.moments (leaked 0) i e there

  before-at : (i q : ℕ) → slice_get way i ≡ Some q → state_at h.tree.made (parent_at h.tree.made q) ≡ at i
  before-at i q there = ap (state_at h.tree.made) (way-parent h.tree.made w.tree.moments.falls way w.asked i q there)

  after-at : (i q : ℕ) → slice_get way i ≡ Some q → state_at h.tree.made q ≡ at (suc i)
  after-at i q there = ap (state_at h.tree.made) (sym (way-end h.tree.made w.tree.moments.falls way w.asked i q there))

  next-at : (i : ℕ) → i < length way → IsCallStep (at i) (at (suc i))
  next-at i inside =
      let q = get-within way i inside in
      let e = way-made h.tree.made w.tree.moments.falls way w.asked i q.0 q.1 in
      subst (λ S. IsCallStep S (at (suc i))) (before-at i q.0 q.1) (
      subst (λ T. IsCallStep (state_at h.tree.made (parent_at h.tree.made q.0)) T) (after-at i q.0 q.1)
      (next-by q.0 (ways.way-later h.tree.made w.tree.moments.falls way w.asked i q.0 q.1) e.0 e.1))

  consistent-at : (i : ℕ) → i ≤ length way → IsConsistent (at i)
  consistent-at zero low = subst IsConsistent (sym (state-opening h.tree.made)) opening-consistent
  consistent-at (suc i) low = next-consistent (at i) (at (suc i)) (consistent-at i (omega (arith, low))) (next-at i (omega (arith, low)))

  goes-on : (x j i : ℕ) → i ≤ j → j ≤ length way → has_leaked x (at i) → has_leaked x (at j)
  goes-on x zero i up low p = let same : i ≡ 0 = omega (arith, up) in subst (λ n. has_leaked x (at n)) same p
  goes-on x (suc j) i up low p = elim (cases_lt i (suc j)) [
    | inl l ↦
        leaked-goes-on (at j) (at (suc j)) x (consistent-at j (omega (arith, low))) (next-at j (omega (arith, low))) (goes-on x j i (omega (arith, l)) (omega (arith, low)) p)
    | inr g ↦ let same : i ≡ suc j = omega (arith, up, g) in subst (λ n. has_leaked x (at n)) same p
  ]

  -- what it says that the object is leaked by the call of a moment
  leaks-by : (x i q : ℕ) → slice_get way i ≡ Some q → at_moment (leaked x) h.tree.made q ≡ (not (is_leaked (at i) x) && is_leaked (at (suc i)) x)
  leaks-by x i q there = (λ j. not (is_leaked (before-at i q there j) x) && is_leaked (after-at i q there j) x)

  unleaked-by : (x place : ℕ) → IsLast h.tree.made way x place → is_leaked (at place) x ≡ false → (i : ℕ) → i < length way → is_leaked (at (suc i)) x ≡ true → ⊥
  unleaked-by x place last none i inside t = elim (cases_lt place (suc i)) [
    | inl l ↦ true≢false (exists (at (suc i)) x) (leaked-exists (at (suc i)) x t) (last.gone (suc i) l (omega (arith, inside)))
    | inr g ↦
        let p : has_leaked x (at place) = goes-on x place (suc i) g last.within (leaked-begins (at (suc i)) x (consistent-at (suc i) (omega (arith, inside))) t) in
        let away : exists (at place) x ≡ false = not_true (exists (at place) x) (λ e. true≢false (is_leaked (at place) x) (p.1 e) none) in
        let first : place ≡ 0 = last.bottom away in
        absurd (omega (arith, g, first))
  ]

  -- where it is not leaked at the last place at which it is there, it never is
  pub never-leaked : (x place : ℕ) → IsLast h.tree.made way x place → is_leaked (at place) x ≡ false → None ≡ last_or None (filter (at_moment (leaked x) h.tree.made) way)
  never-leaked x place last none =
      sym (none-last (at_moment (leaked x) h.tree.made) way (λ i q there.
      not_true (at_moment (leaked x) h.tree.made q) (λ t.
      unleaked-by x place last none i (slice_get_within way i q there) (and_right (not (is_leaked (at i) x)) _ (sym (leaks-by x i q there) ∙ t)))))

  -- where it is leaked behind a place, it is so at the moment that follows there alone
  pub leaked-behind : (x i q : ℕ) → IsFirstLeak h.tree.made way x i → q ≡ get_or way i q → Some q ≡ last_or None (filter (at_moment (leaked x) h.tree.made) way)
  leaked-behind x i q first_leak read =
      let there : slice_get way i ≡ Some q = slice_get_read way (length way) i q refl first_leak.within read in
      let one : i + 1 ≡ suc i = omega arith in
      let late : is_leaked (at (suc i)) x ≡ true = ap (λ n. is_leaked (at n) x) (sym one) ∙ first_leak.after in
      let passes : at_moment (leaked x) h.tree.made q ≡ true =
      leaks-by x i q there ∙ and_both (not (is_leaked (at i) x)) _ (ap not first_leak.before) late in
      let on : among way q ≡ true = any_passes_from_place (λ m. m == q) way i q there (eq-eqb q q refl) in
      let few : length (filter (at_moment (leaked x) h.tree.made) way) ≤ 1 =
      subst (λ l. length (filter (at_moment (leaked x) h.tree.made) l) ≤ 1) (sym w.asked.is) (once h.tree.made w.tree.moments w.asked.moment w.asked.there x happening.Leaked) in
      sym (one-last (filter (at_moment (leaked x) h.tree.made) way) q few (among-filter (at_moment (leaked x) h.tree.made) way q on passes))

  -- where it is not leaked comes before where it is
  pub leaks-later : (x i j : ℕ) → i ≤ j → is_leaked (at i) x ≡ false → is_leaked (at j) x ≡ true → i < j
  leaks-later x i j up none t = elim (cases_lt i j) [
    | inl l ↦ l
    | inr g ↦ let same : i ≡ j = omega (arith, up, g) in absurd (true≢false (is_leaked (at j) x) t (ap (λ n. is_leaked (at n) x) (sym same) ∙ none))
  ]

  -- the record of a moment on the path to the position has rows of the state before
  behind-by : (o : Option (List (RowKey × Option Row))) (k : RowKey) (r s : Option Row) → row_over o k r ≡ s → row_over o k s ≡ s
  behind-by None k r s e = refl
  behind-by (Some R) k r s e = twice (held R k) r s e
    where
      twice : (q : Option (Option Row)) (r s : Option Row) → unwrap_or q r ≡ s → unwrap_or q s ≡ s
      twice None r s e = refl
      twice (Some t) r s e = e

  pub behind-here : (i q : ℕ) → i < length here → q ≡ get_or here i q → HoldsRowsOf (recorded_at h.tree.made h.position q) (state_after h.tree.made here i)
  behind-here i q inside read = record {
    same = λ k.
        behind-by (recorded_at h.tree.made h.position q) k (row (state_after h.tree.made here (i + 1)) k) (row (state_after h.tree.made here i) k)
        (back-over h way here shared w k i q (row (state_after h.tree.made here (i + 1)) k) _ (slice_get_read here (length here) i q refl inside read) refl refl);
  }

  -- ---- as loops meet them

  pub gone-down : (x place j : ℕ) (r : Option Row) (b : Bool) → place ≤ shared → r ≡ row (state_after h.tree.made here place) (key.Object x) → b ≡ is_there r → b ≡ false
      → (place < j → exists (at j) x ≡ false) → place < j + 1 → exists (at j) x ≡ false
  gone-down x place j r b low stands told none above up = elim (cases_lt place j) [
    | inl l ↦ above l
    | inr g ↦
        let same : j ≡ place = omega (arith, up, g) in
        ap (λ n. exists (at n) x) same
        ∙ ap (λ S. exists S x) (sym (shared-state place low))
        ∙ ap (λ q. is_there q) (sym stands)
        ∙ sym told ∙ none
  ]

  pub sure-here : (x place : ℕ) (r : Option Row) (b : Bool) → place ≤ shared → r ≡ row (state_after h.tree.made here place) (key.Object x) → b ≡ is_sure r x → b ≡ true → is_leaked (at place) x ≡ false
  sure-here x place r b low stands told sure =
      sure-unleaked (at place) x (ap (λ S. is_sure (row S (key.Object x)) x) (sym (shared-state place low)) ∙ ap (λ q. is_sure q x) (sym stands) ∙ sym told ∙ sure)

-- ---- what a record tells

none-held : (q : Option (Option Row)) (r : Option Row) → has_none q ≡ true → unwrap_or q r ≡ None
none-held (Some None) r h = refl
none-held (Some (Some s)) r h = cc
none-held None r h = cc

pub none-tells : (R : List (RowKey × Option Row)) (S : State) (x : ℕ) → has_none (held R (key.Object x)) ≡ true → HoldsRowsOf (Some R) S → is_leaked S x ≡ false
none-tells R S x none behind =
    gone-unleaked S x (ap (λ r. is_there r) (sym (behind.same (key.Object x)) ∙ none-held (held R (key.Object x)) (row S (key.Object x)) none))

named-held : (k : RowKey) (q : Option (Option Row)) (x : ℕ) (r : Option Row) → names_in k q x ≡ true → unwrap_or q r ≡ r → names_object k r x ≡ true
named-held k (Some s) x r h e = ap (λ t. names_object k t x) (sym e) ∙ h
named-held k None x r h e = cc

pub named-tells : (R : List (RowKey × Option Row)) (S : State) (k : RowKey) (x : ℕ) → names_in k (held R k) x ≡ true → HoldsRowsOf (Some R) S → among (reached S) x ≡ true
named-tells R S k x named behind = named-reached S k x (named-held k (held R k) x (row S k) named (behind.same k))
