-- Rows along two paths of a history: over a moment's call by its record, back from the position to the moments that both
-- share, and forth from there.
use Rattle.std.proofs.Common.{◌≡◌, ◌≤◌, ◌<◌, ℕ, zero, suc, ◌+◌, ◌-◌, Bool, true, false, ◌||◌, List, [], ◌∷◌, length, take, get_or, Option, Some, refl, sym, ap, ◌∙◌, arith, unwrap_or}
use Rattle.std.specs.Prelude.{if◌then◌else◌, slice_get, ◌==◌}
use Rattle.std.specs.Option.{option_map}
use Rattle.std.proofs.lemmas.Bool.{eqb-true, eq-eqb, true≢false}
use Rattle.std.proofs.lemmas.List.{length-take}
use Rattle.std.proofs.lemmas.Map.Keys.{any_passes_from_place}
use Rattle.std.proofs.lemmas.Option.{slice_get_within, slice_get_read}
use Rattle.std.proofs.Math.Seq.{take-length}
use Rattle.zt_rows.specs.declared.keys.RowKey.{RowKey}
use Rattle.zt_rows.specs.declared.rows.Row.{Row}
use Rattle.zt_rows.specs.Change.{before}
use Rattle.zt_rows.specs.State.{State, row}
use Rattle.zt_rows.specs.Tests.{among}
use Rattle.zt_rows.proofs.ChangeLaws.{with_rows-before, row-with_rows}
use Rattle.zt_rows.proofs.RowLaws.{not_true}
use Rattle.zt_store.specs.RecordLook.{held}
use Rattle.zt_history.specs.TreeInvariant.{Falls, record_of, recorded_at}
use Rattle.zt_history.specs.Timeline.{Timeline, IsPath}
use Rattle.zt_history.specs.Tree.{Made, made_at, parent_at, path, end_of, state_at}
use Rattle.zt_history.proofs.ListLaws.{get-within}
use Rattle.zt_history.proofs.PathLaws.{path-opening, path-end}
use Rattle.zt_history.proofs.WayLaws as ways
use Rattle.zt_queries.specs.ProofsOnly.RowHappenings.{row_over, AreWays}

-- ---- the row on the other side of a call

row-turned : (S U : State) (k : RowKey) → unwrap_or (held (before S U) k) (row U k) ≡ row S k
row-turned S U k = sym (row-with_rows U (before S U) k) ∙ ap (λ T. row T k) (with_rows-before S U)

module _ (made : List Made) (position q : ℕ) (e : Made) (there : made_at made q ≡ Some e) (k : RowKey) where
  recorded : recorded_at made position q ≡ Some (record_of made position q)
  recorded = ap (option_map (λ _. record_of made position q)) there

  pub row-back : among (path made position) q ≡ true → row_over (recorded_at made position q) k (row (state_at made q) k) ≡ row (state_at made (parent_at made q)) k
  unfolding record_of
  row-back on =
      ap (λ R. row_over R k (row (state_at made q) k)) recorded
      ∙ ap (λ b. unwrap_or (held (if b then before (state_at made (parent_at made q)) (state_at made q) else before (state_at made q) (state_at made (parent_at made q))) k) (row (state_at made q) k)) on
      ∙ row-turned (state_at made (parent_at made q)) (state_at made q) k

  pub row-forth : among (path made position) q ≡ false → row_over (recorded_at made position q) k (row (state_at made (parent_at made q)) k) ≡ row (state_at made q) k
  unfolding record_of
  row-forth off =
      ap (λ R. row_over R k (row (state_at made (parent_at made q)) k)) recorded
      ∙ ap (λ b. unwrap_or (held (if b then before (state_at made (parent_at made q)) (state_at made q) else before (state_at made q) (state_at made (parent_at made q))) k) (row (state_at made (parent_at made q)) k)) off
      ∙ row-turned (state_at made q) (state_at made (parent_at made q)) k

-- ---- places of lists

get-take : (xs : List ℕ) (n i : ℕ) → i < n → slice_get (take n xs) i ≡ slice_get xs i
get-take xs zero i h = absurd (omega (arith, h))
get-take [] (suc n) i h = refl
get-take (x ∷ xs) (suc n) zero h = refl
get-take (x ∷ xs) (suc n) (suc i) h = get-take xs n i (omega (arith, h))

among-place : (xs : List ℕ) (q : ℕ) → among xs q ≡ true → (j : ℕ) × (slice_get xs j ≡ Some q)
among-place [] q h = absurd (true≢false (sym h))
among-place (x ∷ xs) q h = by (x == q) refl (λ g. among-place xs q g)
  where
    by : (b : Bool) → (x == q) ≡ b → (among xs q ≡ true → (j : ℕ) × (slice_get xs j ≡ Some q)) → (j : ℕ) × (slice_get (x ∷ xs) j ≡ Some q)
    by true e rest = (0, ap Some (eqb-true x q e))
    by false e rest = let there = rest (sym (ap (λ b. b || among xs q) e) ∙ h) in (suc there.0, there.1)

-- ---- a path, moment by moment

module _ (made : List Made) (falls : Falls made) (way : List ℕ) (is : IsPath made way) where
  pub way-end : (i q : ℕ) → slice_get way i ≡ Some q → end_of (take (suc i) way) ≡ q
  way-end i q at = ap end_of (sym (ways.way-at made falls way is i q at)) ∙ path-end made falls q

  -- each beginning of it is a path
  front-path : (i : ℕ) → i ≤ length way → path made (end_of (take i way)) ≡ take i way
  front-path zero h = path-opening made
  front-path (suc j) h =
      let there = get-within way j (omega (arith, h)) in
      ap (path made) (way-end j there.0 there.1) ∙ ways.way-at made falls way is j there.0 there.1

  pub way-parent : (i q : ℕ) → slice_get way i ≡ Some q → parent_at made q ≡ end_of (take i way)
  way-parent i q at =
      ways.way-next made falls way is i q (end_of (take i way)) at (front-path i (omega (arith, slice_get_within way i q at)))

  pub way-made : (i q : ℕ) → slice_get way i ≡ Some q → (e : Made) × (made_at made q ≡ Some e)
  way-made i q at = by q (ways.way-later made falls way is i q at) (ways.way-within made falls way is i q at)
    where
      by : (q : ℕ) → 0 < q → q ≤ length made → (e : Made) × (made_at made q ≡ Some e)
      by zero h g = absurd (omega (arith, h))
      by (suc j) h g = get-within made j (omega (arith, g))

-- ---- two paths

module _ (h : Timeline) (way here : List ℕ) (shared : ℕ) (w : AreWays h way here shared) where
  falls : Falls h.tree.made
  falls = w.tree.moments.falls

  stands : IsPath h.tree.made here
  stands = record { moment = h.position; there = w.within; is = w.stood }

  abbrev pub at_turn : ℕ → RowKey → Option Row → Option Row
  at_turn q k r = row_over (recorded_at h.tree.made h.position q) k r

  -- a moment of the one path beyond those that both have is not on the other
  beyond : (i q : ℕ) → shared ≤ i → slice_get way i ≡ Some q → among here q ≡ false
  beyond i q far at = not_true (among here q) (λ on. apart (among-place here q on))
    where
      apart : (j : ℕ) × (slice_get here j ≡ Some q) → ⊥
      apart p =
          let a : path h.tree.made q ≡ take (suc i) way = ways.way-at h.tree.made falls way w.asked i q at in
          let b : path h.tree.made q ≡ take (suc p.0) here = ways.way-at h.tree.made falls here stands p.0 q p.1 in
          let in_way : i < length way = slice_get_within way i q at in
          let in_here : p.0 < length here = slice_get_within here p.0 q p.1 in
          let sizes : length (take (suc i) way) ≡ length (take (suc p.0) here) = ap length (sym a ∙ b) in
          let same : i ≡ p.0 = omega (arith, sizes, length-take (suc i) way, length-take (suc p.0) here) in
          let fronts : take (suc i) way ≡ take (suc i) here = sym a ∙ b ∙ ap (λ n. take (suc n) here) (sym same) in
          let at_fork : slice_get way shared ≡ slice_get here shared =
          sym (get-take way (suc i) shared (omega arith)) ∙ ap (λ l. slice_get l shared) fronts ∙ get-take here (suc i) shared (omega arith) in
          omega (arith, w.fork.no_more at_fork)

  on_here : (i q : ℕ) → slice_get here i ≡ Some q → among (path h.tree.made h.position) q ≡ true
  on_here i q at = ap (λ l. among l q) (sym w.stood) ∙ any_passes_from_place (λ m. m == q) here i q at (eq-eqb q q refl)

  next : (i : ℕ) → suc i ≡ i + 1
  next i = omega arith

  -- back over a moment on the path to the position
  pub back-over : (k : RowKey) (i q : ℕ) (r s : Option Row) → slice_get here i ≡ Some q → r ≡ row (state_at h.tree.made (end_of (take (i + 1) here))) k
      → s ≡ at_turn q k r → s ≡ row (state_at h.tree.made (end_of (take i here))) k
  back-over k i q r s at was turned =
      let made : List Made = h.tree.made in
      let e = way-made made falls here stands i q at in
      let above : end_of (take (i + 1) here) ≡ q = ap (λ n. end_of (take n here)) (sym (next i)) ∙ way-end made falls here stands i q at in
      turned
      ∙ ap (at_turn q k) (was ∙ ap (λ m. row (state_at made m) k) above)
      ∙ row-back made h.position q e.0 e.1 k (on_here i q at)
      ∙ ap (λ m. row (state_at made m) k) (way-parent made falls here stands i q at)

  -- forth over a moment that is not on it
  pub forth-over : (k : RowKey) (i q : ℕ) (r s : Option Row) → shared ≤ i → slice_get way i ≡ Some q → r ≡ row (state_at h.tree.made (end_of (take i way))) k
      → s ≡ at_turn q k r → s ≡ row (state_at h.tree.made (end_of (take (i + 1) way))) k
  forth-over k i q r s far at was turned =
      let made : List Made = h.tree.made in
      let e = way-made made falls way w.asked i q at in
      let above : q ≡ end_of (take (i + 1) way) = sym (way-end made falls way w.asked i q at) ∙ ap (λ n. end_of (take n way)) (next i) in
      let off : among (path made h.position) q ≡ false = ap (λ l. among l q) (sym w.stood) ∙ beyond i q far at in
      turned
      ∙ ap (at_turn q k) (was ∙ ap (λ m. row (state_at made m) k) (sym (way-parent made falls way w.asked i q at)))
      ∙ row-forth made h.position q e.0 e.1 k off
      ∙ ap (λ m. row (state_at made m) k) above

  -- the whole path back leads from the position
  pub at-position : (S : State) (k : RowKey) (i : ℕ) (r : Option Row) → S ≡ state_at h.tree.made h.position → i ≡ length here → r ≡ row S k → r ≡ row (state_at h.tree.made (end_of (take i here))) k
  at-position S k i r stands_at whole is =
      let end : end_of (take i here) ≡ h.position =
      ap (λ n. end_of (take n here)) whole ∙ ap end_of (take-length here ∙ w.stood) ∙ path-end h.tree.made falls h.position in
      is ∙ ap (λ T. row T k) stands_at ∙ ap (λ m. row (state_at h.tree.made m) k) (sym end)

  -- to what both share
  pub at-fork : (k : RowKey) (i : ℕ) (r : Option Row) → i ≡ shared → r ≡ row (state_at h.tree.made (end_of (take i here))) k → r ≡ row (state_at h.tree.made (end_of (take shared way))) k
  at-fork k i r there is = is ∙ ap (λ n. row (state_at h.tree.made (end_of (take n here))) k) there ∙ ap (λ l. row (state_at h.tree.made (end_of l)) k) (sym w.fork.same)

  -- a row at the last shared moment, reached along `way`, is the row there along `here`
  pub from-fork : (k : RowKey) (i : ℕ) (r : Option Row) → i ≡ shared → r ≡ row (state_at h.tree.made (end_of (take shared way))) k → r ≡ row (state_at h.tree.made (end_of (take i here))) k
  from-fork k i r there is = is ∙ ap (λ l. row (state_at h.tree.made (end_of l)) k) w.fork.same ∙ ap (λ n. row (state_at h.tree.made (end_of (take n here))) k) (sym there)

  -- ---- one step of a loop

  pub back-down : (k : RowKey) (i q : ℕ) (r s : Option Row) → 0 < i → i ≤ length here → q ≡ get_or here (i - 1) q → r ≡ row (state_at h.tree.made (end_of (take i here))) k
      → s ≡ row_over (recorded_at h.tree.made h.position q) k r → s ≡ row (state_at h.tree.made (end_of (take (i - 1) here))) k
  back-down k i q r s some inside read was turned =
      let up : i ≡ i - 1 + 1 = omega arith in
      back-over k (i - 1) q r s (slice_get_read here (length here) (i - 1) q refl (omega arith) read) (was ∙ ap (λ n. row (state_at h.tree.made (end_of (take n here))) k) up) turned

  pub forth-up : (k : RowKey) (i q : ℕ) (r s : Option Row) → shared ≤ i → i < length way → q ≡ get_or way i q → r ≡ row (state_at h.tree.made (end_of (take i way))) k
      → s ≡ row_over (recorded_at h.tree.made h.position q) k r → s ≡ row (state_at h.tree.made (end_of (take (i + 1) way))) k
  forth-up k i q r s far inside read was turned = forth-over k i q r s far (slice_get_read way (length way) i q refl inside read) was turned
