-- An object of a kind that is gone when it ends, which was not leaked when it did, never was; nor was one that is there at the
-- end of a path and not leaked there.
use Rattle.std.proofs.Common.{◌≡◌, ◌≤◌, ◌<◌, ℕ, zero, suc, Bool, true, false, not, ◌||◌, List, [], ◌∷◌, length, inl, inr, refl, sym, ap, ◌∙◌, arith}
use Rattle.std.specs.Prelude.{Option, None, Some, filter, unwrap_or, ◌==◌}
use Rattle.std.specs.List.{last_or}
use Rattle.std.proofs.lemmas.Bool.{cases_lt, eq-eqb}
use Rattle.zt_bits.specs.declared.kinds.Kind.{Kind}
use Rattle.zt_bits.specs.declared.kinds.Kind.TheVariants as kind
use Rattle.zt_rows.specs.declared.calls.Happening.TheVariants as happening
use Rattle.zt_rows.specs.declared.keys.RowKey.{RowKey}
use Rattle.zt_rows.specs.declared.rows.Life.{Life}
use Rattle.zt_rows.specs.declared.rows.Life.TheVariants as life
use Rattle.zt_rows.specs.declared.rows.ObjectRow.{ObjectRow}
use Rattle.zt_rows.specs.declared.rows.Row.{Row}
use Rattle.zt_rows.specs.Consistent.{IsConsistent, may_be}
use Rattle.zt_rows.specs.Handles.{next_koid}
use Rattle.zt_rows.specs.Reads.{object, is_live, on_object}
use Rattle.zt_rows.specs.State.{State, row}
use Rattle.zt_rows.specs.Tests.{among, exists}
use Rattle.zt_rows.proofs.ReadLaws.{exists-some, some-exists}
use Rattle.zt_rows.proofs.RowLaws.{and_left, and_right, true≢false, not_true}
use Rattle.zt_store.specs.RecordLook.{held}
use Rattle.zt_history.specs.TreeInvariant.{AreMoments, recorded_at}
use Rattle.zt_history.specs.Tree.{Made, made_at, parent_at, path, state_at}
use Rattle.zt_history.proofs.PathLaws.{among-early}
use Rattle.zt_history.proofs.RunLaws.{made-there, parent-within, moment-consistent}
use Rattle.zt_queries.specs.Happenings.{lives, ended, leaked, IsCallStep}
use Rattle.zt_queries.specs.HappeningTimes.{at_moment, happens, is_known, last_on}
use Rattle.zt_queries.specs.Leaks.{is_leaked}
use Rattle.zt_queries.specs.ProofsOnly.FirstLeak.{HoldsRowsOf, PassesUnleaked, is_passing_kind}
use Rattle.zt_queries.specs.ProofsOnly.RowHappenings.{row_over}
use Rattle.zt_queries.proofs.FollowLaws.{low-koid}
use Rattle.zt_queries.proofs.OnceLaws.{exists-old, given-stays, has_leaked, leaked-begins, leaked-exists, leaked-goes-on, next-consistent, next-follows, of_object, off, was-old}
use Rattle.zt_queries.proofs.StayLaws.{earlier-on, kept-on, on-parent}
use Rattle.zt_queries.proofs.TreeTimes.{found-there, next-made}
use Rattle.zt_queries.proofs.WayLaws.{row-back, row-forth}
use Rattle.zt_queries.proofs.WhenLaws.{when-known}

-- ---- kinds of objects that are gone when they end

abbrev pub passes : ObjectRow → Bool
passes o = is_passing_kind o.kind

may-live : (k : Kind) (how : Life) → is_passing_kind k ≡ true → may_be k how ≡ true → is_live how ≡ true
may-live kind.Job how p m = cc
may-live kind.Process how p m = cc
may-live kind.Channel life.Live p m = refl
may-live kind.Channel life.Killed p m = cc
may-live kind.Channel (life.Exited n) p m = cc
may-live kind.Event life.Live p m = refl
may-live kind.Event life.Killed p m = cc
may-live kind.Event (life.Exited n) p m = cc
may-live kind.EventPair life.Live p m = refl
may-live kind.EventPair life.Killed p m = cc
may-live kind.EventPair (life.Exited n) p m = cc
may-live kind.Port life.Live p m = refl
may-live kind.Port life.Killed p m = cc
may-live kind.Port (life.Exited n) p m = cc

pub passing-lives : (S : State) (x : ℕ) → IsConsistent S → on_object passes (object S x) ≡ true → lives S x ≡ true
passing-lives S x c p =
    let w = of_object passes (object S x) p in
    ap (on_object (λ (o : ObjectRow). is_live o.life)) w.1 ∙ may-live w.0.kind w.0.life w.2 (c.sound.of_objects x w.0 w.1).lives

passing-there : (S : State) (x : ℕ) → on_object passes (object S x) ≡ true → exists S x ≡ true
passing-there S x p = let w = of_object passes (object S x) p in exists-some S x w.0 w.1

-- ---- what is gone

-- its koid was given out, and it is not there
abbrev gone : ℕ → State → Type 0
gone x S = (x < next_koid S) × (exists S x ≡ false)

gone-goes-on : (x : ℕ) (S T : State) → IsConsistent S → IsCallStep S T → gone x S → gone x T
gone-goes-on x S T c n p =
    let f = next-follows S T c n in
    (given-stays S T x f p.0, not_true (exists T x) (λ t. true≢false (exists S x) (exists-old S T x f p.0 t) p.1))

-- an object of such a kind that ended is gone
gone-after : (S T : State) (x : ℕ) → IsConsistent S → IsCallStep S T → on_object passes (object S x) ≡ true → lives T x ≡ false → gone x T
gone-after S T x c n p away =
    let f = next-follows S T c n in
    let low : x < next_koid S = low-koid S c.sound x (passing-there S x p) in (
      given-stays S T x f low,
      not_true (exists T x) (λ t.
          let w = some-exists T x t in
          let o = was-old S T x f low w.0 w.1 in
          let still : on_object passes (object T x) ≡ true = ap (on_object passes) w.1 ∙ ap is_passing_kind o.2.kind ∙ sym (ap (on_object passes) o.1) ∙ p in
          true≢false (lives T x) (passing-lives T x (next-consistent S T c n) still) away),
    )

-- ---- along a path

none-passes : (test : ℕ → Bool) (xs : List ℕ) → ((q : ℕ) → among xs q ≡ true → test q ≡ false) → last_or None (filter test xs) ≡ None
none-passes test [] h = refl
none-passes test (x ∷ xs) h =
    rw (h x (ap (λ b. b || among xs x) (eq-eqb x x refl))) (none-passes test xs (λ q on. h q (or_later (x == q) (among xs q) on)))
  where
    or_later : (a b : Bool) → b ≡ true → (a || b) ≡ true
    or_later true b e = refl
    or_later false b e = e

module _ (made : List Made) (are : AreMoments made) (at x : ℕ) (within : at ≤ length made) where
  on-within : (q : ℕ) → among (path made at) q ≡ true → q ≤ length made
  on-within q on = omega (arith, among-early made are.falls at q on, within)

  leaks : (q : ℕ) → at_moment (leaked x) made q ≡ true → is_leaked (state_at made q) x ≡ true
  leaks q t = and_right (not (is_leaked (state_at made (parent_at made q)) x)) (is_leaked (state_at made q) x) t

  leaked-from : (q n : ℕ) → n ≤ length made → among (path made n) q ≡ true → among (path made at) q ≡ true → at_moment (leaked x) made q ≡ true
      → exists (state_at made n) x ≡ true → is_leaked (state_at made n) x ≡ true
  leaked-from q n early on within_at t there =
      (kept-on made are (has_leaked x) (λ S T c s p. leaked-goes-on S T x c s p) q
      (leaked-begins (state_at made q) x (moment-consistent made are q (on-within q within_at)) (leaks q t)) n early on).1 there

  never-on : ((q : ℕ) → among (path made at) q ≡ true → at_moment (leaked x) made q ≡ false) → last_on (happens happening.Leaked x) made at ≡ None
  unfolding last_on
  never-on h = none-passes (at_moment (leaked x) made) (path made at) h

  -- it is there at the end
  pub stands-never : exists (state_at made at) x ≡ true → is_leaked (state_at made at) x ≡ false → last_on (happens happening.Leaked x) made at ≡ None
  stands-never there none =
      never-on (λ q on.
      not_true (at_moment (leaked x) made q) (λ t. true≢false (is_leaked (state_at made at) x) (leaked-from q at within on on t there) none))

  -- it ended by the call of a moment
  module _ (i : ℕ) (on_path : among (path made at) (suc i) ≡ true) (ends : at_moment (ended x) made (suc i) ≡ true) where
    abbrev S : State
    S = state_at made (parent_at made (suc i))

    abbrev T : State
    T = state_at made (suc i)

    there : suc i ≤ length made
    there = on-within (suc i) on_path

    away : lives T x ≡ false
    away = off (lives T x) (and_right (lives S x) (not (lives T x)) ends)

    consistent : IsConsistent S
    consistent = moment-consistent made are (parent_at made (suc i)) (parent-within made are i there)

    steps : IsCallStep S T
    steps = let e = made-there made are i there in next-made made are (leaked 0) i e.0 e.1

    went : PassesUnleaked S x → (q : ℕ) → among (path made at) q ≡ true → at_moment (leaked x) made q ≡ true → ⊥
    went p q on t = elim (cases_lt q (suc i)) [
      | inl l ↦
          let early : among (path made (parent_at made (suc i))) q ≡ true = on-parent made are.falls i q l (earlier-on made are.falls q (suc i) (omega (arith, l)) at on on_path) in
          true≢false (is_leaked S x) (leaked-from q (parent_at made (suc i)) (parent-within made are i there) early on t (passing-there S x p.passing)) p.unleaked
      | inr g ↦
          let later : gone x (state_at made q) =
          kept-on made are (gone x) (gone-goes-on x) (suc i) (gone-after S T x consistent steps p.passing away) q (on-within q on) (earlier-on made are.falls (suc i) q g at on_path on) in
          true≢false (exists (state_at made q) x) (leaked-exists (state_at made q) x (leaks q t)) later.1
    ]

    went-never : PassesUnleaked S x → last_on (happens happening.Leaked x) made at ≡ None
    went-never p = never-on (λ q on. not_true (at_moment (leaked x) made q) (went p q on))

    -- the record has rows of one side, and on the other the object is not there
    over : (o : Option (List (RowKey × Option Row))) (k : RowKey) (r s : Option Row) → row_over o k r ≡ s → row_over o k s ≡ s
    over None k r s e = refl
    over (Some R) k r s e = twice (held R k) r s e
      where
        twice : (q : Option (Option Row)) (r s : Option Row) → unwrap_or q r ≡ s → unwrap_or q s ≡ s
        twice None r s e = refl
        twice (Some t) r s e = e

    sided : (position : ℕ) → ((U : State) → HoldsRowsOf (recorded_at made position (suc i)) U → PassesUnleaked U x) → PassesUnleaked S x
    sided position tells = by (among (path made position) (suc i)) refl
      where
        e : (e : Made) × (made_at made (suc i) ≡ Some e)
        e = made-there made are i there

        by : (b : Bool) → among (path made position) (suc i) ≡ b → PassesUnleaked S x
        by true here = tells S (record { same = λ k. over (recorded_at made position (suc i)) k (row T k) (row S k) (row-back made position (suc i) e.0 e.1 k here) })
        by false beyond =
            let p : PassesUnleaked T x =
            tells T (record { same = λ k. over (recorded_at made position (suc i)) k (row S k) (row T k) (row-forth made position (suc i) e.0 e.1 k beyond) }) in
            absurd (true≢false (lives T x) (passing-lives T x (moment-consistent made are (suc i) there) p.passing) away)

-- what the record of the moment at which it ended tells
pub told-never : (made : List Made) (position at x moment : ℕ) (found : Option ℕ) → AreMoments made → at ≤ length made → is_known (state_at made at) x ≡ true
    → found ≡ Some moment → found ≡ last_on (happens happening.Ended x) made at
    → ((U : State) → HoldsRowsOf (recorded_at made position moment) U → PassesUnleaked U x) → last_on (happens happening.Leaked x) made at ≡ None
told-never made position at x moment found are within known is last tells =
    by moment (found-there made at x moment happening.Ended are within (when-known made at x happening.Ended (Some moment) known (sym is ∙ last))) tells
  where
    by : (m : ℕ) → (among (path made at) m ≡ true) × (at_moment (ended x) made m ≡ true)
        → ((U : State) → HoldsRowsOf (recorded_at made position m) U → PassesUnleaked U x) → last_on (happens happening.Leaked x) made at ≡ None
    by zero h tells = absurd (true≢false (lives (state_at made 0) x) (and_left (lives (state_at made 0) x) (not (lives (state_at made 0) x)) h.1) (off (lives (state_at made 0) x) (and_right (lives (state_at made 0) x) (not (lives (state_at made 0) x)) h.1)))
    by (suc i) h tells = went-never made are at x within i h.0 h.1 (sided made are at x within i h.0 h.1 position tells)
