-- What a call keeps is kept at every moment to which a moment of a tree leads; so what is leaked there is out of reach from
-- then on, and the moment that is found for a leak parts the moments at which the object is leaked from those before.
use Rattle.std.proofs.Common.{◌≡◌, ◌≤◌, ◌<◌, ℕ, suc, Bool, true, false, not, ◌||◌, List, length, Option, None, Some, inl, inr, refl, sym, ap, ◌∙◌, subst, arith}
use Rattle.std.specs.Prelude.{Ok, ◌==◌}
use Rattle.std.proofs.lemmas.Bool.{cases_lt, ne_eqb}
use Rattle.zt_rows.specs.declared.calls.Happening.TheVariants as happening
use Rattle.zt_rows.specs.declared.rows.ObjectRow.{ObjectRow}
use Rattle.zt_rows.specs.Consistent.{IsConsistent}
use Rattle.zt_rows.specs.Reads.{object, on_object}
use Rattle.zt_rows.specs.State.{State}
use Rattle.zt_rows.specs.Tests.{among, exists, is_endpoint}
use Rattle.zt_rows.proofs.ReadLaws.{some-exists}
use Rattle.zt_rows.proofs.RowLaws.{and_right, and_both, true≢false, not_true}
use Rattle.zt_history.specs.TreeInvariant.{AreMoments, Falls, IsTree}
use Rattle.zt_history.specs.Tree.{Made, Tree, parent_at, path, state_at}
use Rattle.zt_history.proofs.PathLaws.{path-opening, by_parents, among-step, among-self, among-other, among-early}
use Rattle.zt_history.proofs.RunLaws.{state-opening, made-there, parent-within, moment-consistent}
use Rattle.zt_queries.specs.Happenings.{leaked, IsCallStep}
use Rattle.zt_queries.specs.HappeningTimes.{at_moment, when_on}
use Rattle.zt_queries.specs.LaterMoments.{leads_to, StaysLeaked, LeaksStay, IsLeakedSince, TellsWhenLeaked}
use Rattle.zt_queries.specs.Leaks.{is_leaked}
use Rattle.zt_queries.proofs.FirstLeakLaws.{opening-unleaked}
use Rattle.zt_queries.proofs.FollowLaws.{Follows}
use Rattle.zt_queries.proofs.LeakLaws.{leaked-endpoint}
use Rattle.zt_queries.proofs.OnceLaws.{has_leaked, leaked-begins, leaked-goes-on, leaked-exists, next-follows, unreached, was-old}
use Rattle.zt_queries.proofs.TreeTimes.{next-made, found-there, only-moment, no-moment}

-- ---- moments on a path

module _ (made : List Made) (falls : Falls made) where
  none-before : (q : ℕ) → among (path made 0) q ≡ true → ⊥
  none-before q on = true≢false (among (path made 0) q) on (ap (λ l. among l q) (path-opening made))

  pub on-parent : (i q : ℕ) → q < suc i → among (path made (suc i)) q ≡ true → among (path made (parent_at made (suc i))) q ≡ true
  on-parent i q low on = sym (among-other made falls i q (λ e. omega (arith, e, low))) ∙ on

  pub on-child : (i q : ℕ) → among (path made (parent_at made (suc i))) q ≡ true → among (path made (suc i)) q ≡ true
  on-child i q on = among-step made falls i q ∙ ap (λ b. b || (suc i == q || false)) on

  itself : (i q : ℕ) → suc i ≤ q → among (path made (suc i)) q ≡ true → q ≡ suc i
  itself i q up on = omega (arith, up, among-early made falls (suc i) q on)

  -- the path to a moment on a path has those of that path that are not later
  pub earlier-on : (q m : ℕ) → q ≤ m → (n : ℕ) → among (path made n) q ≡ true → among (path made n) m ≡ true → among (path made m) q ≡ true
  earlier-on q m up = by_parents made falls (λ n. among (path made n) q ≡ true → among (path made n) m ≡ true → among (path made m) q ≡ true) base step
    where
      base : among (path made 0) q ≡ true → among (path made 0) m ≡ true → among (path made m) q ≡ true
      base first on = absurd (none-before q first)

      step : (i : ℕ) → (among (path made (parent_at made (suc i))) q ≡ true → among (path made (parent_at made (suc i))) m ≡ true → among (path made m) q ≡ true)
          → among (path made (suc i)) q ≡ true → among (path made (suc i)) m ≡ true → among (path made m) q ≡ true
      step i rest first on = elim (cases_lt m (suc i)) [
        | inl l ↦ rest (on-parent i q (omega (arith, up, l)) first) (on-parent i m l on)
        | inr g ↦ subst (λ k. among (path made k) q ≡ true) (sym (itself i m g on)) first
      ]

  -- and no others
  pub all-on : (q m : ℕ) → among (path made m) q ≡ true → (n : ℕ) → among (path made n) m ≡ true → among (path made n) q ≡ true
  all-on q m first = by_parents made falls (λ n. among (path made n) m ≡ true → among (path made n) q ≡ true) base step
    where
      base : among (path made 0) m ≡ true → among (path made 0) q ≡ true
      base on = absurd (none-before m on)

      step : (i : ℕ) → (among (path made (parent_at made (suc i))) m ≡ true → among (path made (parent_at made (suc i))) q ≡ true)
          → among (path made (suc i)) m ≡ true → among (path made (suc i)) q ≡ true
      step i rest on = elim (cases_lt m (suc i)) [
        | inl l ↦ on-child i q (rest (on-parent i m l on))
        | inr g ↦ subst (λ k. among (path made k) q ≡ true) (itself i m g on) first
      ]

-- ---- what a call keeps

module _ (made : List Made) (are : AreMoments made) (Kept : State → Type 0) (keeps : (S T : State) → IsConsistent S → IsCallStep S T → Kept S → Kept T) where
  pub kept-on : (m : ℕ) → Kept (state_at made m) → (n : ℕ) → n ≤ length made → among (path made n) m ≡ true → Kept (state_at made n)
  kept-on m kept = by_parents made are.falls (λ n. n ≤ length made → among (path made n) m ≡ true → Kept (state_at made n)) base step
    where
      base : 0 ≤ length made → among (path made 0) m ≡ true → Kept (state_at made 0)
      base h on = absurd (none-before made are.falls m on)

      step : (i : ℕ) → (parent_at made (suc i) ≤ length made → among (path made (parent_at made (suc i))) m ≡ true → Kept (state_at made (parent_at made (suc i))))
          → suc i ≤ length made → among (path made (suc i)) m ≡ true → Kept (state_at made (suc i))
      step i rest h on = elim (cases_lt m (suc i)) [
        | inl l ↦
            let up : ℕ = parent_at made (suc i) in
            let there : up ≤ length made = parent-within made are i h in
            let e = made-there made are i h in
            keeps (state_at made up) (state_at made (suc i)) (moment-consistent made are up there) (next-made made are (leaked 0) i e.0 e.1)
            (rest there (on-parent made are.falls i m l on))
        | inr g ↦ subst (λ k. Kept (state_at made k)) (itself made are.falls i m g on) kept
      ]

-- ---- a leaked endpoint

abbrev is_end : ObjectRow → Bool
is_end o = is_endpoint o.kind

still-endpoint : (S T : State) (x : ℕ) → IsConsistent S → Follows S T → is_leaked S x ≡ true → exists T x ≡ true → on_object is_end (object S x) ≡ true → on_object is_end (object T x) ≡ true
still-endpoint S T x c f e there ends =
    let w = some-exists T x there in
    let o = was-old S T x f (leaked-begins S x c e).0 w.0 w.1 in
    ap (on_object is_end) w.1 ∙ ap is_endpoint o.2.kind ∙ sym (ap (on_object is_end) o.1) ∙ ends

abbrev leaked_end : ℕ → State → Type 0
leaked_end x S = (is_leaked S x ≡ true) × (on_object is_end (object S x) ≡ true)

leaked_end-goes-on : (x : ℕ) (S T : State) → IsConsistent S → IsCallStep S T → leaked_end x S → leaked_end x T
leaked_end-goes-on x S T c n p =
    let e : is_leaked T x ≡ true = ap (λ U. is_leaked U x) n.gives ∙ leaked-endpoint S c n.process n.live n.call n.is x p.0 p.1 in
    (e, still-endpoint S T x c (next-follows S T c n) p.0 (leaked-exists T x e) p.1)

-- ---- what is leaked stays so

module _ (made : List Made) (are : AreMoments made) (m n x : ℕ) (within : n ≤ length made) (on : among (path made n) m ≡ true) (e : is_leaked (state_at made m) x ≡ true) where
  early : m ≤ length made
  early = omega (arith, among-early made are.falls n m on, within)

  later : has_leaked x (state_at made n)
  later =
      kept-on made are (has_leaked x) (λ S T c s p. leaked-goes-on S T x c s p) m (leaked-begins (state_at made m) x (moment-consistent made are m early) e) n
      within on

  stays : StaysLeaked (state_at made m) (state_at made n) x
  stays = record {
    unreached = unreached (state_at made n) x (moment-consistent made are n within) later;
    leaked_or_gone = later.1;
    endpoint = λ ends. (kept-on made are (leaked_end x) (leaked_end-goes-on x) m (e, ends) n within on).0;
  }

first-not : (made : List Made) (x : ℕ) → is_leaked (state_at made 0) x ≡ true → ⊥
first-not made x e = true≢false (is_leaked (state_at made 0) x) e (ap (λ S. is_leaked S x) (state-opening made) ∙ opening-unleaked x)

-- a moment that leads to another is on its path, but for the opening
beyond : (made : List Made) (n m : ℕ) → (0 ≡ m → ⊥) → leads_to made m n ≡ true → among (path made n) m ≡ true
beyond made n m later leads = sym (ap (λ b. b || among (path made n) m) (ne_eqb 0 m later)) ∙ leads

leads-on : (made : List Made) (n m x : ℕ) → leads_to made m n ≡ true → is_leaked (state_at made m) x ≡ true → among (path made n) m ≡ true
leads-on made n m x leads e = beyond made n m (λ z. first-not made x (ap (λ k. is_leaked (state_at made k) x) z ∙ e)) leads

pub tree-stays : (t : Tree) → IsTree t → LeaksStay t
tree-stays t is m n x within leads e = stays t.made is.moments m n x within (leads-on t.made n m x leads e) e

-- ---- where it begins

-- by the call of a moment on the path
abbrev pub Begun : List Made → ℕ → ℕ → Type 0
Begun made x m = (q : ℕ) × (among (path made m) q ≡ true) × (at_moment (leaked x) made q ≡ true)

module _ (made : List Made) (falls : Falls made) (x : ℕ) where
  begun-by : (i : ℕ) (b : Bool) → is_leaked (state_at made (parent_at made (suc i))) x ≡ b → is_leaked (state_at made (suc i)) x ≡ true
      → (is_leaked (state_at made (parent_at made (suc i))) x ≡ true → Begun made x (parent_at made (suc i))) → Begun made x (suc i)
  begun-by i true f e rest = let r = rest f in (r.0, on-child made falls i r.0 r.1, r.2)
  begun-by i false f e rest = (
    suc i,
    among-self made falls i,
    and_both (not (is_leaked (state_at made (parent_at made (suc i))) x)) (is_leaked (state_at made (suc i)) x) (ap not f) e,
  )

  pub begun : (m : ℕ) → is_leaked (state_at made m) x ≡ true → Begun made x m
  begun = by_parents made falls (λ m. is_leaked (state_at made m) x ≡ true → Begun made x m) base step
    where
      base : is_leaked (state_at made 0) x ≡ true → Begun made x 0
      base e = absurd (first-not made x e)

      step : (i : ℕ) → (is_leaked (state_at made (parent_at made (suc i))) x ≡ true → Begun made x (parent_at made (suc i))) → is_leaked (state_at made (suc i)) x ≡ true → Begun made x (suc i)
      step i rest e = begun-by i (is_leaked (state_at made (parent_at made (suc i))) x) refl e rest

-- ---- what was found

crossed : (q m since : ℕ) → q ≡ since → m < since → q ≤ m → ⊥
crossed q m since same low early = omega (arith, same, low, early)

module _ (made : List Made) (are : AreMoments made) (at x : ℕ) (within : at ≤ length made) where
  -- none
  leaked-never : when_on happening.Leaked made at x ≡ Ok None → (m : ℕ) → leads_to made m at ≡ true → is_leaked (state_at made m) x ≡ false
  leaked-never found m leads =
      not_true (is_leaked (state_at made m) x) (λ e.
      let b = begun made are.falls x m e in
      let on : among (path made at) b.0 ≡ true = all-on made are.falls b.0 m b.1 at (leads-on made at m x leads e) in
      true≢false (at_moment (leaked x) made b.0) b.2 (no-moment made at x b.0 happening.Leaked found on))

  module _ (since : ℕ) (found : when_on happening.Leaked made at x ≡ Ok (Some since)) where
    there : (among (path made at) since ≡ true) × (at_moment (leaked x) made since ≡ true)
    there = found-there made at x since happening.Leaked are within found

    leaked-itself : is_leaked (state_at made since) x ≡ true
    leaked-itself = and_right (not (is_leaked (state_at made (parent_at made since)) x)) (is_leaked (state_at made since) x) there.1

    leaked-before : (m : ℕ) → leads_to made m at ≡ true → m < since → is_leaked (state_at made m) x ≡ false
    leaked-before m leads low =
        not_true (is_leaked (state_at made m) x) (λ e.
        let b = begun made are.falls x m e in
        let on : among (path made at) b.0 ≡ true = all-on made are.falls b.0 m b.1 at (leads-on made at m x leads e) in
        let same : b.0 ≡ since = only-moment made at x since b.0 happening.Leaked are within found on b.2 in
        crossed b.0 m since same low (among-early made are.falls m b.0 b.1))

    -- a moment that is not before it is no opening
    no-opening : (m : ℕ) → since ≤ m → 0 ≡ m → ⊥
    no-opening m up z =
        let first : 0 ≡ since = omega (arith, z, up) in
        first-not made x (ap (λ k. is_leaked (state_at made k) x) first ∙ leaked-itself)

    leaked-later : (m : ℕ) → leads_to made m at ≡ true → since ≤ m → StaysLeaked (state_at made since) (state_at made m) x
    leaked-later m leads up =
        let on : among (path made at) m ≡ true = beyond made at m (no-opening m up) leads in
        stays made are since m x (omega (arith, among-early made are.falls at m on, within)) (earlier-on made are.falls since m up at there.0 on) leaked-itself

    leaked-since : IsLeakedSince made at x since
    leaked-since = record { before = leaked-before; itself = leaked-itself; later = leaked-later }

pub found-tells : (made : List Made) (at x : ℕ) (found : Option ℕ) → AreMoments made → at ≤ length made → when_on happening.Leaked made at x ≡ Ok found → TellsWhenLeaked made at x found
found-tells made at x None are within h = leaked-never made are at x within h
found-tells made at x (Some since) are within h = leaked-since made are at x within since h
