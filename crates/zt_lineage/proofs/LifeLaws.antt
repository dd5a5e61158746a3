-- The steps of a handle's life, one moment more or less.
use Rattle.std.proofs.Common.{◌≡◌, ℕ, suc, ◌+◌, ◌-◌, ◌<◌, List, [], ◌∷◌, ◌++◌, length, take, sym, ◌∙◌, ap, arith}
use Rattle.std.specs.Prelude.{Option, None, Some, is_some, get_or, if◌then◌else◌, true, false}
use Rattle.std.proofs.lemmas.List.{append_assoc}
use Rattle.zt_rows.specs.declared.rows.Held.{Held}
use Rattle.zt_rows.specs.State.{State}
use Rattle.zt_history.specs.Tree.{Made, end_of, parent_at, state_at}
use Rattle.zt_history.specs.TreeInvariant.{Falls}
use Rattle.zt_history.specs.Timeline.{Timeline, IsPath, moved_to}
use Rattle.std.proofs.lemmas.Grind.{get_or_default_zero}
use Rattle.zt_lineage.proofs.WayLaws.{end-one, parent-of}
use Rattle.zt_lineage.specs.declared.places.Place.{Place}
use Rattle.zt_lineage.specs.declared.origins.Origin.{Origin}
use Rattle.zt_lineage.specs.declared.origins.Origin.TheVariants as origins
use Rattle.zt_lineage.specs.declared.endings.Ending.{Ending}
use Rattle.zt_lineage.specs.declared.handle_life.LifeStep.{LifeStep}
use Rattle.zt_lineage.specs.Places.{held_at}
use Rattle.zt_lineage.specs.Lives.{arrival, back_by, behind, comings, end_at, held_or, last_held, onward, onward_by, or_before, origin_at, step_of, target_at}

module _ (made : List Made) (way : List ℕ) (n : ℕ) (at : Place) where
  abbrev here : Option Held
  here = held_at (state_at made (get_or way n 0)) at

  pub last-none : here ≡ None → last_held made way (suc n) at ≡ last_held made way n at
  last-none e = ap (λ r. or_before (suc n) r (last_held made way n at)) e

  pub last-some : (held : Held) → here ≡ Some held → last_held made way (suc n) at ≡ Some (suc n, held)
  last-some held e = ap (λ r. or_before (suc n) r (last_held made way n at)) e

  module _ (held : Held) (list : List LifeStep) (m : ℕ) (same : m ≡ get_or way n 0) where
    abbrev before : State
    before = state_at made (parent_at made (get_or way n 0))

    by : (from : Origin) → origin_at made m at ≡ from → comings made way (suc n) at held ≡ back_by (comings made way n) before (get_or way n 0) at held from
    by from e = ap (back_by (comings made way n) before (get_or way n 0) at held) (ap (λ q. origin_at made q at) (sym same) ∙ e)

    pub back-stayed : origin_at made m at ≡ origins.Stayed → list ++ comings made way (suc n) at held ≡ list ++ comings made way n at held
    back-stayed e = ap (λ l. list ++ l) (by origins.Stayed e)

    pub back-made : origin_at made m at ≡ origins.Made → list ++ comings made way (suc n) at held ≡ list ++ step_of m at held origins.Made ∷ []
    back-made e = ap (λ l. list ++ l) (by origins.Made e ∙ ap (λ q. step_of q at held origins.Made ∷ []) (sym same))

    pub back-from : (other : Place) → origin_at made m at ≡ origins.From other
        → list ++ comings made way (suc n) at held ≡ (list ++ step_of m at held (origins.From other) ∷ []) ++ comings made way n other (held_or held (held_at (state_at made (parent_at made m)) other))
    back-from other e =
        ap (λ l. list ++ l) (by (origins.From other) e ∙ ap (λ q. step_of q at held (origins.From other) ∷ comings made way n other (held_or held (held_at (state_at made (parent_at made q)) other))) (sym same))
        ∙ sym (append_assoc list (step_of m at held (origins.From other) ∷ []) (comings made way n other (held_or held (held_at (state_at made (parent_at made m)) other))))

module _ (made : List Made) (m : ℕ) (later : List ℕ) (at : Place) where
  pub on-there : is_some (held_at (state_at made m) at) ≡ true → onward made (m ∷ later) at ≡ onward made later at
  on-there e = ap (λ b. if b then onward made later at else onward_by (onward made later) m at (end_at made m at) (arrival (state_at made m) (target_at made m at))) e

  gone : is_some (held_at (state_at made m) at) ≡ false → onward made (m ∷ later) at ≡ onward_by (onward made later) m at (end_at made m at) (arrival (state_at made m) (target_at made m at))
  gone e = ap (λ b. if b then onward made later at else onward_by (onward made later) m at (end_at made m at) (arrival (state_at made m) (target_at made m at))) e

  pub on-moved : (other : Place) (held : Held) → is_some (held_at (state_at made m) at) ≡ false → arrival (state_at made m) (target_at made m at) ≡ Some (other, held)
      → onward made (m ∷ later) at ≡ behind (step_of m other held (origins.From at)) (onward made later other)
  on-moved other held e f = gone e ∙ ap (onward_by (onward made later) m at (end_at made m at)) f

  pub on-ended : (how : Ending) → is_some (held_at (state_at made m) at) ≡ false → arrival (state_at made m) (target_at made m at) ≡ None → how ≡ end_at made m at
      → onward made (m ∷ later) at ≡ record { steps = []; ended = Some (m, how) }
  on-ended how e f same = gone e ∙ ap (onward_by (onward made later) m at (end_at made m at)) f ∙ ap (λ h. record { steps = []; ended = Some (m, h) }) (sym same)

-- ---- where a history stands

-- a store over a history that was moved has the state of the moment
pub state-here : (t u : Timeline) (q m : ℕ) (made : List Made) (S : State) → u ≡ moved_to t q → t.tree.made ≡ made → q ≡ m → S ≡ state_at u.tree.made u.position → S ≡ state_at made m
state-here t u q m made S moved same at stands =
    stands ∙ ap (λ (h : Timeline). state_at h.tree.made h.position) moved ∙ ap (λ x. state_at x q) same ∙ ap (state_at made) at

-- ---- the last moment behind which a place holds a handle

module _ (made : List Made) (way : List ℕ) (at : Place) (n : ℕ) (so_far : last_held made way (length way) at ≡ last_held made way n at) (S : State) where
  pub held-found : (held : Held) → 0 < n → S ≡ state_at made (get_or way (n - 1) 0) → Some held ≡ held_at S at → ◌≡◌ {A = Option (ℕ × Held)} (Some (n - 1 + 1, held)) (last_held made way (length way) at)
  held-found held some stands e =
      let one : suc (n - 1) ≡ n = omega (arith, some) in
      let same : n - 1 + 1 ≡ suc (n - 1) = omega arith in
      ap (λ k. Some (k, held)) same
      ∙ sym (last-some made way (n - 1) at held (ap (λ T. held_at T at) (sym stands) ∙ sym e))
      ∙ ap (λ k. last_held made way k at) one ∙ sym so_far

  pub held-before : 0 < n → S ≡ state_at made (get_or way (n - 1) 0) → None ≡ held_at S at → last_held made way (length way) at ≡ last_held made way (n - 1) at
  held-before some stands e =
      let one : n ≡ suc (n - 1) = omega (arith, some) in
      so_far ∙ ap (λ k. last_held made way k at) one ∙ last-none made way (n - 1) at (ap (λ T. held_at T at) (sym stands) ∙ sym e)

  pub held-first : (r : Option Held) → n ≡ 0 → S ≡ state_at made 0 → r ≡ held_at S at → or_before 0 r None ≡ last_held made way (length way) at
  held-first r none stands e =
      ap (λ h. or_before 0 h None) (e ∙ ap (λ T. held_at T at) stands) ∙ sym (so_far ∙ ap (λ k. last_held made way k at) none)

-- ---- a history along a path

module _ (made : List Made) (falls : Falls made) (way : List ℕ) (is : IsPath made way) (k : ℕ) (low : k < length way) (t u : Timeline) (S : State) (same : t.tree.made ≡ made) where
  pub stands-behind : u ≡ moved_to t (end_of (take (k + 1) way)) → S ≡ state_at u.tree.made u.position → S ≡ state_at made (get_or way k 0)
  stands-behind moved stands = state-here t u (end_of (take (k + 1) way)) (get_or way k 0) made S moved same (end-one made falls way is k low) stands

  pub stands-before : u ≡ moved_to t (end_of (take k way)) → S ≡ state_at u.tree.made u.position → S ≡ state_at made (parent_at made (get_or way k 0))
  stands-before moved stands = state-here t u (end_of (take k way)) (parent_at made (get_or way k 0)) made S moved same (sym (parent-of made falls way is k low)) stands

-- the moment at a place of a path
pub moment-at : (way : List ℕ) (k m : ℕ) → k < length way → m ≡ get_or way k m → m ≡ get_or way k 0
moment-at way k m low at = at ∙ get_or_default_zero way k m low

pub stands-parent : (made : List Made) (falls : Falls made) (way : List ℕ) → IsPath made way → (k m : ℕ) → k < length way → (t u : Timeline) → t.tree.made ≡ made → u ≡ moved_to t (end_of (take k way)) → m ≡ get_or way k m
    → u.position ≡ parent_at u.tree.made m
stands-parent made falls way is k m low t u same moved at =
    ap (λ (h : Timeline). h.position) moved
    ∙ sym (parent-of made falls way is k low)
    ∙ ap (parent_at made) (sym (moment-at way k m low at))
    ∙ sym (ap (λ (h : Timeline). parent_at h.tree.made m) moved ∙ ap (λ x. parent_at x m) same)

-- the same of a history that stands behind the first moments of the path
pub stands-at : (made : List Made) (falls : Falls made) (way : List ℕ) → IsPath made way → (k m : ℕ) → k < length way → (u : Timeline) → u.tree.made ≡ made → u.position ≡ end_of (take k way) → m ≡ get_or way k m
    → u.position ≡ parent_at u.tree.made m
stands-at made falls way is k m low u same stands at =
    stands
    ∙ sym (parent-of made falls way is k low)
    ∙ ap (parent_at made) (sym (moment-at way k m low at))
    ∙ ap (λ x. parent_at x m) (sym same)
