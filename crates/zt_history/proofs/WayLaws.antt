-- Going along a path: how many moments of it two paths share, and the moment that comes next.
use Rattle.std.proofs.Common.{◌≡◌, ℕ, zero, suc, ◌-◌, ◌≤◌, ◌<◌, List, [], ◌∷◌, ◌++◌, length, take, Some, refl, sym, ◌∙◌, ap, arith}
use Rattle.std.specs.Prelude.{slice_get, ◌==◌}
use Rattle.std.proofs.lemmas.Bool.{eq-eqb}
use Rattle.std.proofs.lemmas.List.{take-take, length-take}
use Rattle.std.proofs.Math.Seq.{take-append_seam, take-length}
use Rattle.std.proofs.lemmas.Map.Keys.{any_passes_from_place}
use Rattle.std.proofs.lemmas.Option.{slice_get_within}
use Rattle.zt_history.specs.Tree.{Made, parent_at, path, end_of}
use Rattle.zt_history.specs.TreeInvariant.{Falls}
use Rattle.zt_history.specs.Timeline.{Timeline, IsPath, moved_to}
use Rattle.zt_history.proofs.PathLaws.{path-opening, path-step, path-at, path-end, length-path, among-early}

module _ (made : List Made) (falls : Falls made) (way : List ℕ) (is : IsPath made way) where
  -- the path to a moment of the way is the way up to it
  pub way-at : (i q : ℕ) → slice_get way i ≡ Some q → path made q ≡ take (suc i) way
  way-at i q at = path-at made falls is.moment i q (ap (λ w. slice_get w i) (sym is.is) ∙ at) ∙ ap (take (suc i)) (sym is.is)

  pub way-within : (i q : ℕ) → slice_get way i ≡ Some q → q ≤ length made
  way-within i q at =
      let here : slice_get (path made is.moment) i ≡ Some q = ap (λ w. slice_get w i) (sym is.is) ∙ at in
      omega (arith, is.there, among-early made falls is.moment q (any_passes_from_place (λ m. m == q) (path made is.moment) i q here (eq-eqb q q refl)))

  length-way-at : (i q : ℕ) → slice_get way i ≡ Some q → length (path made q) ≡ suc i
  length-way-at i q at = ap length (way-at i q at) ∙ length-take (suc i) way ∙ omega (arith, slice_get_within way i q at)

  pub way-later : (i q : ℕ) → slice_get way i ≡ Some q → 0 < q
  way-later i zero at = absurd (omega (arith, length-way-at i 0 at, ap length (path-opening made)))
  way-later i (suc j) at = omega arith

  -- the next moment of the way is made at the last one so far
  pub way-next : (i q position : ℕ) → slice_get way i ≡ Some q → path made position ≡ take i way → parent_at made q ≡ position
  way-next i zero position at so_far = absurd (omega (arith, way-later i 0 at))
  way-next i (suc j) position at so_far =
      let up : ℕ = parent_at made (suc j) in
      let size : length (path made up) ≡ i = omega (arith, length-way-at i (suc j) at, length-path made falls j) in
      let front : take i (path made (suc j)) ≡ path made up =
      ap (take i) (path-step made falls j) ∙ ap (λ n. take n (path made up ++ suc j ∷ [])) (sym size) ∙ take-append_seam (path made up) (suc j ∷ []) in
      let same : path made up ≡ path made position =
      sym front ∙ ap (take i) (way-at i (suc j) at) ∙ take-take i (suc i) way (omega arith) ∙ sym so_far in
      sym (path-end made falls up) ∙ ap end_of same ∙ path-end made falls position

-- where the path to the position is the whole way, the position is its end
pub way-done : (made : List Made) → Falls made → (way : List ℕ) (position i : ℕ) → path made position ≡ take i way → i ≡ length way → position ≡ end_of way
way-done made falls way position i so_far whole =
    sym (path-end made falls position) ∙ ap end_of (so_far ∙ ap (λ n. take n way) whole ∙ take-length way)

-- ---- the moments of the one path that the other shares

pub later-path : (made : List Made) (m : ℕ) → 0 < length (path made m) → 0 < m
later-path made zero h = absurd (omega (arith, h, ap length (path-opening made)))
later-path made (suc i) h = omega arith

pub moved-again : (h s n : Timeline) (q : ℕ) → s ≡ moved_to h s.position → n ≡ moved_to s q → n ≡ moved_to h n.position
moved-again h s n q moved next = next ∙ (λ i. moved_to (moved i) q) ∙ ap (moved_to h) (ap (λ (t : Timeline). t.position) (sym next))

pub depth-back : (h s n : Timeline) (d : ℕ) → Falls h.tree.made → s ≡ moved_to h s.position → n ≡ moved_to s (parent_at s.tree.made s.position)
    → d ≡ length (path h.tree.made s.position) → 0 < d → d - 1 ≡ length (path h.tree.made n.position)
depth-back h s n d falls moved next deep some = by s.position refl
  where
    at : (p : ℕ) → s.position ≡ p → n.position ≡ parent_at h.tree.made p
    at p e = ap (λ (t : Timeline). t.position) next ∙ (λ i. parent_at (moved i).tree.made (e i))

    by : (p : ℕ) → s.position ≡ p → d - 1 ≡ length (path h.tree.made n.position)
    by zero e = absurd (omega (arith, some, deep, ap (λ p. length (path h.tree.made p)) e, ap length (path-opening h.tree.made)))
    by (suc j) e =
        omega (arith, deep, ap (λ p. length (path h.tree.made p)) e, length-path h.tree.made falls j, ap (λ p. length (path h.tree.made p)) (at (suc j) e))
