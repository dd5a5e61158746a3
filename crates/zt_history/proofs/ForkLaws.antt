-- Where the paths to two moments part: what is above what, the way back to such a moment, and the way forth from it.
use Rattle.std.proofs.Common.{◌≡◌, ℕ, zero, suc, ◌≤◌, ◌<◌, List, [], ◌∷◌, ◌++◌, length, reverse, take, ◌+◌, inl, inr, refl, sym, ◌∙◌, ap, subst, arith}
use Rattle.std.specs.Prelude.{slice_get, Some, true, not, ◌==◌}
use Rattle.std.proofs.lemmas.Bool.{cases_lt, true≢false, eq-eqb}
use Rattle.std.proofs.lemmas.List.{append-nil, append_assoc, length-reverse, length-take, reverse-append, take-append-le, take-take}
use Rattle.std.proofs.Math.Seq.{take-append_seam, take-length}
use Rattle.zt_rows.specs.Tests.{among}
use Rattle.zt_history.specs.Tree.{Made, parent_at, path, end_of}
use Rattle.zt_history.specs.TreeInvariant.{Falls}
use Rattle.zt_history.specs.Timeline.{Timeline, IsPath, moved_to, unmoved}
use Rattle.zt_history.specs.ProofsOnly.Forks.{IsAbove}
use Rattle.zt_history.proofs.PathLaws.{among-other, path-opening, path-step, path-end, length-path, by_parents}
use Rattle.zt_history.proofs.ListLaws.{get-seam}
use Rattle.zt_history.proofs.NodeLaws.{IsGathered, gathered-left}
use Rattle.zt_history.proofs.WayLaws.{way-next, way-within, way-later}

pub above-opening : (made : List Made) (m : ℕ) → IsAbove made 0 m
above-opening made m = record { begins = path-opening made ∙ ap (λ p. take (length p) (path made m)) (sym (path-opening made)) }

pub above-self : (made : List Made) (m : ℕ) → IsAbove made m m
above-self made m = record { begins = sym (take-length (path made m)) }

pub above-shorter : (made : List Made) (a m : ℕ) → IsAbove made a m → length (path made a) ≤ length (path made m)
above-shorter made a m is = omega (arith, ap length is.begins, length-take (length (path made a)) (path made m))

pub above-above : (made : List Made) (a b c : ℕ) → IsAbove made a b → IsAbove made b c → IsAbove made a c
above-above made a b c upper lower = record {
  begins =
      upper.begins ∙ ap (take (length (path made a))) lower.begins
      ∙ take-take (length (path made a)) (length (path made b)) (path made c) (above-shorter made a b upper);
}

module _ (made : List Made) (falls : Falls made) where
  pub above-parent : (m : ℕ) → IsAbove made (parent_at made m) m
  above-parent zero = above-self made 0
  above-parent (suc i) = record {
    begins =
        sym (take-append_seam (path made (parent_at made (suc i))) (suc i ∷ []))
        ∙ ap (take (length (path made (parent_at made (suc i))))) (sym (path-step made falls i));
  }

  same-path : (a m : ℕ) → path made a ≡ path made m → a ≡ m
  same-path a m same = sym (path-end made falls a) ∙ ap end_of same ∙ path-end made falls m

  -- as long as the path that it begins, it is that path
  pub above-whole : (a m : ℕ) → IsAbove made a m → length (path made m) ≤ length (path made a) → a ≡ m
  above-whole a m is long =
      let same : length (path made a) ≡ length (path made m) = omega (arith, above-shorter made a m is, long) in
      same-path a m (is.begins ∙ ap (λ n. take n (path made m)) same ∙ take-length (path made m))

  -- a moment above another one is above its parent
  pub above-next : (a m : ℕ) → IsAbove made a m → (m ≡ a → ⊥) → (0 < m) × IsAbove made a (parent_at made m)
  above-next a m is other =
      elim (cases_lt (length (path made a)) (length (path made m))) [
        | inl shorter ↦ by m is shorter
        | inr long ↦ absurd (other (sym (above-whole a m is long)))
      ]
    where
      by : (m : ℕ) → IsAbove made a m → length (path made a) < length (path made m) → (0 < m) × IsAbove made a (parent_at made m)
      by zero is shorter = absurd (omega (arith, shorter, ap length (path-opening made)))
      by (suc i) is shorter = (
        omega arith,
        record {
          begins =
              is.begins ∙ ap (take (length (path made a))) (path-step made falls i)
              ∙ take-append-le (length (path made a)) (path made (parent_at made (suc i))) (suc i ∷ []) (omega (arith, shorter, length-path made falls i));
        },
      )

  -- it is no later
  pub above-early : (a m : ℕ) → IsAbove made a m → a ≤ m
  above-early a = by_parents made falls (λ m. IsAbove made a m → a ≤ m) base step
    where
      base : IsAbove made a 0 → a ≤ 0
      base is = omega (arith, above-whole a 0 is (omega (arith, ap length (path-opening made))))

      step : (i : ℕ) → (IsAbove made a (parent_at made (suc i)) → a ≤ parent_at made (suc i)) → IsAbove made a (suc i) → a ≤ suc i
      step i rest is =
          elim (cases_lt (suc i) a) [
            | inl later ↦
                let r : a ≤ parent_at made (suc i) = rest (above-next a (suc i) is (λ e. omega (arith, e, later))).1 in
                omega (arith, r, falls i)
            | inr g ↦ g
          ]

  -- what is no later is on the one path where it is on the other
  pub above-among : (a k m : ℕ) → k ≤ a → IsAbove made a m → among (path made a) k ≡ among (path made m) k
  above-among a k m low = by_parents made falls (λ m. IsAbove made a m → among (path made a) k ≡ among (path made m) k) base step m
    where
      base : IsAbove made a 0 → among (path made a) k ≡ among (path made 0) k
      base is = ap (λ a. among (path made a) k) (above-whole a 0 is (omega (arith, ap length (path-opening made))))

      step : (i : ℕ) → (IsAbove made a (parent_at made (suc i)) → among (path made a) k ≡ among (path made (parent_at made (suc i))) k)
          → IsAbove made a (suc i) → among (path made a) k ≡ among (path made (suc i)) k
      step i rest is =
          elim (cases_lt a (suc i)) [
            | inl early ↦
                rest (above-next a (suc i) is (λ e. omega (arith, e, early))).1
                ∙ sym (among-other made falls i k (λ e. omega (arith, e, low, early)))
            | inr late ↦
                let same : a ≡ suc i = omega (arith, late, above-early a (suc i) is) in
                ap (λ a. among (path made a) k) same
          ]

  -- as many moments of a path gathered as there are beyond one of it: the rest is the path to that one
  pub gathered-beyond : (from moment at : ℕ) (way : List ℕ) (depth : ℕ) → IsAbove made from moment → IsGathered made moment at way depth
      → length (path made moment) ≡ length (path made from) + depth → path made moment ≡ path made from ++ reverse way
  gathered-beyond from moment at way depth above is whole =
      let deep : length (path made at) ≡ length (path made from) = omega (arith, gathered-left made moment at way depth is, whole) in
      let same : path made at ≡ path made from =
      sym (take-append_seam (path made at) (reverse way)) ∙ (λ i. take (deep i) (sym is.rest i)) ∙ sym above.begins in
      is.rest ∙ ap (λ p. p ++ reverse way) same

  path-grown : (q : ℕ) → 0 < q → path made q ≡ path made (parent_at made q) ++ q ∷ []
  path-grown zero some = absurd (omega (arith, some))
  path-grown (suc j) some = path-step made falls j

-- what is gathered beyond the opening, written over by its reverse, is the path
pub turned-path : (made : List Made) (m : ℕ) (way turned rest : List ℕ) (n : ℕ) → path made m ≡ path made 0 ++ reverse way → turned ≡ reverse way → n ≡ length way
    → take n (turned ++ rest) ≡ path made m
turned-path made m way turned rest n whole is many =
    let long : n ≡ length turned = many ∙ sym (ap length is ∙ length-reverse way) in
    take-append-le n turned rest (omega (arith, long))
    ∙ ap (λ n. take n turned) long
    ∙ take-length turned
    ∙ is
    ∙ sym (whole ∙ ap (λ p. p ++ reverse way) (path-opening made))

pub parent-above : (made : List Made) → Falls made → (m end up : ℕ) → IsAbove made m end → up ≡ parent_at made m → IsAbove made up end
parent-above made falls m end up is parent =
    subst (λ up. IsAbove made up end) (sym parent) (above-above made (parent_at made m) m end (above-parent made falls m) is)

-- ---- back over one moment

pub differ : (a b : ℕ) → true ≡ not (a == b) → a ≡ b → ⊥
differ a b h e = true≢false (h ∙ ap not (eq-eqb a b e))

pub back-less : (s n : Timeline) (a : ℕ) → Falls s.tree.made → IsAbove s.tree.made a s.position → (s.position ≡ a → ⊥)
    → n ≡ moved_to s (parent_at s.tree.made s.position) → n.position < s.position
back-less s n a falls is other next = by s.position refl
  where
    up : n.position ≡ parent_at s.tree.made s.position
    up = ap (λ (t : Timeline). t.position) next

    some : 0 < s.position
    some = (above-next s.tree.made falls a s.position is other).0

    by : (p : ℕ) → s.position ≡ p → n.position < s.position
    by zero e = absurd (omega (arith, some, e))
    by (suc i) e = omega (arith, up, ap (parent_at s.tree.made) e, falls i, e)

pub back-above : (s n : Timeline) (a : ℕ) → Falls s.tree.made → IsAbove s.tree.made a s.position → (s.position ≡ a → ⊥)
    → n ≡ moved_to s (parent_at s.tree.made s.position) → IsAbove n.tree.made a n.position
back-above s n a falls is other next =
    subst (λ (t : Timeline). IsAbove t.tree.made a t.position) (sym next) (above-next s.tree.made falls a s.position is other).1

-- ---- forth over one moment

-- the path to p with the moments that are left, the last first, is this one; q is the next of them
module _ (made : List Made) (falls : Falls made) (whole : List ℕ) (is : IsPath made whole) (p q : ℕ) (left fewer : List ℕ)
    (so_far : path made p ++ reverse left ≡ whole) (popped : left ≡ fewer ++ q ∷ []) where
  apart : path made p ++ q ∷ reverse fewer ≡ whole
  apart = ap (λ r. path made p ++ r) (sym (ap reverse popped ∙ reverse-append fewer (q ∷ []))) ∙ so_far

  at : slice_get whole (length (path made p)) ≡ Some q
  at = ap (λ w. slice_get w (length (path made p))) (sym apart) ∙ get-seam (path made p) q (reverse fewer)

  pub forth-later : 0 < q
  forth-later = way-later made falls whole is (length (path made p)) q at

  pub forth-within : q ≤ length made
  forth-within = way-within made falls whole is (length (path made p)) q at

  pub forth-next : parent_at made q ≡ p
  forth-next =
      way-next made falls whole is (length (path made p)) q p at
      (sym (take-append_seam (path made p) (q ∷ reverse fewer)) ∙ ap (take (length (path made p))) apart)

  pub forth-left : path made q ++ reverse fewer ≡ whole
  forth-left =
      ap (λ w. w ++ reverse fewer) (path-grown made falls q forth-later ∙ ap (λ up. path made up ++ q ∷ []) forth-next)
      ∙ append_assoc (path made p) (q ∷ []) (reverse fewer)
      ∙ apart

-- none is left
pub forth-done : (made : List Made) → Falls made → (whole : List ℕ) (p : ℕ) (left : List ℕ) → path made p ++ reverse left ≡ whole → length left ≡ 0 → p ≡ end_of whole
forth-done made falls whole p [] so_far none = sym (path-end made falls p) ∙ ap end_of (sym (append-nil (path made p)) ∙ so_far)
forth-done made falls whole p (q ∷ left) so_far none = absurd (omega (arith, none))

-- back to the fork, and forth over what is left
pub moved-over : (h f r n : Timeline) (made : List Made) (fork moment : ℕ) (left : List ℕ) → Falls made → made ≡ f.tree.made → f ≡ unmoved h
    → path made moment ≡ path made fork ++ reverse left → r ≡ moved_to f fork → n ≡ moved_to r (end_of (path r.tree.made r.position ++ reverse left))
    → n ≡ moved_to h moment
moved-over h f r n made fork moment left falls is start apart back forth =
    let end : end_of (path r.tree.made r.position ++ reverse left) ≡ moment =
    ap (λ (t : Timeline). end_of (path t.tree.made t.position ++ reverse left)) back
    ∙ ap (λ made. end_of (path made fork ++ reverse left)) (sym is)
    ∙ ap end_of (sym apart)
    ∙ path-end made falls moment in
    forth
    ∙ ap (moved_to r) end
    ∙ ap (λ t. moved_to t moment) back
    ∙ ap (λ t. moved_to t moment) start
