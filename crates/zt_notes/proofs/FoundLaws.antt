-- A text stands in a text exactly where it occurs at some place.
use Rattle.std.proofs.Common.{◌≡◌, ℕ, zero, suc, Bool, true, false, List, [], ◌∷◌, length, take, Option, Some, None, refl, sym, ap, arith, nat_eq, ⊎_elim}
use Rattle.std.specs.Prelude.{is_some, ◌||◌}
use Rattle.std.specs.List.{starts_with}
use Rattle.std.proofs.lemmas.Bool.{cases_Bool}
use Rattle.std.proofs.lemmas.Grind.{common_steps}
use Rattle.std.proofs.lemmas.Slice.Eq.{bytes_eq-Decides}
use Rattle.memchr.specs.Find.{FindsNeedle, OccursAt}
use Rattle.memchr.proofs.lemmas.MatchLemmas.{OccursAt-part, OccursAt-from_part}
use Rattle.zt_notes.specs.Found.{has_text}

-- at the beginning
begins : (hay needle : List ℕ) → starts_with nat_eq hay needle ≡ true → OccursAt hay needle 0
begins hay needle is =
    let e : needle ≡ take (length needle) hay = (bytes_eq-Decides needle (take (length needle) hay)).0 is in
    let same = ap length e in
    OccursAt-from_part hay needle 0 (grind (arith, common_steps)) (sym e)

begun : (hay needle : List ℕ) → OccursAt hay needle 0 → starts_with nat_eq hay needle ≡ true
begun hay needle occurs = (bytes_eq-Decides needle (take (length needle) hay)).1 (sym (OccursAt-part hay needle 0 occurs))

-- further on
shifted : (byte : ℕ) (bytes needle : List ℕ) (k : ℕ) → OccursAt bytes needle k → OccursAt (byte ∷ bytes) needle (suc k)
shifted byte bytes needle k occurs = OccursAt-from_part (byte ∷ bytes) needle (suc k) (omega (arith, occurs.fits)) (OccursAt-part bytes needle k occurs)

unshifted : (byte : ℕ) (bytes needle : List ℕ) (k : ℕ) → OccursAt (byte ∷ bytes) needle (suc k) → OccursAt bytes needle k
unshifted byte bytes needle k occurs = OccursAt-from_part bytes needle k (omega (arith, occurs.fits)) (OccursAt-part (byte ∷ bytes) needle (suc k) occurs)

either_way : (here later : Bool) → later ≡ true → (here || later) ≡ true
either_way true later is = refl
either_way false later is = is

-- where it stands
stands : (hay needle : List ℕ) → has_text hay needle ≡ true → (k : ℕ) × OccursAt hay needle k
stands [] needle is = (0, begins [] needle is)
stands (byte ∷ bytes) needle is = elim (starts_with nat_eq (byte ∷ bytes) needle) as (λ here. starts_with nat_eq (byte ∷ bytes) needle ≡ here → (here || has_text bytes needle) ≡ true → (k : ℕ) × OccursAt (byte ∷ bytes) needle k) [
  | true ↦ λ here _. (0, begins (byte ∷ bytes) needle here)
  | false ↦ λ _ later. let found = stands bytes needle later in (suc found.0, shifted byte bytes needle found.0 found.1)
] refl is

stood : (hay needle : List ℕ) (k : ℕ) → OccursAt hay needle k → has_text hay needle ≡ true
stood [] needle zero occurs = begun [] needle occurs
stood [] needle (suc k) occurs = absurd (omega (arith, occurs.fits))
stood (byte ∷ bytes) needle zero occurs = rw (begun (byte ∷ bytes) needle occurs) refl
stood (byte ∷ bytes) needle (suc k) occurs =
    either_way (starts_with nat_eq (byte ∷ bytes) needle) (has_text bytes needle) (stood bytes needle k (unshifted byte bytes needle k occurs))

pub found : (hay needle : List ℕ) (r : Option ℕ) → FindsNeedle hay needle 0 r → is_some r ≡ has_text hay needle
found hay needle (Some k) finds = sym (stood hay needle k finds.1)
found hay needle None finds =
    ⊎_elim (λ is. let at = stands hay needle is in absurd (finds at.0 (omega arith) (omega (arith, at.1.fits)) at.1)) (λ is. sym is) (cases_Bool (has_text hay needle))
