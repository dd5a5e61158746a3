-- The first moments of a path are a path, whose end is the parent of the next one.
use Rattle.std.proofs.Common.{◌≡◌, ℕ, zero, suc, ◌+◌, ◌≤◌, ◌<◌, List, length, take, Some, sym, ◌∙◌, ap, subst, arith}
use Rattle.std.specs.Prelude.{slice_get, get_or}
use Rattle.std.proofs.lemmas.Option.{slice_get-get_or}
use Rattle.zt_history.specs.Tree.{Made, parent_at, path, end_of}
use Rattle.zt_history.specs.TreeInvariant.{Falls}
use Rattle.zt_history.specs.Timeline.{IsPath}
use Rattle.zt_history.proofs.PathLaws.{path-opening, path-end}
use Rattle.zt_history.proofs.WayLaws.{way-at, way-within, way-next}

module _ (made : List Made) (falls : Falls made) (way : List ℕ) (is : IsPath made way) where
  here : (n : ℕ) → n < length way → slice_get way n ≡ Some (get_or way n 0)
  here n low = slice_get-get_or way n 0 low

  pub front : (n : ℕ) → n ≤ length way → IsPath made (take n way)
  front zero low = record { moment = 0; there = omega arith; is = sym (path-opening made) }
  front (suc n) low =
      let at = here n (omega (arith, low)) in
      record {
        moment = get_or way n 0;
        there = way-within made falls way is n (get_or way n 0) at;
        is = sym (way-at made falls way is n (get_or way n 0) at);
      }

  pub front-one : (n : ℕ) → n < length way → IsPath made (take (n + 1) way)
  front-one n low = let next : suc n ≡ n + 1 = omega arith in subst (λ k. IsPath made (take k way)) next (front (suc n) (omega (arith, low)))

  end-of : (n : ℕ) → n < length way → end_of (take (suc n) way) ≡ get_or way n 0
  end-of n low = ap end_of (sym (way-at made falls way is n (get_or way n 0) (here n low))) ∙ path-end made falls (get_or way n 0)

  pub end-one : (n : ℕ) → n < length way → end_of (take (n + 1) way) ≡ get_or way n 0
  end-one n low = let next : n + 1 ≡ suc n = omega arith in ap (λ k. end_of (take k way)) next ∙ end-of n low

  front-of : (n : ℕ) → n ≤ length way → path made (end_of (take n way)) ≡ take n way
  front-of zero low = path-opening made
  front-of (suc n) low =
      let less : n < length way = omega (arith, low) in
      ap (path made) (end-of n less) ∙ way-at made falls way is n (get_or way n 0) (here n less)

  pub parent-of : (n : ℕ) → n < length way → parent_at made (get_or way n 0) ≡ end_of (take n way)
  parent-of n low = way-next made falls way is n (get_or way n 0) (end_of (take n way)) (here n low) (front-of n (omega (arith, low)))
