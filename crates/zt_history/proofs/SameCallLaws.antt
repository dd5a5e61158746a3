-- Lists that are compared element by element are one.
use Rattle.std.proofs.Common.{◌≡◌, ℕ, List, true, refl}
use Rattle.std.specs.Prelude.{◌==◌}
use Rattle.std.specs.Cmp.Lexicographic.{pointwise}
use Rattle.std.proofs.lemmas.Bool.Decides.{Decides-eqb}
use Rattle.std.proofs.lemmas.Slice.Eq.{slice_eq-Decides}
use Rattle.zt_rows.specs.Contents.{ParcelContent}

pub same_numbers : (xs ys : List ℕ) → pointwise (λ x y. x == y) xs ys ≡ true → xs ≡ ys
same_numbers xs ys e = (slice_eq-Decides Decides-eqb xs ys _ refl).0 e

pub same_parcels : (a b : ParcelContent) → a.bytes ≡ b.bytes → a.handles ≡ b.handles → a ≡ b
same_parcels a b bytes handles = λ i. record { bytes = bytes i; handles = handles i }
