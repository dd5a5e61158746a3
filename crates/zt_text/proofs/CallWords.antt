-- A field that is compared byte by byte with the name of a call.
use Rattle.std.proofs.Common.{◌≡◌, ℕ, List, codes, arith, refl, ap, sym, length, slice_index, true, false}
use Rattle.std.specs.Str.{bytes_eq}
use Rattle.std.proofs.lemmas.Bool.{false_from_ne_true}
use Rattle.std.proofs.lemmas.Slice.Eq.{bytes_eq-Decides, text_from_reads}

-- thirteen bytes that are those of `object_signal`, one by one
pub is_object_signal : (xs : List ℕ) → length xs ≡ 13
    → slice_index xs 0 ≡ 111 → slice_index xs 1 ≡ 98 → slice_index xs 2 ≡ 106 → slice_index xs 3 ≡ 101 → slice_index xs 4 ≡ 99
    → slice_index xs 5 ≡ 116 → slice_index xs 6 ≡ 95 → slice_index xs 7 ≡ 115 → slice_index xs 8 ≡ 105 → slice_index xs 9 ≡ 103
    → slice_index xs 10 ≡ 110 → slice_index xs 11 ≡ 97 → slice_index xs 12 ≡ 108
    → true ≡ bytes_eq xs (codes "object_signal")
is_object_signal xs n a b c d e f g h i j k l m =
    let same : xs ≡ codes "object_signal" =
    text_from_reads _ _ n (a, (b, (c, (d, (e, (f, (g, (h, (i, (j, (k, (l, (m, tt))))))))))))) in
    rw same refl

-- bytes of which the eleventh is another
pub is_no_object_signal : (xs : List ℕ) → (slice_index xs 10 ≡ 110 → ⊥) → false ≡ bytes_eq xs (codes "object_signal")
is_no_object_signal xs differs =
    let told = bytes_eq-Decides xs (codes "object_signal") in
    sym (false_from_ne_true (bytes_eq xs (codes "object_signal")) (λ same.
    let is : xs ≡ codes "object_signal" = told.0 same in
    let byte = ap (λ bytes. slice_index bytes 10) is in
    differs (omega arith)))
