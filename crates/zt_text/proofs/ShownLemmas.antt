-- What holes of a format write, and lists with commas.
use Rattle.std.proofs.Common.{◌≡◌, ℕ, ◌^◌, ◌-◌, false, List, [], ◌∷◌, ◌++◌, map, ap, length, get_or, take, drop, length-drop, ◌≤◌, arith, append_assoc, sym, ◌∙◌}
use Rattle.std.specs.Prelude.{Result, Ok, Err, is_ok, OnOk, if◌then◌else◌}
use Rattle.std.specs.List.{flat_map, join_with_byte}
use Rattle.std.specs.Fmt.{digits, padded_integral, format_spec, char_count}
use Rattle.std.proofs.lemmas.List.{append-nil, take_all}
use native.Mathlib.Numerals.{unary_clauses}
use Rattle.zt_text.specs.ShownNumbers.{hexadecimal, shown_list}

-- what a hole `{:08x}` or `{:02x}` writes
pub padded-hexadecimal : (wanted n : ℕ) → padded_integral (format_spec 32 0 4 wanted (2 ^ 64 - 1)) false [] (digits 16 false n) ≡ hexadecimal wanted n
unfolding padded_integral hexadecimal char_count
padded-hexadecimal wanted n = simp (unary_clauses, append-nil)

joined : {A : Type 0} (show : A → List ℕ) (x : A) (xs : List A) → join_with_byte 44 (map show (x ∷ xs)) ≡ show x ++ flat_map (λ y. 44 ∷ show y) xs
joined show x [] = sym (append-nil (show x))
joined show x (y ∷ ys) = ap (λ zs. show x ++ (44 ∷ zs)) (joined show y ys)

-- a list with commas is its first element, and each other behind a comma
pub shown_list-cons : {A : Type 0} (show : A → List ℕ) (x : A) (xs : List A) → shown_list show (x ∷ xs) ≡ show x ++ flat_map (λ y. 44 ∷ show y) xs
shown_list-cons show x xs = joined show x xs

-- a list that begins with x is shown as x and then each element behind it after a comma
pub shown_list_at : {A : Type 0} (show : A → List ℕ) (xs : List A) (x : A) → 1 ≤ length xs → x ≡ get_or xs 0 x → shown_list show xs ≡ show x ++ flat_map (λ y. 44 ∷ show y) (drop 1 xs)
shown_list_at show [] x some first = absurd (omega arith)
shown_list_at show (y ∷ ys) x some first = rw first (shown_list-cons show y ys)

-- what is written once the first element and each other behind a comma are
pub list_written : {A : Type 0} (show : A → List ℕ) (xs : List A) (x : A) (i : ℕ) (old start text : List ℕ) → 1 ≤ length xs → x ≡ get_or xs 0 x → start ≡ old ++ show x → text ≡ start ++ flat_map (λ y. 44 ∷ show y) (take i (take (length xs - 1) (drop 1 xs))) → length (take (length xs - 1) (drop 1 xs)) ≤ i → text ≡ old ++ shown_list show xs
list_written {A} show xs x i old start text some first begun written past =
    let dropped : length (drop 1 xs) ≡ length xs - 1 = length-drop 1 xs in
    let others : take (length xs - 1) (drop 1 xs) ≡ drop 1 xs = take_all (length xs - 1) (drop 1 xs) (omega arith) in
    let all : take i (take (length xs - 1) (drop 1 xs)) ≡ take (length xs - 1) (drop 1 xs) = take_all i (take (length xs - 1) (drop 1 xs)) past in
    written ∙ rw (all, others, begun, append_assoc) (ap (λ ys. old ++ ys) (sym (shown_list_at show xs x some first)))

-- what is written once digits are pushed that are those to be shown
pub pushed : {E : Type 0} (r : Result (Unit {0}) E) (new old digits shown : List ℕ) → new ≡ (if is_ok r then old ++ digits else old) → digits ≡ shown → OnOk r (new ≡ old ++ shown)
pushed (Ok _) new old digits shown made same = made ∙ ap (λ ys. old ++ ys) same
pushed (Err _) new old digits shown made same = tt
