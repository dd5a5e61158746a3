-- Words with a separator between are cut into those words, and which words have none; lists with commas.
use Rattle.std.proofs.Common.{lit<, lit≤, ◌≡◌, ℕ, suc, ◌-◌, ◌^◌, ◌<◌, ◌≤◌, Bool, true, false, List, [], ◌∷◌, ◌++◌, length, map, Some, ℤ, pos, negsuc, refl, sym, ap, ◌∙◌, arith, All, append-nil, append_assoc, subst}
use Rattle.std.specs.Prelude.{Result, Ok, Err, OnOk, ⊤, ◌==◌, not, nat_le, nat_lt, codes}
use Rattle.std.specs.Char.{is_ascii_digit}
use Rattle.std.specs.List.{list_all, onto_first, join_with_byte}
use Rattle.std.specs.Fmt.{decimal, signed_decimal}
use Rattle.std.specs.Str.{bytes_eq}
use Rattle.std.proofs.lemmas.Bool.{and_parts, eq-eqb}
use Rattle.std.proofs.lemmas.Bool.Decides.{nat_tests}
use Rattle.std.proofs.lemmas.List.Elements.{All-head, All-tail}
use Rattle.std.proofs.lemmas.List.Folds.{list_all-append}
use Rattle.std.proofs.lemmas.List.Splits.{slice_split-cons_yes, slice_split-cons_no}
use Rattle.zt_text.specs.Numbers.{is_hex_digit}
use Rattle.zt_text.specs.Fields.{parts_of}
use Rattle.zt_text.specs.Lists.{each_handle, at_most_64, listed, handles_of}
use Rattle.std.proofs.lemmas.Fmt.{decimal_is_IsNumeral}
use Rattle.zt_rows.specs.declared.calls.Call.{Call}
use Rattle.zt_text.specs.ShownNumbers.{words, hexadecimal, shown_mask, shown_bytes, shown_list}
use Rattle.zt_text.specs.Bytes.{hex_text}
use Rattle.zt_text.specs.Calls.{IsByte, IsHandle, IsCode, call_name, flag_words, call_arguments, shown_call}
use Rattle.zt_text.specs.ProofsOnly.Calls.{spaced}
use Rattle.zt_text.proofs.ShownFields.{decimal_read, decimal_digits, mask_digits_shown, digits_of}

-- no byte of a word is the separator
abbrev pub is_free : ℕ → List ℕ → Bool
is_free separator word = list_all (λ byte. not (byte == separator)) word

abbrev pub AreFree : ℕ → List (List ℕ) → Type 0
AreFree separator [] = ⊤
AreFree separator (word ∷ others) = (is_free separator word ≡ true) × AreFree separator others

pub other_byte : (b c : ℕ) → not (b == c) ≡ true → (b == c) ≡ false
other_byte b c h = elim (b == c) as (λ t. not t ≡ true → t ≡ false) [ true ↦ λ e. sym e | false ↦ λ e. refl ] h

alone : (c : ℕ) (xs : List ℕ) → is_free c xs ≡ true → parts_of c xs ≡ xs ∷ []
alone c [] free = refl
alone c (x ∷ xs) free =
    let parts = and_parts (not (x == c)) (is_free c xs) free in
    slice_split-cons_no (λ byte. byte == c) x xs (other_byte x c parts.0) ∙ ap (onto_first x) (alone c xs parts.1)

in_front_of : (c : ℕ) (xs ys : List ℕ) → is_free c xs ≡ true → parts_of c (xs ++ (c ∷ ys)) ≡ xs ∷ parts_of c ys
in_front_of c [] ys free = slice_split-cons_yes (λ byte. byte == c) c ys (eq-eqb c c refl)
in_front_of c (x ∷ xs) ys free =
    let parts = and_parts (not (x == c)) (is_free c xs) free in
    slice_split-cons_no (λ byte. byte == c) x (xs ++ (c ∷ ys)) (other_byte x c parts.0) ∙ ap (onto_first x) (in_front_of c xs ys parts.1)

-- words with a separator between are cut into those words
pub parts_joined : (c : ℕ) (word : List ℕ) (others : List (List ℕ)) → is_free c word ≡ true → AreFree c others → parts_of c (join_with_byte c (word ∷ others)) ≡ word ∷ others
parts_joined c word [] free all = alone c word free
parts_joined c word (next ∷ others) free (here, all) =
    in_front_of c word (join_with_byte c (next ∷ others)) free ∙ ap (λ ws. word ∷ ws) (parts_joined c next others here all)

-- ---- words without a separator

pub passing : (p : ℕ → Bool) (c : ℕ) → ((b : ℕ) → p b ≡ true → not (b == c) ≡ true) → (bs : List ℕ) → list_all p bs ≡ true → is_free c bs ≡ true
passing p c other [] all = refl
passing p c other (b ∷ bs) all =
    let parts = and_parts (p b) (list_all p bs) all in
    rw (other b parts.0, passing p c other bs parts.1) refl

pub free_digits : (c : ℕ) → c < 48 → (bs : List ℕ) → list_all is_ascii_digit bs ≡ true → is_free c bs ≡ true
free_digits c low bs all = passing is_ascii_digit c (λ b h. let other : (b == c) ≡ false = grind (arith, nat_tests) in rw other refl) bs all

pub free_hex : (c : ℕ) → c < 48 → (bs : List ℕ) → list_all is_hex_digit bs ≡ true → is_free c bs ≡ true
free_hex c low bs all = passing is_hex_digit c (λ b h. let other : (b == c) ≡ false = grind (arith, nat_tests) in rw other refl) bs all

pub free_decimal : (c n : ℕ) → c < 48 → n < 2 ^ 64 → is_free c (decimal n) ≡ true
free_decimal c n low small = free_digits c low (decimal n) (decimal_digits n small)

-- ---- words of visible bytes

-- every byte of a word is above the space, and so is none of the bytes up to it
abbrev pub is_seen : List ℕ → Bool
is_seen word = list_all (λ byte. nat_lt 32 byte) word

abbrev pub AreSeen : List (List ℕ) → Type 0
AreSeen [] = ⊤
AreSeen (word ∷ others) = (is_seen word ≡ true) × AreSeen others

-- a word that may stand at the end
pub seen_flag : (word : List ℕ) (stands : Bool) → is_seen word ≡ true → AreSeen (flag_words word stands)
seen_flag word true seen = (seen, tt)
seen_flag word false seen = tt

pub free_seen : (c : ℕ) → c ≤ 32 → (word : List ℕ) → is_seen word ≡ true → is_free c word ≡ true
free_seen c low word all = passing (λ byte. nat_lt 32 byte) c (λ b h. let other : (b == c) ≡ false = grind (arith, nat_tests) in rw other refl) word all

pub all_free : (words : List (List ℕ)) → AreSeen words → AreFree 32 words
all_free [] are = tt
all_free (word ∷ others) (here, are) = (free_seen 32 (lit≤ tt) word here, all_free others are)

pub seen_if : (p : ℕ → Bool) → ((b : ℕ) → p b ≡ true → nat_lt 32 b ≡ true) → (bs : List ℕ) → list_all p bs ≡ true → is_seen bs ≡ true
seen_if p high [] all = refl
seen_if p high (b ∷ bs) all =
    let parts = and_parts (p b) (list_all p bs) all in
    rw (high b parts.0, seen_if p high bs parts.1) refl

pub seen_digits : (bs : List ℕ) → list_all is_ascii_digit bs ≡ true → is_seen bs ≡ true
seen_digits bs all = seen_if is_ascii_digit (λ b h. grind (arith, nat_tests)) bs all

pub seen_hex : (bs : List ℕ) → list_all is_hex_digit bs ≡ true → is_seen bs ≡ true
seen_hex bs all = seen_if is_hex_digit (λ b h. grind (arith, nat_tests)) bs all

pub seen_decimal : (n : ℕ) → n < 2 ^ 64 → is_seen (decimal n) ≡ true
seen_decimal n small = seen_digits (decimal n) (decimal_digits n small)

pub seen_code : (z : ℤ) → IsCode z → is_seen (signed_decimal z) ≡ true
seen_code (pos n) small = seen_decimal n (omega arith)
seen_code (negsuc n) small = seen_decimal (suc n) (omega arith)

pub seen_mask : (n : ℕ) → n < 2 ^ 32 → is_seen (shown_mask n) ≡ true
seen_mask n small = seen_hex (hexadecimal 8 n) (mask_digits_shown n small)

pub seen_bytes : (bytes : List ℕ) → All IsByte bytes → is_seen (shown_bytes bytes) ≡ true
seen_bytes [] are = refl
seen_bytes (byte ∷ bytes) are = seen_hex (hex_text (byte ∷ bytes)) (digits_of (byte ∷ bytes) are).all

-- elements with commas between are seen where each is
pub seen_joined : (words : List (List ℕ)) → AreSeen words → is_seen (join_with_byte 44 words) ≡ true
seen_joined [] are = refl
seen_joined (word ∷ []) (here, are) = here
seen_joined (word ∷ next ∷ others) (here, are) =
    list_all-append (λ byte. nat_lt 32 byte) word (44 ∷ join_with_byte 44 (next ∷ others)) ∙ rw (here, seen_joined (next ∷ others) are) refl

-- a line of words has no line feed
pub line_free : (words : List (List ℕ)) → AreSeen words → is_free 10 (join_with_byte 32 words) ≡ true
line_free [] are = refl
line_free (word ∷ []) (here, are) = free_seen 10 (lit≤ tt) word here
line_free (word ∷ next ∷ others) (here, are) =
    list_all-append (λ byte. not (byte == 10)) word (32 ∷ join_with_byte 32 (next ∷ others))
    ∙ rw (free_seen 10 (lit≤ tt) word here, line_free (next ∷ others) are) refl

-- ---- lists of handles

each_seen : (handles : List ℕ) → All IsHandle handles → AreSeen (map decimal handles)
each_seen [] are = tt
each_seen (h ∷ hs) are =
    let here : h < 2 ^ 32 = All-head IsHandle h hs are in
    (seen_decimal h (omega (arith, here)), each_seen hs (All-tail IsHandle h hs are))

pub seen_handles : (handles : List ℕ) → All IsHandle handles → is_seen (shown_list decimal handles) ≡ true
seen_handles [] are = refl
seen_handles (h ∷ hs) are = seen_joined (map decimal (h ∷ hs)) (each_seen (h ∷ hs) are)

each_read : (handles : List ℕ) → All IsHandle handles → each_handle (map decimal handles) ≡ Some handles
each_read [] are = refl
each_read (h ∷ hs) are =
    let here : h < 2 ^ 32 = All-head IsHandle h hs are in
    let first = decimal_read (2 ^ 32 - 1) h (omega (arith, here)) (lit< tt) in
    rw (first, each_read hs (All-tail IsHandle h hs are)) refl

each_free : (handles : List ℕ) → All IsHandle handles → AreFree 44 (map decimal handles)
each_free [] are = tt
each_free (h ∷ hs) are =
    let here : h < 2 ^ 32 = All-head IsHandle h hs are in
    (free_decimal 44 h (lit< tt) (omega (arith, here)), each_free hs (All-tail IsHandle h hs are))

pub no_dash : (ds rest : List ℕ) → 0 < length ds → list_all is_ascii_digit ds ≡ true → bytes_eq (ds ++ rest) (codes "-") ≡ false
no_dash [] rest some all = absurd (omega arith)
no_dash (d ∷ ds) rest some all =
    let parts = and_parts (is_ascii_digit d) (list_all is_ascii_digit ds) all in
    let other : (d == 45) ≡ false = grind (arith, nat_tests) in
    rw other refl

no_dash_joined : (h : ℕ) (hs : List ℕ) → h < 2 ^ 32 → bytes_eq (join_with_byte 44 (map decimal (h ∷ hs))) (codes "-") ≡ false
no_dash_joined h [] small =
    let numeral = decimal_is_IsNumeral h (omega (arith, small)) in
    subst (λ text. bytes_eq text (codes "-") ≡ false) (append-nil (decimal h)) (no_dash (decimal h) [] numeral.0.0 (decimal_digits h (omega (arith, small))))
no_dash_joined h (g ∷ hs) small =
    let numeral = decimal_is_IsNumeral h (omega (arith, small)) in
    no_dash (decimal h) (44 ∷ join_with_byte 44 (map decimal (g ∷ hs))) numeral.0.0 (decimal_digits h (omega (arith, small)))

listed_read : (h : ℕ) (hs : List ℕ) → All IsHandle (h ∷ hs) → length (h ∷ hs) ≤ 64 → listed (join_with_byte 44 (map decimal (h ∷ hs))) ≡ Some (h ∷ hs)
unfolding listed
listed_read h hs are few =
    let free = each_free (h ∷ hs) are in
    let parts = parts_joined 44 (decimal h) (map decimal hs) free.0 free.1 in
    let most : nat_le (length (h ∷ hs)) 64 ≡ true = grind (arith, nat_tests, few) in
    ap (λ ps. at_most_64 (each_handle ps)) parts ∙ ap at_most_64 (each_read (h ∷ hs) are) ∙ rw most refl

pub handles_read : (handles : List ℕ) → All IsHandle handles → length handles ≤ 64 → handles_of (shown_list decimal handles) ≡ Some handles
unfolding handles_of
handles_read [] are few = refl
handles_read (h ∷ hs) are few = rw (no_dash_joined h hs (All-head IsHandle h hs are)) (listed_read h hs are few)

-- ---- the words of a call

spaced_cons : (word : List ℕ) (others : List (List ℕ)) → spaced (word ∷ others) ≡ 32 ∷ (word ++ spaced others)
spaced_cons word [] = ap (λ text. 32 ∷ text) (sym (append-nil word))
spaced_cons word (next ∷ others) = refl

words_spaced : (word : List ℕ) (others : List (List ℕ)) → words (word ∷ others) ≡ word ++ spaced others
words_spaced word [] = sym (append-nil word)
words_spaced word (next ∷ others) = ap (λ text. word ++ (32 ∷ text)) (words_spaced next others) ∙ ap (λ text. word ++ text) (sym (spaced_cons next others))

-- the line of a call is its process, its name and its arguments, with a space in front of each
shown_call_is : (process : ℕ) (made : Call) → shown_call process made ≡ decimal process ++ (32 ∷ (call_name made ++ spaced (call_arguments made)))
unfolding shown_call
shown_call_is process made = ap (λ text. decimal process ++ (32 ∷ text)) (words_spaced (call_name made) (call_arguments made))

-- what is written once the process, the name and the arguments are
pub call_written : {E : Type 0} (r : Result (Unit {0}) E) (process : ℕ) (made : Call) (old begun named text : List ℕ) → begun ≡ old ++ (decimal process ++ (32 ∷ [])) → named ≡ begun ++ call_name made → OnOk r (text ≡ named ++ spaced (call_arguments made)) → OnOk r (text ≡ old ++ shown_call process made)
call_written (Err _) process made old begun named text first second third = tt
call_written (Ok _) process made old begun named text first second third =
    rw (third, second, first, shown_call_is process made, append_assoc old (decimal process ++ (32 ∷ [])) (call_name made), append_assoc (decimal process) (32 ∷ []) (call_name made), append_assoc old (decimal process ++ (32 ∷ call_name made)) (spaced (call_arguments made)), append_assoc (decimal process) (32 ∷ call_name made) (spaced (call_arguments made))) refl
