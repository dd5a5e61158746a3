-- The names of a mask's bits, written one behind another.
use Rattle.std.proofs.Common.{◌≡◌, ℕ, ◌+◌, ◌-◌, ◌<◌, ◌≤◌, Bool, true, false, List, [], ◌∷◌, ◌++◌, length, drop, get_or, refl, sym, ap, ◌∙◌, arith, append_assoc}
use Rattle.std.specs.Prelude.{◌==◌, bit_and, if◌then◌else◌, Result, Ok, Err, OnOk}
use denote.Ref.{Bor}
use Rattle.std.specs.List.{join_with_byte}
use Rattle.std.proofs.lemmas.Bool.Decides.{nat_tests}
use Rattle.std.proofs.lemmas.List.{drop_more, drop_all}
use Rattle.zt_text.specs.ShownNumbers.{shown_mask}
use Rattle.zt_look.specs.Names.{Names, bit_words, shown_bits}
use Rattle.zt_look.specs.ProofsOnly.BitsLeft.{Table, names_of, text_left}

-- ---- by the list of names

-- no bits, no words
no_words : (names : Names) → bit_words names 0 ≡ []
no_words [] = refl
no_words ((bit, name) ∷ others) = no_words others

either_words : (b : Bool) (name : List ℕ) (without behind : List (List ℕ)) → (w : List ℕ) × (ws : List (List ℕ)) × (without ≡ w ∷ ws) → (w : List ℕ) × (ws : List (List ℕ)) × ((if b then without else name ∷ behind) ≡ w ∷ ws)
either_words true name without behind some = some
either_words false name without behind some = (name, behind, refl)

-- some bits, some words
some_words : (names : Names) (bits : ℕ) → 0 < bits → (w : List ℕ) × (ws : List (List ℕ)) × (bit_words names bits ≡ w ∷ ws)
some_words [] bits some =
    let there : (bits == 0) ≡ false = grind (arith, nat_tests) in
    (shown_mask bits, [], rw there refl)
some_words ((bit, name) ∷ others) bits some = either_words (bit_and bits bit == 0) name (bit_words others bits) (bit_words others (bits - bit)) (some_words others bits some)

barred : (name w : List ℕ) (ws all : List (List ℕ)) → all ≡ w ∷ ws → join_with_byte 124 (name ∷ all) ≡ name ++ (124 ∷ join_with_byte 124 all)
barred name w ws all e = rw e refl

-- a mask with a bit shows its words
shown_some : (names : Names) (bits : ℕ) → (bits ≡ 0 → ⊥) → shown_bits names bits ≡ join_with_byte 124 (bit_words names bits)
unfolding shown_bits
shown_some names bits some =
    let there : (bits == 0) ≡ false = grind (arith, nat_tests) in
    rw there refl

-- ---- by the place in the table

left_at : (table : Table) (i : ℕ) (d : ℕ × Bor (List ℕ)) (left : ℕ) → i < length table → bit_words (names_of (drop i table)) left ≡ bit_words (((get_or table i d).0, (get_or table i d).1.now) ∷ names_of (drop (i + 1) table)) left
left_at table i d left within = ap (λ xs. bit_words (names_of xs) left) (drop_more table i d within)

-- a bit that the mask has not
pub passed : (table : Table) (i : ℕ) (d : ℕ × Bor (List ℕ)) (left : ℕ) → i < length table → bit_and left (get_or table i d).0 ≡ 0 → text_left (drop i table) left ≡ text_left (drop (i + 1) table) left
passed table i d left within absent =
    let gone : (bit_and left (get_or table i d).0 == 0) ≡ true = grind (arith, nat_tests) in
    let without : bit_words (((get_or table i d).0, (get_or table i d).1.now) ∷ names_of (drop (i + 1) table)) left ≡ bit_words (names_of (drop (i + 1) table)) left = rw gone refl in
    ap (join_with_byte 124) (left_at table i d left within ∙ without)

has : (n : ℕ) → (n ≡ 0 → ⊥) → (n == 0) ≡ false
has n some = grind (arith, nat_tests)

-- the last bit that the mask has
ended : (table : Table) (i : ℕ) (d : ℕ × Bor (List ℕ)) (left : ℕ) → i < length table → (bit_and left (get_or table i d).0 ≡ 0 → ⊥) → left - (get_or table i d).0 ≡ 0 → text_left (drop i table) left ≡ (get_or table i d).1.now
ended table i d left within there none =
    let kept : (bit_and left (get_or table i d).0 == 0) ≡ false = has (bit_and left (get_or table i d).0) there in
    let alone : bit_words (((get_or table i d).0, (get_or table i d).1.now) ∷ names_of (drop (i + 1) table)) left ≡ (get_or table i d).1.now ∷ [] = rw (kept, none, no_words (names_of (drop (i + 1) table))) refl in
    ap (join_with_byte 124) (left_at table i d left within ∙ alone)

-- a bit that the mask has, and others
named : (table : Table) (i : ℕ) (d : ℕ × Bor (List ℕ)) (left : ℕ) → i < length table → (bit_and left (get_or table i d).0 ≡ 0 → ⊥) → 0 < left - (get_or table i d).0 → text_left (drop i table) left ≡ (get_or table i d).1.now ++ (124 ∷ text_left (drop (i + 1) table) (left - (get_or table i d).0))
named table i d left within there more =
    let kept : (bit_and left (get_or table i d).0 == 0) ≡ false = has (bit_and left (get_or table i d).0) there in
    let rest : List (List ℕ) = bit_words (names_of (drop (i + 1) table)) (left - (get_or table i d).0) in
    let others = some_words (names_of (drop (i + 1) table)) (left - (get_or table i d).0) more in
    let first : bit_words (((get_or table i d).0, (get_or table i d).1.now) ∷ names_of (drop (i + 1) table)) left ≡ (get_or table i d).1.now ∷ rest = rw kept refl in
    ap (join_with_byte 124) (left_at table i d left within ∙ first)
    ∙ barred (get_or table i d).1.now others.0 others.1 rest others.2

-- ---- what is written, and what is to be written

pub last-written : (table : Table) (i : ℕ) (d : ℕ × Bor (List ℕ)) (left after bits : ℕ) (old text new : List ℕ) → i < length table → (bits ≡ 0 → ⊥) → (bit_and left (get_or table i d).0 ≡ 0 → ⊥) → after ≡ left - (get_or table i d).0 → after ≡ 0 → text ++ text_left (drop i table) left ≡ old ++ text_left table bits → new ≡ text ++ (get_or table i d).1.now → new ≡ old ++ shown_bits (names_of table) bits
last-written table i d left after bits old text new within some there is none so_far written =
    written ∙ ap (λ ys. text ++ ys) (sym (ended table i d left within there (sym is ∙ none))) ∙ so_far
    ∙ ap (λ ys. old ++ ys) (sym (shown_some (names_of table) bits some))

pub more-written : (table : Table) (i : ℕ) (d : ℕ × Bor (List ℕ)) (left after bits : ℕ) (old text with_name new : List ℕ) → i < length table → (bit_and left (get_or table i d).0 ≡ 0 → ⊥) → after ≡ left - (get_or table i d).0 → (after ≡ 0 → ⊥) → text ++ text_left (drop i table) left ≡ old ++ text_left table bits → with_name ≡ text ++ (get_or table i d).1.now → new ≡ with_name ++ (124 ∷ []) → (0 < after) × (new ++ text_left (drop (i + 1) table) after ≡ old ++ text_left table bits)
more-written table i d left after bits old text with_name new within there is some so_far named_so barred_so =
    let more : 0 < left - (get_or table i d).0 = omega arith in
    let name : List ℕ = (get_or table i d).1.now in
    let rest : List ℕ = text_left (drop (i + 1) table) (left - (get_or table i d).0) in
    let here : text_left (drop i table) left ≡ name ++ (124 ∷ rest) = named table i d left within there more in
    let joined : ((text ++ name) ++ (124 ∷ [])) ++ rest ≡ text ++ (name ++ (124 ∷ rest)) = append_assoc (text ++ name) (124 ∷ []) rest ∙ append_assoc text name (124 ∷ rest) in
    (omega arith, rw (barred_so, named_so, is) (joined ∙ ap (λ ys. text ++ ys) (sym here) ∙ so_far))

pub rest-written : {E : Type 0} (r : Result (Unit {0}) E) (table : Table) (i left bits : ℕ) (old text new : List ℕ) → length table ≤ i → (bits ≡ 0 → ⊥) → 0 < left → text ++ text_left (drop i table) left ≡ old ++ text_left table bits → OnOk r (new ≡ text ++ shown_mask left) → OnOk r (new ≡ old ++ shown_bits (names_of table) bits)
rest-written (Err _) table i left bits old text new past some more so_far written = tt
rest-written (Ok _) table i left bits old text new past some more so_far written =
    let none : drop i table ≡ [] = drop_all i table past in
    let there : (left == 0) ≡ false = grind (arith, nat_tests) in
    let nameless : text_left [] left ≡ shown_mask left = rw there refl in
    let here : text_left (drop i table) left ≡ shown_mask left = ap (λ xs. text_left xs left) none ∙ nameless in
    written ∙ ap (λ ys. text ++ ys) (sym here) ∙ so_far ∙ ap (λ ys. old ++ ys) (sym (shown_some (names_of table) bits some))
