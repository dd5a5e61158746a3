-- What a word reads as, and what is so of some words or of all.
use Rattle.std.proofs.Common.{◌||◌, ◌&&◌, ◌≡◌, ℕ, ◌≤◌, ◌<◌, ◌^◌, Bool, true, false, List, [], ◌∷◌, map, Some, None, refl, sym, ◌∙◌, ap, arith, Bor}
use Rattle.std.specs.Prelude.{if◌then◌else◌}
use Rattle.std.specs.List.{list_all, list_any}
use Rattle.std.specs.Str.{bytes_eq}
use Rattle.std.specs.Str.Parse.{IsNumeral, digits_value, without_leading_plus}
use Rattle.clap.specs.ValueTests.{is_unsigned_in}
use Rattle.clap.specs.Words.{Text}
use Rattle.clap.specs.declared.builder.value_parser.ValueParser.TheVariants as parser
use Rattle.clap.proofs.ValueTestLemmas.{accepts-Accepts, Accepts-accepts}
use Rattle.zt_words.specs.Questions.{is_happening, number_up_to}

pub any_named : (words : List (Bor Text)) (name : Text) → list_any (λ word. bytes_eq word name) (map (λ s. s.now) words) ≡ list_any (λ s. bytes_eq s.now name) words
any_named [] name = refl
any_named (w ∷ ws) name = ap (λ b. bytes_eq w.now name || b) (any_named ws name)

pub all_happening : (words : List (Bor Text)) → list_all is_happening (map (λ s. s.now) words) ≡ list_all (λ s. is_happening s.now) words
all_happening [] = refl
all_happening (w ∷ ws) = ap (λ b. is_happening w.now && b) (all_happening ws)

-- a text that reads as a number within the bound, and one that reads as none
abbrev IsRead : Text → Type 0
IsRead word = IsNumeral 10 (without_leading_plus word) × (digits_value 10 (without_leading_plus word) < 2 ^ 64)

pub number_within : (most n : ℕ) (word : Text) → IsRead word → n ≡ digits_value 10 (without_leading_plus word) → n ≤ most → Some n ≡ number_up_to most word
number_within most n word h value within =
    let low : 0 ≤ digits_value 10 (without_leading_plus word) = omega arith in
    let high : digits_value 10 (without_leading_plus word) ≤ most = omega (arith, value, within) in
    let passes : is_unsigned_in 0 most word ≡ true = Accepts-accepts false (parser.Unsigned 0 most) word (h.0, h.1, low, high) in
    ap Some value ∙ ap (λ b. if◌then◌else◌ b (Some (digits_value 10 (without_leading_plus word))) None) (sym passes)

pub no_number : (most : ℕ) (word : Text) → (IsRead word → ⊥) → None ≡ number_up_to most word
no_number most word h = by (is_unsigned_in 0 most word) refl
  where
    by : (b : Bool) → is_unsigned_in 0 most word ≡ b → None ≡ if◌then◌else◌ b (Some (digits_value 10 (without_leading_plus word))) None
    by true is = let read = accepts-Accepts false (parser.Unsigned 0 most) word is in absurd (h (read.0, read.1))
    by false is = refl
