-- Words of a command line, and the values that are read of them.
use Rattle.std.specs.Prelude.{◌≡◌, ◌<◌, ◌^◌, ℕ, Bool, Option, Some, None, true, false, codes, ⊤}
use Rattle.std.specs.Str.Parse.{IsNumeral, digits_value, without_leading_plus}
use Rattle.clap.specs.Words.{Rule, Text, new_rule}
use Rattle.clap.specs.declared.builder.ArgAction.TheVariants.{Set, SetTrue}

-- a word with a value behind it, as `--from TRACE`
abbrev pub valued : Text → Rule
valued name = record (new_rule name) { long = Some name; action = Some Set; value_names = 1 }

-- a word with none, as `--names`
abbrev pub flag : Text → Rule
flag name = record (new_rule name) { long = Some name; action = Some SetTrue }

-- a word by its place, that cannot lack
abbrev pub needed : Text → Rule
needed name = record (new_rule name) { action = Some Set; required = true }

-- the number that a text reads as, in so many bits
abbrev pub IsNumberOf : ℕ → Option Text → ℕ → Type 0
IsNumberOf bits None n = ⊤
IsNumberOf bits (Some text) n =
    IsNumeral 10 (without_leading_plus text) → digits_value 10 (without_leading_plus text) < 2 ^ bits
    → n ≡ digits_value 10 (without_leading_plus text)

-- the number that a text reads as, in so many bits, or none where there is no text
abbrev pub IsOptionalNumberOf : ℕ → Option Text → Option ℕ → Type 0
IsOptionalNumberOf bits None n = n ≡ None
IsOptionalNumberOf bits (Some text) n =
    IsNumeral 10 (without_leading_plus text) → digits_value 10 (without_leading_plus text) < 2 ^ bits
    → n ≡ Some (digits_value 10 (without_leading_plus text))

-- whether a flag is there, by the text that it reads as
pub record IsFlagOf (text : Option Text) (is_there : Bool) : Type 0 where
  pub none : text ≡ None → is_there ≡ false
  pub yes : text ≡ Some (codes "true") → is_there ≡ true
  pub no : text ≡ Some (codes "false") → is_there ≡ false
