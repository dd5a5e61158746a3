-- What values say as numbers.
use Rattle.std.specs.Prelude.{◌≡◌, ◌⊎◌, ℕ, ℤ, take, drop, Bool, false, List, Option, Some, None, IsSome, if◌then◌else◌, codes}
use Rattle.std.specs.Str.{bytes_eq}
use Rattle.std.specs.Str.Parse.{IsNumeral, digits_value, without_leading_sign, signed_digits_value}
use Rattle.json.specs.Json.{Json, boolean}
use Rattle.json.specs.Find.{as_number, as_str}

-- digits of a base write this number
abbrev pub IsWritten : ℕ → List ℕ → ℕ → Type 0
IsWritten base digits n = IsNumeral base digits × (n ≡ digits_value base digits)

-- a text of `0x` and hexadecimal digits, or of decimal ones, writes this number
abbrev pub has_prefix : List ℕ → Bool
has_prefix text = bytes_eq (take 2 text) (codes "0x")

abbrev pub IsNumberText : List ℕ → ℕ → Type 0
IsNumberText text n = IsWritten (if has_prefix text then 16 else 10) (if has_prefix text then drop 2 text else text) n

-- a value is this number: one of JSON that decimal digits alone write, or a text that writes it
abbrev pub IsNumber : Json → ℕ → Type 0
IsNumber d n =
    ((digits : List ℕ) × (as_number d ≡ Some digits) × IsWritten 10 digits n) ⊎ ((text : List ℕ) × (as_str d ≡ Some text) × IsNumberText text n)

-- a value that is there is this number
abbrev pub IsNumberIn : Option Json → ℕ → Type 0
IsNumberIn None n = ⊥
IsNumberIn (Some d) n = IsNumber d n

-- a value is these bits: it is the number, or it is a text, which may name bits; of what names stand for no more is said
abbrev pub IsMask : Json → ℕ → Type 0
IsMask d n = IsNumber d n ⊎ IsSome (as_str d)

abbrev pub IsMaskIn : Option Json → ℕ → Type 0
IsMaskIn None n = ⊥
IsMaskIn (Some d) n = IsMask d n

-- a handle is this number; one that is left out is 0
abbrev pub IsNumberOrNone : Option Json → ℕ → Type 0
IsNumberOrNone None n = n ≡ 0
IsNumberOrNone (Some d) n = IsNumber d n

-- a value is these bits; one that is left out is 0
abbrev pub IsMaskOrNone : Option Json → ℕ → Type 0
IsMaskOrNone None n = n ≡ 0
IsMaskOrNone (Some d) n = IsMask d n

-- a value as true or false: one that is left out is false, and a value of another kind is neither
abbrev pub flag_of : Option Json → Option Bool
flag_of None = Some false
flag_of (Some (boolean b)) = Some b
flag_of (Some _) = None

-- decimal digits, with a minus ahead or none, write this signed number; `-0` writes none
abbrev pub IsSigned : List ℕ → ℤ → Type 0
IsSigned text z = IsNumeral 10 (without_leading_sign text) × (z ≡ signed_digits_value 10 text) × (bytes_eq text (codes "-0") ≡ false)

-- a value is this signed number, as one of JSON; of a text that writes it no more is said
abbrev pub IsSignedIn : Option Json → ℤ → Type 0
IsSignedIn None z = ⊥
IsSignedIn (Some d) z = ((text : List ℕ) × (as_number d ≡ Some text) × IsSigned text z) ⊎ IsSome (as_str d)
