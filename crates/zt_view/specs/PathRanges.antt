-- The moments of a path, in ranges. This project's own.
use Rattle.std.specs.Prelude.{ℕ, Bool, ◌+◌, ◌==◌, List, [], ◌∷◌, if◌then◌else◌, filter, nat_le}
use Rattle.std.specs.Fmt.{decimal}
use Rattle.zt_look.specs.Lines.{line}
use Rattle.zt_view.specs.declared.path_ranges.MomentRange.{MomentRange}

-- how many ranges an answer has at most
abbrev pub most_ranges : ℕ
most_ranges = 16384

abbrev pub is_next : ℕ → ℕ → Bool
is_next moment next = next == moment + 1

-- these ranges with a moment ahead: it begins the first of them, if it comes right before that, or else is a range of its own
abbrev pub begun_by : ℕ → List MomentRange → List MomentRange
begun_by moment [] = record { first = moment; last = moment } ∷ []
begun_by moment (range ∷ ranges) =
    if is_next moment range.first then record { first = moment; last = range.last } ∷ ranges
    else record { first = moment; last = moment } ∷ range ∷ ranges

-- these moments in ranges
abbrev pub ranges_of : List ℕ → List MomentRange
ranges_of [] = []
ranges_of (moment ∷ moments) = begun_by moment (ranges_of moments)

-- the moments that are not before this one, in ranges
abbrev pub ranges_from : ℕ → List ℕ → List MomentRange
ranges_from from moments = ranges_of (filter (λ moment. nat_le from moment) moments)

abbrev pub range_line : MomentRange → List ℕ
range_line range = line (decimal range.first ∷ decimal range.last ∷ [])
