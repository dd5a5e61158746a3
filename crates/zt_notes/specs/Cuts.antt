-- Texts that are cut at the first separator.
use Rattle.std.specs.Prelude.{ℕ, ◌+◌, ◌==◌, List, drop, Option, position}
use Rattle.std.specs.List.{before_first}
use Rattle.std.specs.Option.{option_map}

-- what stands before the first separator, or all
abbrev pub before : ℕ → List ℕ → List ℕ
before separator text = before_first (λ byte. byte == separator) text

-- what stands behind the first separator, if there is one
abbrev pub behind : ℕ → List ℕ → Option (List ℕ)
behind separator text = option_map (λ place. drop (place + 1) text) (position (λ byte. byte == separator) text)
