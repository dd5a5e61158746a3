-- What a function has done that gives `false` or `None` where a line has not its form.
use Rattle.std.specs.Prelude.{◌≡◌, ℕ, Bool, List, Option, Some, None, Result, IfOk, MatchOption}
use Rattle.std.specs.Bool.{MatchBool}
use denote.Ref.{Bor}

-- the value is there and is what was written, or there is none
abbrev pub Gives : {A E : Type 0} → Result Bool E → Option A → A → Type 0
Gives result value written = IfOk result (λ done. MatchBool done (value ≡ Some written) (value ≡ None))

-- a word was read, and the value has it with what was written; or none was read, and there is no value
abbrev pub GivesWord : {A E : Type 0} → Result (Option (Bor (List ℕ))) E → Option (List ℕ × A) → A → Type 0
GivesWord result value written =
    IfOk result (λ word. MatchOption word (value ≡ None) (λ text. value ≡ Some (text.now, written)))
