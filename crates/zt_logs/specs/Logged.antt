-- When calls are those of the lines of a log.
use Rattle.std.specs.Prelude.{◌≡◌, ℕ, suc, List, [], ◌∷◌, ◌++◌, length, Option, Some, None}
use Rattle.std.specs.Option.{option_to_list}
use Rattle.zt_bits.specs.declared.statuses.Status.{Status}
use Rattle.zt_bits.specs.declared.statuses.Status.TheVariants as status
use Rattle.json.specs.Json.{Json}
use Rattle.zt_logs.specs.declared.call_names.CallName.{CallName}
use Rattle.zt_logs.specs.declared.line_calls.PartCall.{PartCall}
use Rattle.zt_logs.specs.declared.logged.LoggedCall.{LoggedCall}
use Rattle.zt_logs.specs.declared.places.Member.TheVariants as member
use Rattle.zt_logs.specs.Members.{field}
use Rattle.zt_logs.specs.Numbers.{IsMaskOrNone}
use Rattle.zt_logs.specs.Entries.{Entry, called}
use Rattle.zt_logs.specs.LineCalls.{AreCallsOf}
use Rattle.zt_logs.specs.Answered.{IsAnswered}

-- ---- the calls of a line

-- a call is this one of the line of this number, which has so many, behind so many others of it
abbrev pub IsPart : ℕ → ℕ → ℕ → PartCall → LoggedCall → Type 0
IsPart line count ahead part logged =
    (logged.line ≡ line) × (logged.call ≡ part.call) × (logged.part.ahead ≡ ahead) × (logged.part.count ≡ count) × (logged.part.gives ≡ part.gives)

-- the status of the calls ahead of the last, where the line has this: they were ok where the last found its peer closed, or an answer for
-- which it had too little room
abbrev pub part_status : Option Status → Option Status
part_status (Some status.PeerClosed) = Some status.Ok
part_status (Some status.BufferTooSmall) = Some status.Ok
part_status other = other

-- the calls of a line ahead of its last: each tells this status, and the handle that it gave, if it gave one
abbrev pub AreAhead : ℕ → ℕ → Option Status → ℕ → List PartCall → List LoggedCall → Type 0
AreAhead line count answered ahead [] [] = Unit {0}
AreAhead line count answered ahead [] (logged ∷ calls) = ⊥
AreAhead line count answered ahead (part ∷ parts) [] = ⊥
AreAhead line count answered ahead (part ∷ parts) (logged ∷ calls) =
    IsPart line count ahead part logged × (logged.recorded.status ≡ answered) × (logged.recorded.handles ≡ option_to_list part.given)
    × AreAhead line count answered (suc ahead) parts calls

-- the calls of a line that has some: those ahead, and the last, which has what the line says of the answer
pub record AreParts (line : ℕ) (name : CallName) (value : Option Json) (parts : List PartCall) (calls : List LoggedCall) : Type 0 where
  pub others : List PartCall
  pub part : PartCall
  pub ahead : List LoggedCall
  pub last : LoggedCall
  pub in_parts : parts ≡ others ++ part ∷ []
  pub in_calls : calls ≡ ahead ++ last ∷ []
  pub are_ahead : AreAhead line (suc (length others)) (part_status last.recorded.status) 0 others ahead
  pub is_last : IsPart line (suc (length others)) (length others) part last
  pub answered : IsAnswered name value last.recorded.status last.recorded.handles

-- the calls of a line; none, where it is none
abbrev pub AreAllParts : ℕ → CallName → Option Json → List PartCall → List LoggedCall → Type 0
AreAllParts line name value [] calls = calls ≡ []
AreAllParts line name value (part ∷ parts) calls = AreParts line name value (part ∷ parts) calls

-- the calls of a line with this name are those that its arguments and options say
abbrev pub AreCalled : ℕ → CallName → Option Json → List LoggedCall → Type 0
AreCalled line name value calls =
    (parts : List PartCall) × (options : ℕ) × IsMaskOrNone (field member.Options (field member.Args value)) options
    × AreCallsOf name value options parts × AreAllParts line name value parts calls

abbrev pub AreNamed : ℕ → Option CallName → Option Json → List LoggedCall → Type 0
AreNamed line None value calls = ⊥
AreNamed line (Some name) value calls = AreCalled line name value calls

abbrev pub IsLogged : Entry → List LoggedCall → Type 0
IsLogged entry calls = AreNamed entry.0 (called entry.1) (Some entry.1) calls

-- ---- the calls of a log

-- those of each line, in their order
abbrev pub AreLogged : List Entry → List LoggedCall → Type 0
AreLogged [] calls = calls ≡ []
AreLogged (entry ∷ entries) calls = (line others : List LoggedCall) × (calls ≡ line ++ others) × IsLogged entry line × AreLogged entries others
