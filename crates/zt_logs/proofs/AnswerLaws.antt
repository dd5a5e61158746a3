-- What a line gives under one name.
use Rattle.std.proofs.Common.{◌≡◌, ℕ, false, List, [], ◌∷◌, Option, Some, None}
use Rattle.std.specs.Prelude.{is_some}
use Rattle.json.specs.Json.{Json}
use Rattle.zt_rows.specs.declared.calls.Call.TheVariants as call
use Rattle.zt_logs.specs.declared.line_calls.PartCall.{PartCall}
use Rattle.zt_logs.specs.Numbers.{IsNumberIn}
use Rattle.zt_logs.specs.LineCalls.{IsSpaceAt}
use Rattle.zt_logs.specs.Answered.{IsOnlyGiven}

pub only_none : (o : Option Json) (handles : List ℕ) → false ≡ is_some o → handles ≡ [] → IsOnlyGiven o handles
only_none None handles none empty = empty
only_none (Some d) handles none empty = cc none

pub only_one : (o : Option Json) (n : ℕ) (handles : List ℕ) → IsNumberIn o n → handles ≡ n ∷ [] → IsOnlyGiven o handles
only_one None n handles is one = absurd is
only_one (Some d) n handles is one = (n, is, one)

pub space_none : (o : Option Json) (parts : List PartCall) → false ≡ is_some o → parts ≡ [] → IsSpaceAt o parts
space_none None parts none empty = empty
space_none (Some d) parts none empty = cc none

pub space_one : (o : Option Json) (n : ℕ) (parts : List PartCall) → IsNumberIn o n
    → parts ≡ record { gives = None; given = Some n; call = call.EventCreate } ∷ [] → IsSpaceAt o parts
space_one None n parts is one = absurd is
space_one (Some d) n parts is one = (n, is, one)
