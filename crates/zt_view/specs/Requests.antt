-- What requests ask for, by their method, path and query.
use Rattle.std.specs.Prelude.{ℕ, ◌+◌, ◌==◌, nat_lt, length, Bool, true, false, List, [], ◌∷◌, Option, None, Some, Result, Ok, Err, if◌then◌else◌, codes, unwrap_or}
use Rattle.std.specs.Str.{bytes_eq}
use Rattle.zt_text.specs.Fields.{parts_of}
use Rattle.zt_text.specs.Numbers.{handle_of, koid_of, moment_of}
use Rattle.zt_look.specs.declared.call_list.CallFilter.{CallFilter}
use Rattle.zt_look.specs.declared.event_list.HappeningSet.{HappeningSet}
use Rattle.zt_view.specs.declared.lacks.Lack.{Lack}
use Rattle.zt_view.specs.declared.lacks.Lack.TheVariants as lack
use Rattle.zt_view.specs.declared.page.Part.TheVariants as part
use Rattle.zt_view.specs.declared.question.ViewQuestion.TheVariants as question
use Rattle.zt_view.specs.declared.requests.PathPart.{PathPart}
use Rattle.zt_view.specs.declared.requests.ViewRequest.{ViewRequest}
use Rattle.zt_view.specs.declared.requests.ViewRequest.TheVariants as asked
use Rattle.zt_view.specs.Cuts.{before, behind}
use Rattle.zt_view.specs.Lacks.{lack_of}

infixl 10 ◌>>=◌
abbrev pub ◌>>=◌ : {A B : Type 0} → Option A → (A → Option B) → Option B
(Some x) >>= f = f x
None >>= f = None

-- ---- queries: words with `&` between

-- of these calls those alone that the process made, or that are about the object
unfoldable pub wanted_of : CallFilter → List ℕ → ℕ → Option CallFilter
wanted_of wanted name koid =
    if bytes_eq name (codes "process") then Some (record wanted { process = Some koid })
    else (if bytes_eq name (codes "object") then Some (record wanted { object = Some koid })
    else None)

-- of these calls those alone that the word asks for, which may have a value
abbrev pub wanted_if : CallFilter → List ℕ → Option (List ℕ) → Option CallFilter
wanted_if wanted name None = if bytes_eq name (codes "failed") then Some (record wanted { failed = true }) else None
wanted_if wanted name (Some value) = do
  koid ← koid_of value
  wanted_of wanted name koid

unfoldable pub wanted_with : CallFilter → List ℕ → Option CallFilter
wanted_with wanted word = wanted_if wanted (before 61 word) (behind 61 word)

abbrev pub wanted_by : CallFilter → List (List ℕ) → Option CallFilter
wanted_by wanted [] = Some wanted
wanted_by wanted (word ∷ words) = do
  next ← wanted_with wanted word
  wanted_by next words

-- of these calls those alone that a query asks for; an empty one asks for all
abbrev pub calls_wanted : CallFilter → List ℕ → Option CallFilter
calls_wanted all query = if length query == 0 then Some all else wanted_by all (parts_of 38 query)

unfoldable pub happenings_with : HappeningSet → List ℕ → Option HappeningSet
happenings_with wanted word =
    if bytes_eq word (codes "made") then Some (record wanted { made = true })
    else (if bytes_eq word (codes "ended") then Some (record wanted { ended = true })
    else (if bytes_eq word (codes "peer_closed") then Some (record wanted { peer_closed = true })
    else (if bytes_eq word (codes "leaked") then Some (record wanted { leaked = true })
    else None)))

abbrev pub happenings_by : HappeningSet → List (List ℕ) → Option HappeningSet
happenings_by wanted [] = Some wanted
happenings_by wanted (word ∷ words) = do
  next ← happenings_with wanted word
  happenings_by next words

-- all happenings, or none
abbrev pub each_happening : Bool → HappeningSet
each_happening is = record { made = is; ended = is; peer_closed = is; leaked = is }

-- the happenings that a query asks for; an empty one asks for all
abbrev pub happenings_wanted : List ℕ → Option HappeningSet
happenings_wanted query = if length query == 0 then Some (each_happening true) else happenings_by (each_happening false) (parts_of 38 query)

-- ---- paths: words and numbers with `/` between

unfoldable pub change_asked : List ℕ → Option ViewRequest
change_asked numbers = do
  moment ← moment_of numbers
  Some (asked.Answer (question.Change moment))

-- no more moments from one to the other than a request may ask for
abbrev pub is_few : ℕ → ℕ → Bool
is_few first last = nat_lt last (first + 16384)

abbrev pub part_if : Bool → PathPart → Option PathPart
part_if true span = Some span
part_if false span = None

-- `MOMENT/FIRST/LAST`, a part of the path to the moment
unfoldable pub part_asked : List ℕ → Option PathPart
part_asked numbers = do
  at ← moment_of (before 47 numbers)
  range ← behind 47 numbers
  first ← moment_of (before 47 range)
  rest ← behind 47 range
  last ← moment_of rest
  part_if (is_few first last) (record { at = at; first = first; last = last })

-- `/events/MOMENT/FIRST/LAST`
unfoldable pub events_asked : List ℕ → List ℕ → Option ViewRequest
events_asked numbers query = do
  span ← part_asked numbers
  wanted ← happenings_wanted query
  Some (asked.Answer (question.Events span.at (record { first = span.first; last = span.last; happenings = wanted })))

-- `/path/MOMENT/FIRST`
unfoldable pub path_asked : List ℕ → Option ViewRequest
path_asked numbers = do
  at ← moment_of (before 47 numbers)
  rest ← behind 47 numbers
  from ← moment_of rest
  Some (asked.Answer (question.Path at from))

-- `/object/KOID/MOMENT`
unfoldable pub object_asked : List ℕ → Option ViewRequest
object_asked numbers = do
  koid ← koid_of (before 47 numbers)
  rest ← behind 47 numbers
  at ← moment_of rest
  Some (asked.Answer (question.Object koid at))

-- `/handle/PROCESS/VALUE/MOMENT`
unfoldable pub handle_asked : List ℕ → Option ViewRequest
handle_asked numbers = do
  process ← koid_of (before 47 numbers)
  rest ← behind 47 numbers
  value ← handle_of (before 47 rest)
  end ← behind 47 rest
  at ← moment_of end
  Some (asked.Answer (question.Handle process value at))

-- `/lineage/KOID/MOMENT`
unfoldable pub lineage_asked : List ℕ → Option ViewRequest
lineage_asked numbers = do
  koid ← koid_of (before 47 numbers)
  rest ← behind 47 numbers
  at ← moment_of rest
  Some (asked.Answer (question.Lineage koid at))

-- all calls of the moments from the first to the last
abbrev pub all_between : ℕ → ℕ → CallFilter
all_between first last = record { first = first; last = last; failed = false; process = None; object = None }

-- `/calls/MOMENT/FIRST/LAST`
unfoldable pub calls_asked : List ℕ → List ℕ → Option ViewRequest
calls_asked numbers query = do
  span ← part_asked numbers
  wanted ← calls_wanted (all_between span.first span.last) query
  Some (asked.Answer (question.Calls span.at wanted))

-- what a word with numbers behind it asks for
unfoldable pub of_numbers : List ℕ → List ℕ → List ℕ → Option ViewRequest
of_numbers word numbers query =
    if bytes_eq word (codes "change") then change_asked numbers
    else (if bytes_eq word (codes "events") then events_asked numbers query
    else (if bytes_eq word (codes "object") then object_asked numbers
    else (if bytes_eq word (codes "handle") then handle_asked numbers
    else (if bytes_eq word (codes "lineage") then lineage_asked numbers
    else (if bytes_eq word (codes "calls") then calls_asked numbers query
    else (if bytes_eq word (codes "path") then path_asked numbers
    else None))))))

-- what a word alone asks for
unfoldable pub named : List ℕ → Option ViewRequest
named word =
    if bytes_eq word (codes "") then Some (asked.Page part.Index)
    else (if bytes_eq word (codes "style.css") then Some (asked.Page part.Style)
    else (if bytes_eq word (codes "script.js") then Some (asked.Page part.Script)
    else (if bytes_eq word (codes "lines") then Some asked.Lines
    else (if bytes_eq word (codes "trace") then Some asked.Trace
    else (if bytes_eq word (codes "noted") then Some asked.Noted
    else (if bytes_eq word (codes "tree") then Some asked.Tree
    else (if bytes_eq word (codes "branches") then Some (asked.Answer question.Branches)
    else (if bytes_eq word (codes "end") then Some asked.End
    else None))))))))

abbrev pub named_with : List ℕ → Option (List ℕ) → List ℕ → Option ViewRequest
named_with word None query = named word
named_with word (Some numbers) query = of_numbers word numbers query

abbrev pub or_lack : Lack → Option ViewRequest → Result ViewRequest Lack
or_lack reason None = Err reason
or_lack reason (Some asked) = Ok asked

-- what is asked for by a path without the `/` that it begins with, and a query
unfoldable pub asked_by : List ℕ → List ℕ → Result ViewRequest Lack
asked_by path query = or_lack (lack_of (before 47 path)) (named_with (before 47 path) (behind 47 path) query)

abbrev pub asked_behind : Option (List ℕ) → List ℕ → Result ViewRequest Lack
asked_behind None query = Err lack.NoPath
asked_behind (Some path) query = asked_by path query

-- what is asked for by a path, which begins with `/`, and a query
unfoldable pub asked_at : List ℕ → List ℕ → Result ViewRequest Lack
asked_at path query = if bytes_eq (before 47 path) (codes "") then asked_behind (behind 47 path) query else Err lack.NoPath

-- ---- methods

-- the method by which it is asked for
abbrev pub method_of : ViewRequest → List ℕ
method_of (asked.Page _) = codes "GET"
method_of asked.Lines = codes "POST"
method_of asked.Trace = codes "GET"
method_of asked.Noted = codes "GET"
method_of asked.Tree = codes "GET"
method_of (asked.Answer _) = codes "GET"
method_of asked.End = codes "POST"

-- the lack that is told, if this is asked for by another method
abbrev pub method_lack : ViewRequest → Lack
method_lack (asked.Page _) = lack.AskedByGet
method_lack asked.Lines = lack.AskedByPost
method_lack asked.Trace = lack.AskedByGet
method_lack asked.Noted = lack.AskedByGet
method_lack asked.Tree = lack.AskedByGet
method_lack (asked.Answer _) = lack.AskedByGet
method_lack asked.End = lack.AskedByPost

abbrev pub by_method : List ℕ → Result ViewRequest Lack → Result ViewRequest Lack
by_method method (Err reason) = Err reason
by_method method (Ok asked) = if bytes_eq method (method_of asked) then Ok asked else Err (method_lack asked)

-- what a request asks for, or why it asks for nothing
abbrev pub wish : List ℕ → List ℕ → Option (List ℕ) → Result ViewRequest Lack
wish method path query = by_method method (asked_at path (unwrap_or query []))
