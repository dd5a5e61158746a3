-- Why a request asks for nothing that there is, and how that is told. This project's own.
use Rattle.std.specs.Prelude.{ℕ, List, if◌then◌else◌, codes}
use Rattle.std.specs.Str.{bytes_eq}
use Rattle.zt_view.specs.declared.lacks.Lack.{Lack}
use Rattle.zt_view.specs.declared.lacks.Lack.TheVariants as lack
use Rattle.zt_view.specs.declared.lacks.Taking.{Taking}
use Rattle.zt_view.specs.declared.lacks.Taking.TheVariants as taking

-- what a path lacks that begins with this word
unfoldable pub lack_of : List ℕ → Lack
lack_of word =
    if bytes_eq word (codes "change") then lack.Takes taking.Change
    else (if bytes_eq word (codes "calls") then lack.Takes taking.Calls
    else (if bytes_eq word (codes "events") then lack.Takes taking.Events
    else (if bytes_eq word (codes "path") then lack.Takes taking.Path
    else (if bytes_eq word (codes "object") then lack.Takes taking.Object
    else (if bytes_eq word (codes "handle") then lack.Takes taking.Handle
    else (if bytes_eq word (codes "lineage") then lack.Takes taking.Lineage
    else lack.NoPath))))))

abbrev pub lack_status : Lack → ℕ
lack_status lack.NoPath = 404
lack_status (lack.Takes _) = 400
lack_status lack.AskedByGet = 405
lack_status lack.AskedByPost = 405

abbrev pub taking_text : Taking → List ℕ
taking_text taking.Change = codes "The form is /change/MOMENT.\n"
taking_text taking.Calls = codes "The form is /calls/AT/FROM/TO, with at most 16384 moments from FROM to TO. The query may have failed, process=P and object=K, joined by &.\n"
taking_text taking.Events = codes "The form is /events/AT/FROM/TO, with at most 16384 moments from FROM to TO. The query may have made, ended, peer_closed and leaked, joined by &.\n"
taking_text taking.Path = codes "The form is /path/AT/FROM.\n"
taking_text taking.Object = codes "The form is /object/KOID/AT.\n"
taking_text taking.Handle = codes "The form is /handle/PROCESS/VALUE/AT.\n"
taking_text taking.Lineage = codes "The form is /lineage/KOID/AT.\n"

abbrev pub lack_text : Lack → List ℕ
lack_text lack.NoPath = codes "There is no such path. The paths are /branches, /calls, /change, /end, /events, /handle, /lineage, /lines, /noted, /object, /path, /trace and /tree.\n"
lack_text (lack.Takes word) = taking_text word
lack_text lack.AskedByGet = codes "Use GET for this path.\n"
lack_text lack.AskedByPost = codes "Use POST for this path.\n"
