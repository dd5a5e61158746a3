-- How a line writes the name of a branch, and the happening that it asks for.
use Rattle.std.specs.Prelude.{ℕ, Bool, ◌&&◌, nat_le, nat_lt, List, length, Option, Some, None, if◌then◌else◌, codes}
use Rattle.std.specs.List.{list_all}
use Rattle.std.specs.Str.{bytes_eq}
use Rattle.zt_rows.specs.declared.calls.Happening.{Happening}
use Rattle.zt_rows.specs.declared.calls.Happening.TheVariants.{Made, Ended, PeerClosed, Leaked}

-- a byte of a name: a visible character of ASCII
abbrev pub is_visible : ℕ → Bool
is_visible byte = nat_le 33 byte && nat_le byte 126

-- the name that a field writes: one such byte or more
unfoldable pub name_of : List ℕ → Option (List ℕ)
name_of field = if nat_lt 0 (length field) && list_all is_visible field then Some field else None

-- the happening that a field names
unfoldable pub happening_of : List ℕ → Option Happening
happening_of field =
    if bytes_eq field (codes "made") then Some Made
    else (if bytes_eq field (codes "ended") then Some Ended
    else (if bytes_eq field (codes "peer_closed") then Some PeerClosed
    else (if bytes_eq field (codes "leaked") then Some Leaked else None)))
