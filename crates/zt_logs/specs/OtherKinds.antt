-- Objects that the semantics has not, and the calls that make them.
use Rattle.std.specs.Prelude.{ℕ, Bool, true, false, List, Option, Some, None, if◌then◌else◌, codes}
use Rattle.std.specs.Str.{bytes_eq}
use Rattle.zt_logs.specs.declared.other_kinds.OtherKind.{OtherKind}
use Rattle.zt_logs.specs.declared.other_kinds.OtherKind.TheVariants as kind

-- whether one has two ends
abbrev pub has_ends : OtherKind → Bool
has_ends kind.Socket = true
has_ends kind.Fifo = true
has_ends _ = false

-- what has to do with memory
unfoldable pub memory_made : List ℕ → Option OtherKind
memory_made name =
    if bytes_eq name (codes "vmo_create") then Some kind.Vmo
    else (if bytes_eq name (codes "vmo_create_child") then Some kind.Vmo
    else (if bytes_eq name (codes "vmo_create_contiguous") then Some kind.Vmo
    else (if bytes_eq name (codes "vmo_create_physical") then Some kind.Vmo
    else (if bytes_eq name (codes "pager_create_vmo") then Some kind.Vmo
    else (if bytes_eq name (codes "pager_create") then Some kind.Pager
    else (if bytes_eq name (codes "stream_create") then Some kind.Stream
    else None))))))

-- what drivers use
unfoldable pub device_made : List ℕ → Option OtherKind
device_made name =
    if bytes_eq name (codes "resource_create") then Some kind.Resource
    else (if bytes_eq name (codes "iommu_create") then Some kind.Iommu
    else (if bytes_eq name (codes "bti_create") then Some kind.Bti
    else (if bytes_eq name (codes "interrupt_create") then Some kind.Interrupt
    else (if bytes_eq name (codes "debuglog_create") then Some kind.Debuglog
    else (if bytes_eq name (codes "profile_create") then Some kind.Profile
    else None)))))

-- all else
unfoldable pub other_made : List ℕ → Option OtherKind
other_made name =
    if bytes_eq name (codes "socket_create") then Some kind.Socket
    else (if bytes_eq name (codes "fifo_create") then Some kind.Fifo
    else (if bytes_eq name (codes "timer_create") then Some kind.Timer
    else (if bytes_eq name (codes "clock_create") then Some kind.Clock
    else (if bytes_eq name (codes "counter_create") then Some kind.Counter
    else (if bytes_eq name (codes "thread_create") then Some kind.Thread
    else (if bytes_eq name (codes "object_get_child") then Some kind.Child
    else None))))))

-- this kind, or else that one
abbrev pub or_kind : Option OtherKind → Option OtherKind → Option OtherKind
or_kind None other = other
or_kind (Some found) other = Some found

-- the kind of what a call of this name makes or gives
unfoldable pub kind_made : List ℕ → Option OtherKind
kind_made name = or_kind (or_kind (memory_made name) (device_made name)) (other_made name)
