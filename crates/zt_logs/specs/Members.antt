-- The fields of a JSON object of a line.
use Rattle.std.specs.Prelude.{ℕ, List, Option, Some, None, option_and_then, if◌then◌else◌, codes}
use Rattle.json.specs.Json.{Json}
use Rattle.json.specs.Find.{get, is_null}
use Rattle.zt_logs.specs.declared.places.Member.{Member}
use Rattle.zt_logs.specs.declared.places.Member.TheVariants as member

-- the name of a field
abbrev pub first_name : Member → List ℕ
first_name member.Process = codes "process"
first_name member.Call = codes "call"
first_name member.Args = codes "args"
first_name member.Status = codes "status"
first_name member.Out = codes "out"
first_name member.Operation = codes "operation"
first_name member.Handle = codes "handle"
first_name member.Task = codes "handle"
first_name member.CriticalProcess = codes "handle"
first_name member.Handles = codes "handles"
first_name member.HandleRoom = codes "handles"
first_name member.OnlyHandle = codes "out"
first_name member.FirstHandle = codes "out0"
first_name member.SecondHandle = codes "out1"
first_name member.Bytes = codes "bytes"
first_name member.ByteRoom = codes "bytes"
first_name member.PacketBytes = codes "bytes"
first_name member.Rights = codes "rights"
first_name member.Clear = codes "clear"
first_name member.Set = codes "set"
first_name member.Signals = codes "signals"
first_name member.Edge = codes "edge"
first_name member.Discard = codes "discard"
first_name member.Options = codes "options"
first_name member.Port = codes "port"
first_name member.CalledPort = codes "port"
first_name member.Source = codes "source"
first_name member.Key = codes "key"
first_name member.Packet = codes "packet"
first_name member.Job = codes "job"
first_name member.ParentJob = codes "job"
first_name member.Argument = codes "argument"
first_name member.Code = codes "code"
first_name member.Type = codes "type"
first_name member.Signal = codes "signal"
first_name member.Trigger = codes "trigger"
first_name member.Observed = codes "observed"
first_name member.Time = codes "time"
first_name member.TimeStamp = codes "ts"
first_name member.Began = codes "began"
first_name member.Koids = codes "koids"
first_name member.RelatedKoids = codes "related_koids"
first_name member.ProcessHandle = codes "proc_handle"
first_name member.VmarHandle = codes "vmar_handle"
first_name member.StartedProcess = codes "handle"
first_name member.FirstArgument = codes "arg1"
first_name member.WrittenBytes = codes "wr_bytes"
first_name member.WrittenHandles = codes "wr_handles"
first_name member.ReadByteRoom = codes "rd_num_bytes"
first_name member.ReadHandleRoom = codes "rd_num_handles"
first_name member.ReadBytes = codes "rd_bytes"
first_name member.ReadHandles = codes "rd_handles"

-- the name of it in the system's reference, where that is another
abbrev pub second_name : Member → Option (List ℕ)
second_name member.Task = Some (codes "task")
second_name member.CriticalProcess = Some (codes "process")
second_name member.HandleRoom = Some (codes "num_handles")
second_name member.ByteRoom = Some (codes "num_bytes")
second_name member.PacketBytes = Some (codes "user")
second_name member.Clear = Some (codes "clear_mask")
second_name member.Set = Some (codes "set_mask")
second_name member.CalledPort = Some (codes "handle")
second_name member.ParentJob = Some (codes "parent_job")
second_name member.Code = Some (codes "retcode")
second_name member.Time = Some (codes "timestamp")
second_name member.StartedProcess = Some (codes "process")
second_name member.ReadBytes = Some (codes "bytes")
second_name member.ReadHandles = Some (codes "handles")
second_name _ = None

-- a value, unless it is null
abbrev pub not_null : Json → Option Json
not_null d = if is_null d then None else Some d

-- what stands under this name in an object, which may be left out itself
abbrev pub named : List ℕ → Option Json → Option Json
named name object = option_and_then not_null (option_and_then (get name) object)

-- this, or else what stands under the second name
abbrev pub or_named : Option Json → Option (List ℕ) → Option Json → Option Json
or_named (Some d) second object = Some d
or_named None None object = None
or_named None (Some second) object = named second object

-- a field of an object: what stands under its name, or else under its second one
abbrev pub field : Member → Option Json → Option Json
field name object = or_named (named (first_name name) object) (second_name name) object
