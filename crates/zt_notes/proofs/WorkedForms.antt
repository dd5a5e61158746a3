-- What the fields of the lines of FORMATS are, as theorems by computation.
use Rattle.std.proofs.Common.{◌≡◌, ℕ, List, [], ◌∷◌, Option, Some, None, refl}
use Rattle.std.specs.Prelude.{codes, ⊤}
use Rattle.zt_text.specs.Fields.{fields_of}
use Rattle.zt_text.specs.Numbers.{decimal_of}
use Rattle.zt_notes.specs.declared.shapes.Field.{Field}
use Rattle.zt_notes.specs.declared.shapes.Field.TheVariants.{Plain, Moment, Object, Process, Handle, Held, Critical, Call, Status, Row, Message, Count, Step, Origin, Place}
use Rattle.zt_notes.specs.declared.shapes.Shape.{Shape}
use Rattle.zt_notes.specs.declared.shapes.Shape.TheVariants as shape
use Rattle.zt_notes.specs.Walks.{Walk, behind, moment_shown, next_field, start}

-- what each of these fields is
abbrev fields_from : Walk → List (List ℕ) → List Field
fields_from walk [] = []
fields_from walk (word ∷ words) = next_field walk.fields ∷ fields_from (behind walk word) words

abbrev fields_in : Shape → List ℕ → List Field
fields_in question line = fields_from (start question) (fields_of line)

abbrev moment_in : Shape → List ℕ → Option ℕ
moment_in question line = moment_shown (start question) (fields_of line)

unfoldable numbers_on_literals : ⊤
unfolding decimal_of
numbers_on_literals = tt

record CallLines : Type 0 where
  spawned : fields_in shape.Calls (codes "8 1025 spawn 3 23 => ok 27 1030") ≡ Moment ∷ Process ∷ Call ∷ Handle ∷ Handle ∷ Plain ∷ Status ∷ Handle ∷ Process ∷ []
  timed_out : fields_in shape.Calls (codes "8 1025 port_wait 19 => timed_out") ≡ Moment ∷ Process ∷ Call ∷ Handle ∷ Plain ∷ Status ∷ []
  too_small : fields_in shape.Calls (codes "5 1025 channel_read 15 1 0 => buffer_too_small 2 1") ≡ Moment ∷ Process ∷ Call ∷ Handle ∷ Plain ∷ Plain ∷ Plain ∷ Status ∷ Plain ∷ Plain ∷ []
  discarding : fields_in shape.Calls (codes "6 1025 channel_read 15 64 4 discard => ok 6869 23") ≡ Moment ∷ Process ∷ Call ∷ Handle ∷ Plain ∷ Plain ∷ Plain ∷ Plain ∷ Status ∷ Plain ∷ Handle ∷ []
  written : fields_in shape.Calls (codes "4 1025 channel_write 11 6869 7,15 => ok") ≡ Moment ∷ Process ∷ Call ∷ Handle ∷ Plain ∷ Handle ∷ Plain ∷ Status ∷ []
  moment : moment_in shape.Calls (codes "8 1025 spawn 3 23 => ok 27 1030") ≡ Some 8

call_lines : CallLines
unfolding numbers_on_literals
call_lines = record { spawned = refl; timed_out = refl; too_small = refl; discarding = refl; written = refl; moment = refl }

record RowLines : Type 0 where
  critical : fields_in shape.Changes (codes "+ object 1027 process 0x00000000 1026 live 0 critical:1026") ≡ Plain ∷ Row ∷ Object ∷ Plain ∷ Plain ∷ Object ∷ Plain ∷ Plain ∷ Critical ∷ []
  entry : fields_in shape.Changes (codes "- entry 1028 3 1031 0x0000d003") ≡ Plain ∷ Row ∷ Process ∷ Handle ∷ Object ∷ Plain ∷ []
  message : fields_in shape.Changes (codes "+ msg 1027 0 6869 1028:0x0000d003") ≡ Plain ∷ Row ∷ Object ∷ Plain ∷ Plain ∷ Held ∷ []
  packet : fields_in shape.Changes (codes "+ packet 1029 0 signal 1 0x00000008 0x00000038 1025 7") ≡ Plain ∷ Row ∷ Object ∷ Plain ∷ Plain ∷ Plain ∷ Plain ∷ Plain ∷ Process ∷ Handle ∷ []
  wait : fields_in shape.Changes (codes "- wait 0 1025 7 1029 1 0x00000008") ≡ Plain ∷ Row ∷ Plain ∷ Process ∷ Handle ∷ Object ∷ Plain ∷ Plain ∷ []
  counters : fields_in shape.Changes (codes "+ counters 1030 2") ≡ Plain ∷ Row ∷ Plain ∷ Plain ∷ []
  none : moment_in shape.Changes (codes "- wait 0 1025 7 1029 1 0x00000008") ≡ None

row_lines : RowLines
unfolding numbers_on_literals
row_lines = record { critical = refl; entry = refl; message = refl; packet = refl; wait = refl; counters = refl; none = refl }

record ObjectLines : Type 0 where
  event : fields_in shape.Events (codes "6 leaked 1028 event 1025 handle_close 15") ≡ Moment ∷ Plain ∷ Object ∷ Plain ∷ Process ∷ Call ∷ Handle ∷ []
  support : fields_in shape.Object (codes "entry 1025 7") ≡ Row ∷ Process ∷ Handle ∷ []
  in_message : fields_in shape.Object (codes "message 1028 0 0") ≡ Row ∷ Object ∷ Plain ∷ Plain ∷ []
  made : fields_in shape.Object (codes "made 1 1025 job_create 3") ≡ Row ∷ Moment ∷ Process ∷ Call ∷ Handle ∷ []
  never : moment_in shape.Object (codes "ended never") ≡ None
  handle : fields_in (shape.Handles 1030) (codes "3 1026 job 0x0003d203") ≡ Handle ∷ Object ∷ Plain ∷ Plain ∷ []
  content : fields_in shape.Messages (codes "0 message 6a6f62 1028:0x0000d003") ≡ Plain ∷ Message ∷ Plain ∷ Held ∷ []
  writer : fields_in shape.Messages (codes "0 written 4 1025 channel_write 7 6a6f62 19") ≡ Plain ∷ Message ∷ Moment ∷ Process ∷ Call ∷ Handle ∷ Plain ∷ Handle ∷ []
  branch : fields_in shape.Branches (codes "branch fix 2 leaves main 0") ≡ Plain ∷ Plain ∷ Plain ∷ Plain ∷ Plain ∷ Plain ∷ []
  count : fields_in shape.Summary (codes "calls 1025 ok 5") ≡ Count ∷ Process ∷ Plain ∷ Plain ∷ []
  fate : fields_in shape.Summary (codes "dead 1027 channel 6") ≡ Count ∷ Object ∷ Plain ∷ Plain ∷ []
  alive : fields_in shape.Alive (codes "1030 process 2 8 1025 spawn 3 23") ≡ Object ∷ Plain ∷ Plain ∷ Moment ∷ Process ∷ Call ∷ Handle ∷ Handle ∷ []
  made_at : moment_in shape.Alive (codes "1030 process 2 8 1025 spawn 3 23") ≡ Some 8

object_lines : ObjectLines
unfolding numbers_on_literals
object_lines = record { event = refl; support = refl; in_message = refl; made = refl; never = refl; handle = refl; content = refl; writer = refl; branch = refl; count = refl; fate = refl; alive = refl; made_at = refl }

record HandleLines : Type 0 where
  made : fields_in shape.Life (codes "1 made entry 1025 7 0x0003d203 1025 job_create 3") ≡ Moment ∷ Step ∷ Step ∷ Process ∷ Handle ∷ Plain ∷ Origin ∷ Call ∷ Handle ∷ []
  sent : fields_in shape.Life (codes "4 sent message 1027 0 0 0x0000d003 from entry 1025 19 0x0000d003 1025 channel_write 7 6a 19") ≡ Moment ∷ Step ∷ Step ∷ Object ∷ Plain ∷ Plain ∷ Plain ∷ Origin ∷ Step ∷ Process ∷ Handle ∷ Plain ∷ Origin ∷ Call ∷ Handle ∷ Plain ∷ Handle ∷ []
  held : fields_in shape.Life (codes "held entry 1025 3 0x0003d203") ≡ Moment ∷ Step ∷ Process ∷ Handle ∷ Plain ∷ []
  gone : moment_in shape.Life (codes "gone") ≡ None
  copied : fields_in shape.Lineage (codes "  7 duplicated entry 1025 23 0x0003d203 from entry 1025 7 given 8") ≡ Place ∷ Place ∷ Place ∷ Place ∷ Place ∷ Process ∷ Handle ∷ Place ∷ Place ∷ Place ∷ Process ∷ Handle ∷ Place ∷ Place ∷ []
  untold : moment_in shape.Lineage (codes "1 made entry 1025 7 0x0003d203 closed 13") ≡ None

handle_lines : HandleLines
unfolding numbers_on_literals
handle_lines = record { made = refl; sent = refl; held = refl; gone = refl; copied = refl; untold = refl }
