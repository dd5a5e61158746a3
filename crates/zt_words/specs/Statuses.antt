-- The exit status, by what ended the program.
use Rattle.std.specs.Prelude.{ℕ, Bool, ◌&&◌, if◌then◌else◌, Result, Ok, Err, ⊤}
use Rattle.zt_rows.specs.declared.refusals.Refusal.{Refusal}
use Rattle.zt_rows.specs.declared.refusals.Refusal.TheVariants as refusal
use Rattle.zt_words.specs.declared.fault.Fault.{Fault}
use Rattle.zt_words.specs.declared.fault.Fault.TheVariants as fault

-- of a run that was stopped, by its cause
abbrev pub stopped_status : Refusal → ℕ
stopped_status refusal.ReadFault = 4
stopped_status refusal.WriteFault = 5
stopped_status _ = 6

-- of a fault
abbrev pub fault_status : Fault → ℕ
fault_status (fault.Words error) = 2
fault_status (fault.Unread error) = 2
fault_status (fault.Unasked reason) = 2
fault_status (fault.Unopened path error) = 3
fault_status (fault.Unwritten part) = 5
fault_status (fault.Unlistened port error) = 3
fault_status (fault.Unconnected error) = 3
fault_status (fault.Refused reason) = stopped_status reason
fault_status (fault.Trace line reason place) = 6

-- no line of a session text is told at fault
abbrev pub TellsOfNoLine : Fault → Type 0
TellsOfNoLine (fault.Trace line reason place) = ⊥
TellsOfNoLine _ = ⊤

-- of a question that was answered: 1 where it is asked to show by its status that the answer has a line, and the answer has one
abbrev pub answer_status : Bool → Bool → ℕ
answer_status shows told = if shows && told then 1 else 0

-- of the program: 0 where nothing ended it before it was done
abbrev pub end_status : {A : Type 0} → Result A Fault → ℕ
end_status (Ok done) = 0
end_status (Err fault) = fault_status fault
