-- What holds of the calls that were asked of a history, and what one more of them leaves.
use Rattle.std.specs.Prelude.{◌≡◌, ◌==◌, ◌&&◌, ◌||◌, not, ℕ, suc, ◌^◌, ◌<◌, ◌≤◌, ⊤, Bool, true, false, nat_eq, slice_get, List, [], ◌∷◌, ◌++◌, length, take, count_by, Option, Some, None, Ok, unwrap_or, if◌then◌else◌}
use Rattle.std.specs.declared.hash.FoldHasher.{FoldHasher}
use Rattle.std.specs.declared.hash.BuildHasherDefault.{BuildHasherDefault}
use Rattle.std.specs.HashMap.{get, HashMap}
use Rattle.std.specs.List.{cons_option, filter_map}
use Rattle.zt_rows.specs.declared.calls.Answer.TheVariants as answer
use Rattle.zt_rows.specs.declared.calls.Call.{Call}
use Rattle.zt_rows.specs.declared.calls.Reply.{Reply}
use Rattle.zt_history.specs.HistoryRefusals.{call_on}
use Rattle.zt_history.specs.Tree.{Made, Tree}
use Rattle.zt_book.specs.Log.{loaded}
use Rattle.zt_logs.specs.declared.line_parts.LinePart.{LinePart}
use Rattle.zt_logs.specs.declared.logged.LoggedCall.{LoggedCall}
use Rattle.zt_import.specs.Comparison.{agrees}
use Rattle.zt_import.specs.Parts.{is_last}
use Rattle.zt_import.specs.declared.mapped.MappedHandle.{MappedHandle}
use Rattle.zt_import.specs.declared.trail.Difference.{Difference}
use Rattle.zt_import.specs.declared.trail.Origin.{Origin}
use Rattle.zt_import.specs.declared.trail.Origin.TheVariants as origin
use Rattle.zt_import.specs.declared.trail.TrailStep.{TrailStep}
use Rattle.zt_import.specs.declared.taken.Tried.{Tried}
use Rattle.zt_import.specs.declared.taken.Tried.TheVariants as tried
use Rattle.zt_import.specs.Imports.{Import}
use Rattle.zt_import.specs.Orders.{IsOrder}
use Rattle.zt_import.specs.Trails.{answer_at, calls_of, number_in, numbers_in, moments_in, moments_to, pair_by, stands_for, IsMadeBy, AreMadeBy}

pub record TakenView : Type 0 where
  pub tree : Tree
  pub trail : List TrailStep

pub record IsTakenTrail (tree : Tree) (trail : List TrailStep) : Type 0 where
  pub loads : loaded (calls_of tree.made) ≡ Ok tree
  pub main : 0 < length tree.branches
  pub moments : moments_in trail ≡ moments_to (length tree.made)

-- ---- the processes that stand for those of the log

-- behind the steps of a trail, given those before
abbrev pub pairs_after : List LoggedCall → List Made → List (ℕ × ℕ) → List TrailStep → List (ℕ × ℕ)
pairs_after calls made pairs [] = pairs
pairs_after calls made pairs (step ∷ trail) = pairs_after calls made (cons_option (pair_by calls made step) pairs) trail

abbrev pub pairs_in : List LoggedCall → TakenView → List (ℕ × ℕ)
pairs_in calls view = pairs_after calls view.tree.made [] view.trail

-- processes by their numbers in the log
abbrev pub Processes : Type 0
Processes = HashMap ℕ ℕ (BuildHasherDefault FoldHasher)

-- the one of a number; 0, which is none, where there is none
abbrev pub process_in : Processes → ℕ → ℕ
process_in processes number = unwrap_or (get nat_eq processes number) 0

-- they are those that stand for the log's
abbrev pub Knows : List LoggedCall → TakenView → Processes → Type 0
Knows calls view processes = (number : ℕ) → process_in processes number ≡ stands_for (pairs_in calls view) number

-- they are those before, with a pair more, if there is one
abbrev pub learned : Option (ℕ × ℕ) → (ℕ → ℕ) → ℕ → ℕ
learned None before number = before number
learned (Some pair) before number = if pair.0 == number then pair.1 else before number

abbrev pub Learns : Processes → Processes → Option (ℕ × ℕ) → Type 0
Learns old new pair = (number : ℕ) → process_in new number ≡ learned pair (process_in old) number

-- what is kept of a handle that is mapped; nothing for 0, which is no handle
abbrev pub mapped_by : ℕ → ℕ → ℕ → List MappedHandle
mapped_by process handle value = if handle == 0 then [] else (record { process = process; handle = handle; value = value }) ∷ []

-- ---- replies that agree

-- a call that agrees or not is settled, as what it is of its line: it is the whole line and agrees, or the line does not end with it
abbrev pub is_settled_part : LinePart → Bool → Bool
is_settled_part part agreed = not (is_last part) || ((part.ahead == 0) && agreed)

abbrev pub is_settled_for : List Made → Option LoggedCall → Option ℕ → Bool
is_settled_for made None moment = true
is_settled_for made (Some logged) moment = is_settled_part logged.part (agrees logged.recorded (answer_at made moment))

abbrev pub is_settled_by : List LoggedCall → List Made → Option ℕ → Option ℕ → Bool
is_settled_by calls made None moment = true
is_settled_by calls made (Some number) moment = is_settled_for made (slice_get calls number) moment

-- a step is no call of the log, or one that is settled
abbrev pub is_settled : List LoggedCall → List Made → TrailStep → Bool
is_settled calls made step = is_settled_by calls made (number_in step.origin) step.moment

-- a moment, if it is one, is one of the first so many
abbrev pub IsWithin : ℕ → Option ℕ → Type 0
IsWithin count None = ⊤
IsWithin count (Some moment) = moment ≤ count

-- what tells nothing of settled steps tells of a trail what it tells of the steps that are left left
abbrev pub Leaves : List LoggedCall → List Made → List TrailStep → List TrailStep → Type 0
Leaves calls made trail left =
    (tell : TrailStep → Option Difference) → ((step : TrailStep) → IsWithin (length made) step.moment → is_settled calls made step ≡ true → tell step ≡ None)
    → filter_map tell trail ≡ filter_map tell left

-- ---- steps more

-- a step neither is a call of the log nor makes a process for one
abbrev pub is_beside : Origin → Bool
is_beside (origin.Logged number) = false
is_beside (origin.Adopted number) = false
is_beside _ = true

-- one step more
pub record IsOneStepMore (old new : TakenView) (step : TrailStep) : Type 0 where
  pub trail : new.trail ≡ old.trail ++ step ∷ []
  pub made : (calls : List LoggedCall) → AreMadeBy calls old.tree.made [] old.trail
      → IsMadeBy calls new.tree.made (pairs_in calls old) (number_in step.origin) step.moment → AreMadeBy calls new.tree.made [] new.trail
  pub pairs : (calls : List LoggedCall) → pairs_in calls new ≡ cons_option (pair_by calls new.tree.made step) (pairs_in calls old)
  pub settled : (calls : List LoggedCall) (left : List TrailStep) → is_settled calls new.tree.made step ≡ true
      → Leaves calls old.tree.made old.trail left → Leaves calls new.tree.made new.trail left
  pub left : (calls : List LoggedCall) (left : List TrailStep)
      → Leaves calls old.tree.made old.trail left → Leaves calls new.tree.made new.trail (left ++ step ∷ [])

-- steps more, all of them beside
pub record IsAside (old new : TakenView) : Type 0 where
  pub numbers : numbers_in new.trail ≡ numbers_in old.trail
  pub made : (calls : List LoggedCall) → AreMadeBy calls old.tree.made [] old.trail → AreMadeBy calls new.tree.made [] new.trail
  pub pairs : (calls : List LoggedCall) → pairs_in calls new ≡ pairs_in calls old
  pub left : (calls : List LoggedCall) (left : List TrailStep) → Leaves calls old.tree.made old.trail left → Leaves calls new.tree.made new.trail left

-- steps more, none of which is a call of the log; the processes that they make for it are known
pub record IsAdopting (old new : TakenView) (before after : Processes) : Type 0 where
  pub numbers : numbers_in new.trail ≡ numbers_in old.trail
  pub made : (calls : List LoggedCall) → AreMadeBy calls old.tree.made [] old.trail → AreMadeBy calls new.tree.made [] new.trail
  pub known : (calls : List LoggedCall) → Knows calls old before → Knows calls new after
  pub left : (calls : List LoggedCall) (left : List TrailStep) → Leaves calls old.tree.made old.trail left → Leaves calls new.tree.made new.trail left

-- the calls of the log of these numbers were asked in turn, each as itself
pub record HasRun (calls : List LoggedCall) (done : List ℕ) (view : TakenView) (processes : Processes) : Type 0 where
  pub numbers : numbers_in view.trail ≡ done
  pub made : AreMadeBy calls view.tree.made [] view.trail
  pub known : Knows calls view processes

-- all calls of the log were asked, in an order in which they may be run
pub record IsRunOf (calls : List LoggedCall) (view : TakenView) : Type 0 where
  pub numbers : IsOrder calls (numbers_in view.trail)
  pub made : AreMadeBy calls view.tree.made [] view.trail

-- this call was made at this moment by this process, or none
abbrev pub IsCallAt : Tree → Tree → ℕ → Call → Option ℕ → Type 0
IsCallAt old new process call None = new ≡ old
IsCallAt old new process call (Some moment) = (reply : Reply) × (call_on old 0 process call ≡ Ok (answer.Called moment reply, new))

-- it was made and kept, or taken back
abbrev pub IsTriedAt : Tree → Tree → ℕ → Call → Tried → Type 0
IsTriedAt old new process call (tried.Made moment) = IsCallAt old new process call moment
IsTriedAt old new process call tried.Undone = new ≡ old

-- ---- what is compared

pub record ComparedView : Type 0 where
  pub told : List Difference
  pub count : ℕ
  pub by_schedule : ℕ

abbrev pub nothing_compared : ComparedView
nothing_compared = record { told = []; count = 0; by_schedule = 0 }

-- these differ: so many are counted, and the first hundred told
pub record IsComparedAs (differences : List Difference) (view : ComparedView) : Type 0 where
  pub told : view.told ≡ take 100 differences
  pub count : view.count ≡ length differences
  pub by_schedule : view.by_schedule ≡ count_by (λ difference. difference.by_schedule) differences

-- with those that differ already, of which there are fewer than a number holds, these more are compared
abbrev pub ComparesMore : ComparedView → ComparedView → List Difference → Type 0
ComparesMore old new more =
    (differences : List Difference) → suc (length differences) < 2 ^ 64 → IsComparedAs differences old → IsComparedAs (differences ++ more) new

-- how an import of both is seen
abbrev pub import_of : TakenView → ComparedView → Import
import_of taken compared = record {
  tree = taken.tree;
  trail = taken.trail;
  told = compared.told;
  count = compared.count;
  by_schedule = compared.by_schedule;
}
