-- Questions about a history, and the texts that answer them.
use Rattle.std.specs.Prelude.{◌≡◌, ℕ, List, [], ◌++◌, take, Option, None, Some, Result, Ok, Err, false}
use Rattle.std.specs.List.{flat_map}
use Rattle.std.specs.Option.{option_map}
use Rattle.zt_rows.specs.declared.calls.Call.{Call}
use Rattle.zt_rows.specs.declared.calls.Happening.TheVariants as happening
use Rattle.zt_rows.specs.declared.refusals.Refusal.{Refusal}
use Rattle.zt_rows.specs.declared.refusals.Refusal.TheVariants as refusal
use Rattle.zt_history.specs.HistoryRefusals.{IsHistoryRefusal, check, moment_on}
use Rattle.zt_history.specs.Tree.{Made, Tree, call_at, name_at, path, state_at}
use Rattle.zt_queries.specs.HappeningTimes.{is_known, IsRefusedWhen}
use Rattle.zt_lineage.specs.declared.handle_life.HandleLife.{HandleLife}
use Rattle.zt_lineage.specs.declared.places.Place.TheVariants as place
use Rattle.zt_lineage.specs.Lives.{life_on}
use Rattle.zt_look.specs.declared.branch_list.BranchLook.{BranchLook}
use Rattle.zt_look.specs.declared.event_list.ObjectEvent.{ObjectEvent}
use Rattle.zt_look.specs.declared.handle_tree.LineageStep.{LineageStep}
use Rattle.zt_look.specs.declared.object_look.ObjectLook.{ObjectLook}
use Rattle.zt_look.specs.BranchList.{branches_of}
use Rattle.zt_look.specs.CallList.{calls_on}
use Rattle.zt_look.specs.Changes.{changed_on}
use Rattle.zt_look.specs.EventList.{AreEvents, between}
use Rattle.zt_look.specs.Lines.{branch_line, call_made_line, change_lines, event_line, object_lines, when_line}
use Rattle.zt_look.specs.HandleTree.{lineage_on}
use Rattle.zt_look.specs.Names.{masks}
use Rattle.zt_look.specs.ObjectLook.{IsObjectLook}
use Rattle.zt_view.specs.declared.question.ViewQuestion.{ViewQuestion}
use Rattle.zt_view.specs.declared.question.ViewQuestion.TheVariants as question
use Rattle.zt_view.specs.HandleTexts.{life_text, lineage_text}
use Rattle.zt_view.specs.PathRanges.{most_ranges, range_line, ranges_from}

-- ---- lines

-- an event with the call of its moment
abbrev pub event_with : ObjectEvent → Option (ℕ × Call) → List ℕ
event_with event None = []
event_with event (Some (process, call)) = event_line false event process call

abbrev pub event_text : List Made → ObjectEvent → List ℕ
event_text made event = event_with event (call_at made event.moment)

-- a moment with its call
abbrev pub found_at : List Made → Option ℕ → Option (ℕ × ℕ × Call)
found_at made None = None
found_at made (Some moment) = option_map (λ c. (moment, c.0, c.1)) (call_at made moment)

-- when each of the four happened to an object
abbrev pub times_text : List Made → ObjectLook → List ℕ
times_text made look =
    when_line false happening.Made (found_at made look.made) ++ when_line false happening.Ended (found_at made look.ended)
    ++ when_line false happening.PeerClosed (found_at made look.peer_closed) ++ when_line false happening.Leaked (found_at made look.leaked)

abbrev pub branch_text : Tree → BranchLook → List ℕ
branch_text t branch =
    branch_line (name_at t.branches branch.id) branch.head (option_map (λ e. (name_at t.branches e.0, e.1)) branch.leaves)

-- ---- answers

-- the text answers the question about the tree
abbrev pub IsAnswer : ViewQuestion → Tree → List ℕ → Type 0
IsAnswer (question.Change moment) t text = (list : List _) × (changed_on t moment ≡ Ok list) × (text ≡ flat_map (change_lines masks) list)
IsAnswer (question.Calls at wanted) t text = (list : List _) × (calls_on t at wanted ≡ Ok list) × (text ≡ flat_map (call_made_line masks) list)
IsAnswer (question.Events at wanted) t text =
    (list : List ObjectEvent) × AreEvents t.made wanted.happenings (between wanted.first wanted.last (path t.made at)) list
    × (text ≡ flat_map (event_text t.made) list)
IsAnswer (question.Path at from) t text = text ≡ flat_map range_line (take most_ranges (ranges_from from (path t.made at)))
IsAnswer (question.Object koid at) t text =
    (look : ObjectLook) × IsObjectLook t.made at koid look × (text ≡ object_lines false (state_at t.made at) look ++ times_text t.made look)
IsAnswer (question.Handle process value at) t text =
    (life : HandleLife) × (life_on t at (place.Entry process value) ≡ Ok life) × (text ≡ life_text t.made life)
IsAnswer (question.Lineage koid at) t text =
    (list : List LineageStep) × (lineage_on t at koid ≡ Ok list) × (text ≡ flat_map (lineage_text t.made) list)
IsAnswer question.Branches t text = text ≡ flat_map (branch_text t) (branches_of t)

-- why nothing is told of something at a moment: the tree has no such moment, which is told without memory; or else memory was
-- refused on the way to it, or what is looked for is refused there
abbrev pub IsRefusedAt : {A : Type 0} → Result ℕ Refusal → Result A Refusal → Refusal → Type 0
IsRefusedAt (Err reason) found given = given ≡ reason
IsRefusedAt (Ok _) found given = IsRefusedWhen found given

-- the question has no answer of the tree for this reason, or memory was refused
abbrev pub IsUnanswered : ViewQuestion → Tree → Refusal → Type 0
IsUnanswered (question.Change moment) t reason = IsHistoryRefusal (changed_on t moment) reason
IsUnanswered (question.Calls at wanted) t reason = IsHistoryRefusal (calls_on t at wanted) reason
IsUnanswered (question.Events at wanted) t reason = IsHistoryRefusal (moment_on t at) reason
IsUnanswered (question.Path at from) t reason = IsHistoryRefusal (moment_on t at) reason
IsUnanswered (question.Object koid at) t reason =
    IsRefusedAt (moment_on t at) (check (is_known (state_at t.made at) koid) refusal.NoObject) reason
IsUnanswered (question.Handle process value at) t reason = IsRefusedAt (moment_on t at) (life_on t at (place.Entry process value)) reason
IsUnanswered (question.Lineage koid at) t reason = IsRefusedAt (moment_on t at) (lineage_on t at koid) reason
IsUnanswered question.Branches t reason = reason ≡ refusal.OutOfMemory

-- what is found, or why nothing is
abbrev pub IsFound : ViewQuestion → Tree → Result (List ℕ) Refusal → Type 0
IsFound asked t (Ok text) = IsAnswer asked t text
IsFound asked t (Err reason) = IsUnanswered asked t reason
