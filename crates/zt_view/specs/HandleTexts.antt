-- The texts of the life of a handle, and of the handles of an object.
use Rattle.std.specs.Prelude.{ℕ, List, [], ◌∷◌, ◌++◌, Option, None, Some, false, unwrap_or}
use Rattle.zt_rows.specs.declared.calls.Call.{Call}
use Rattle.zt_history.specs.Tree.{Made, call_at}
use Rattle.zt_lineage.specs.declared.endings.Ending.{Ending}
use Rattle.zt_lineage.specs.declared.handle_life.HandleLife.{HandleLife}
use Rattle.zt_lineage.specs.declared.handle_life.LifeStep.{LifeStep}
use Rattle.zt_look.specs.declared.object_handles.Leaving.{Leaving}
use Rattle.zt_look.specs.declared.handle_tree.LineageStep.{LineageStep}
use Rattle.zt_look.specs.LifeLines.{life_end_line, life_step_line, whereabouts_line}
use Rattle.zt_look.specs.LineageLines.{lineage_step_line}

-- ---- steps

-- a step, with the rights of the step before; the first came from no other place, and its line shows no rights but its own
abbrev pub step_text : List Made → Option LifeStep → LifeStep → List ℕ
step_text made before step = life_step_line false step (unwrap_or before step).held.rights (call_at made step.moment)

abbrev pub steps_text : List Made → Option LifeStep → List LifeStep → List ℕ
steps_text made before [] = []
steps_text made before (step ∷ steps) = step_text made before step ++ steps_text made (Some step) steps

-- the last of these steps, or the one before them
abbrev pub last_step : Option LifeStep → List LifeStep → Option LifeStep
last_step before [] = before
last_step before (step ∷ steps) = last_step (Some step) steps

-- ---- the end

-- how a handle ended at a moment behind its last step, by the call of the moment
abbrev pub ending_text : Option LifeStep → ℕ → Ending → Option (ℕ × Call) → List ℕ
ending_text None moment how by = []
ending_text (Some last) moment how None = []
ending_text (Some last) moment how (Some by) = life_end_line false moment how last by

-- how it ended, if it did, and where it is
abbrev pub end_text : List Made → Option LifeStep → Option (ℕ × Ending) → List ℕ
end_text made last None = whereabouts_line false last
end_text made last (Some (moment, how)) = ending_text last moment how (call_at made moment) ++ whereabouts_line false None

-- ---- a whole life

abbrev pub life_text : List Made → HandleLife → List ℕ
life_text made life = steps_text made None life.steps ++ end_text made (last_step None life.steps) life.ended

-- ---- the handles of an object

-- the call of the moment at which a handle left its place, if it did
abbrev pub call_left : List Made → Option (ℕ × Leaving) → Option (ℕ × Call)
call_left made None = None
call_left made (Some (moment, how)) = call_at made moment

abbrev pub lineage_text : List Made → LineageStep → List ℕ
lineage_text made step = lineage_step_line false step (call_at made step.handle.moment) (call_left made step.handle.left)
