-- The lines of those so far stand behind the text.
use Rattle.std.proofs.Common.{◌≡◌, ◌++◌, take}
use Rattle.std.specs.List.{flat_map}
use Rattle.zt_view.specs.HandleTexts.{lineage_text}
use Rattle.zt_view.proofs.lineages.put_lineage.Given as goal

abbrev pub invariant-loop-step : goal.invariant-loop-step
invariant-loop-step l = l.text.items ≡ l.fn.text.items ++ flat_map (lineage_text l.history.tree.made) (take l.step-index l.list)
