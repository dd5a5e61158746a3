use Rattle.zt_text.proofs.NotedTrees.{notes_kept}
use Rattle.zt_text.proofs.laws.notes_of_texts_are_lines.Goals as goal

pub returns : goal.returns
returns c = notes_kept
