use Rattle.zt_text.specs.Lines.{lines_of}
use Rattle.zt_text.proofs.SavedLemmas.{of_tree, of_row}
use Rattle.zt_text.proofs.saved_text.read_saved.Goals as goal

pub returns-in-Some-clause-read : goal.returns-in-Some-clause-read
returns-in-Some-clause-read c = rw (of_tree c.args.text.now (lines_of c.in-Some.left.now) c.in-Some.ensures) c.read_tree.ensures.read

pub returns-in-Some-clause-refused : goal.returns-in-Some-clause-refused
returns-in-Some-clause-refused c = rw (of_tree c.args.text.now (lines_of c.in-Some.left.now) c.in-Some.ensures) c.read_tree.ensures.refused

pub returns-in-None-clause-read : goal.returns-in-None-clause-read
returns-in-None-clause-read c = rw (of_row c.args.text.now c.in-None.ensures) c.read_row.ensures.read

pub returns-in-None-clause-refused : goal.returns-in-None-clause-refused
returns-in-None-clause-refused c = rw (of_row c.args.text.now c.in-None.ensures) c.read_row.ensures.refused
