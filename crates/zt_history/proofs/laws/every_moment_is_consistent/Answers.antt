-- The laws of the moments of a tree.
use Rattle.zt_history.proofs.LawsOfTrees.{tree-consistent, tree-room}
use Rattle.zt_history.proofs.laws.every_moment_is_consistent.Goals as goal

pub returns-clause-consistent : goal.returns-clause-consistent
returns-clause-consistent c = tree-consistent

pub returns-clause-room : goal.returns-clause-room
returns-clause-room c = tree-room
