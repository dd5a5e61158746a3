-- The laws of trees.
use Rattle.zt_history.proofs.LawsOfTrees.{tree-opening, tree-call, tree-under, tree-branch, tree-headed}
use Rattle.zt_history.proofs.laws.calls_and_branches_make_trees.Goals as goal

pub returns-clause-opening : goal.returns-clause-opening
returns-clause-opening c = tree-opening

pub returns-clause-call : goal.returns-clause-call
returns-clause-call c = tree-call

pub returns-clause-branch : goal.returns-clause-branch
returns-clause-branch c = tree-branch

pub returns-clause-under : goal.returns-clause-under
returns-clause-under c = tree-under

pub returns-clause-head : goal.returns-clause-head
returns-clause-head c = tree-headed
