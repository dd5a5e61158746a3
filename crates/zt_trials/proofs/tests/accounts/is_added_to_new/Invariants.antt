-- The names of the blank.
use Rattle.zt_trials.proofs.tests.accounts.is_added_to_new.Given as goal

abbrev pub ghosts-is_added-N-Naming : goal.ghosts-is_added-N-Naming
ghosts-is_added-N-Naming a = record { cells = a.blank.cells }

abbrev pub ghosts-is_added-N-Ledger : goal.ghosts-is_added-N-Ledger
ghosts-is_added-N-Ledger a = record { name = a.blank.ledger; parts = 1 }
