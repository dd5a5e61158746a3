-- The names of the blanks.
use Rattle.zt_trials.proofs.tests.shared.trials.holds.Given as goal

abbrev pub ghosts-holds_over-A-Naming : goal.ghosts-holds_over-A-Naming
ghosts-holds_over-A-Naming g a = record { cells = a.blanks.first.cells }

abbrev pub ghosts-holds_over-A-Ledger : goal.ghosts-holds_over-A-Ledger
ghosts-holds_over-A-Ledger g a = record { name = a.blanks.first.ledger; parts = 1 }

abbrev pub ghosts-holds_over-A-Beginning : goal.ghosts-holds_over-A-Beginning
ghosts-holds_over-A-Beginning g a = record { base = a.blanks.base; clients = a.blanks.clients }

abbrev pub ghosts-holds_over-B-Naming : goal.ghosts-holds_over-B-Naming
ghosts-holds_over-B-Naming g a = record { cells = a.blanks.second.cells }

abbrev pub ghosts-holds_over-B-Ledger : goal.ghosts-holds_over-B-Ledger
ghosts-holds_over-B-Ledger g a = record { name = a.blanks.second.ledger; parts = 1 }

abbrev pub ghosts-holds_over-C-Naming : goal.ghosts-holds_over-C-Naming
ghosts-holds_over-C-Naming g a = record { cells = a.blanks.third.cells }

abbrev pub ghosts-holds_over-C-Ledger : goal.ghosts-holds_over-C-Ledger
ghosts-holds_over-C-Ledger g a = record { name = a.blanks.third.ledger; parts = 1 }

abbrev pub ghosts-holds_over-D-Naming : goal.ghosts-holds_over-D-Naming
ghosts-holds_over-D-Naming g a = record { cells = a.blanks.fourth.cells }

abbrev pub ghosts-holds_over-D-Ledger : goal.ghosts-holds_over-D-Ledger
ghosts-holds_over-D-Ledger g a = record { name = a.blanks.fourth.ledger; parts = 1 }
