-- The names of the blanks.
use Rattle.served_trials.proofs.served_clients.serve.Given as goal

abbrev pub ghosts-serve_named-A-Naming : goal.ghosts-serve_named-A-Naming
ghosts-serve_named-A-Naming g a = record { cells = a.blanks.first.cells }

abbrev pub ghosts-serve_named-A-Ledger : goal.ghosts-serve_named-A-Ledger
ghosts-serve_named-A-Ledger g a = record { name = a.blanks.first.ledger; parts = 1 }

abbrev pub ghosts-serve_named-A-Beginning : goal.ghosts-serve_named-A-Beginning
ghosts-serve_named-A-Beginning g a = record { base = a.blanks.base; clients = a.blanks.clients }

abbrev pub ghosts-serve_named-B-Naming : goal.ghosts-serve_named-B-Naming
ghosts-serve_named-B-Naming g a = record { cells = a.blanks.second.cells }

abbrev pub ghosts-serve_named-B-Ledger : goal.ghosts-serve_named-B-Ledger
ghosts-serve_named-B-Ledger g a = record { name = a.blanks.second.ledger; parts = 1 }

abbrev pub ghosts-serve_named-C-Naming : goal.ghosts-serve_named-C-Naming
ghosts-serve_named-C-Naming g a = record { cells = a.blanks.third.cells }

abbrev pub ghosts-serve_named-C-Ledger : goal.ghosts-serve_named-C-Ledger
ghosts-serve_named-C-Ledger g a = record { name = a.blanks.third.ledger; parts = 1 }

abbrev pub ghosts-serve_named-D-Naming : goal.ghosts-serve_named-D-Naming
ghosts-serve_named-D-Naming g a = record { cells = a.blanks.fourth.cells }

abbrev pub ghosts-serve_named-D-Ledger : goal.ghosts-serve_named-D-Ledger
ghosts-serve_named-D-Ledger g a = record { name = a.blanks.fourth.ledger; parts = 1 }
