-- The names of the blanks.
use Rattle.zxtt.proofs.service.serve.Given as goal

abbrev pub ghosts-serve_book-A-Naming : goal.ghosts-serve_book-A-Naming
ghosts-serve_book-A-Naming g a = record { cells = a.blanks.first.cells }

abbrev pub ghosts-serve_book-A-Ledger : goal.ghosts-serve_book-A-Ledger
ghosts-serve_book-A-Ledger g a = record { name = a.blanks.first.ledger; parts = 1 }

abbrev pub ghosts-serve_book-A-Beginning : goal.ghosts-serve_book-A-Beginning
ghosts-serve_book-A-Beginning g a = record { base = a.blanks.base; clients = a.blanks.clients }

abbrev pub ghosts-serve_book-B-Naming : goal.ghosts-serve_book-B-Naming
ghosts-serve_book-B-Naming g a = record { cells = a.blanks.second.cells }

abbrev pub ghosts-serve_book-B-Ledger : goal.ghosts-serve_book-B-Ledger
ghosts-serve_book-B-Ledger g a = record { name = a.blanks.second.ledger; parts = 1 }

abbrev pub ghosts-serve_book-C-Naming : goal.ghosts-serve_book-C-Naming
ghosts-serve_book-C-Naming g a = record { cells = a.blanks.third.cells }

abbrev pub ghosts-serve_book-C-Ledger : goal.ghosts-serve_book-C-Ledger
ghosts-serve_book-C-Ledger g a = record { name = a.blanks.third.ledger; parts = 1 }

abbrev pub ghosts-serve_book-D-Naming : goal.ghosts-serve_book-D-Naming
ghosts-serve_book-D-Naming g a = record { cells = a.blanks.fourth.cells }

abbrev pub ghosts-serve_book-D-Ledger : goal.ghosts-serve_book-D-Ledger
ghosts-serve_book-D-Ledger g a = record { name = a.blanks.fourth.ledger; parts = 1 }
