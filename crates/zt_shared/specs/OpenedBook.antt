-- What a shared book is opened from: an empty base cell, and an account without rows for each of four clients; and how an
-- opened one is seen.
use Rattle.std.specs.Prelude.{◌≡◌, ℕ, List}
use Rattle.zt_book.specs.Session.{Session}
use Rattle.zt_shared.specs.Accounts.{Unnamed}

-- how it is seen: the number of clients, the name of the base cell, and the accounts
pub record Unopened : Type 0 where
  pub clients : ℕ
  pub base : ℕ
  pub first : Unnamed
  pub second : Unnamed
  pub third : Unnamed
  pub fourth : Unnamed

-- a naming type names this account: its ledger, which is in one part, and its cells
pub record IsNamed (name parts : ℕ) (names : List ℕ) (blank : Unnamed) : Type 0 where
  pub ledger : blank.ledger ≡ name
  pub whole : parts ≡ 1
  pub cells : blank.cells ≡ names

-- how a shared book is seen that was opened: the session at which its log begins
pub record Opened : Type 0 where
  pub base : Session
