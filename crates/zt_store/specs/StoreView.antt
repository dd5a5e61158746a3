-- How a store is seen: its state, and the places that it has for rows.
use Rattle.zt_rows.specs.State.{State}
use Rattle.zt_store.specs.Places.{Places}

pub record Stored : Type 0 where
  pub state : State
  pub places : Places
