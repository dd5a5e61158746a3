use Rattle.std.proofs.Common.{◌≡◌, length}
use Rattle.zt_store.specs.ProofsOnly.KeptRows.{pairs_of}
use Rattle.zt_store.proofs.Exchanges.{IsSwapping}
use Rattle.zt_store.proofs.exchanged_rows.exchange_each.Given as goal

abbrev pub invariant-loop-place : goal.invariant-loop-place
invariant-loop-place l =
    IsSwapping l.fn.store.state (pairs_of l.fn.keys l.fn.rows) l.fn.store.places l.place l.store.state (pairs_of l.keys l.rows) × (l.store.places ≡ l.fn.store.places)
    × (length l.rows ≡ length l.keys)
