-- What the rows under the keys so far give stands behind the others; what is left gives the rest.
use Rattle.std.proofs.Common.{◌≡◌, ◌++◌, length}
use Rattle.zt_rows.specs.Room.{next_key}
use Rattle.zt_queries.specs.ProofsOnly.Holders.{keys_left, supports_in}
use Rattle.zt_queries.proofs.HoldLaws.{given_by}
use Rattle.zt_queries.proofs.KeyLaws.{IsWalkedTo}
use Rattle.zt_queries.proofs.support_list.add_supports.Given as goal

abbrev pub invariant-keys : goal.invariant-keys
invariant-keys l = record {
  walked : IsWalkedTo l.store.state (next_key l.store.state l.low);
  so_far : l.list.items ++ given_by l.part l.koid l.store.state (keys_left l.store.state (next_key l.store.state l.low)) ≡ l.fn.list.items ++ supports_in l.part l.koid l.store.state;
}

abbrev pub decreases-keys : goal.decreases-keys
decreases-keys l = length (keys_left l.store.state (next_key l.store.state l.low))
