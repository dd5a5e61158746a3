-- What the rows so far give stands behind the others.
use Rattle.std.proofs.Common.{◌≡◌, ◌++◌, take}
use Rattle.std.specs.List.{flat_map}
use Rattle.zt_queries.specs.ProofsOnly.Holders.{supports_by}
use Rattle.zt_queries.proofs.support_list.add_listed.Given as goal

abbrev pub invariant-loop-key : goal.invariant-loop-key
invariant-loop-key l = l.list.items ≡ l.fn.list.items ++ flat_map (supports_by l.part l.koid) (take l.key-index l.rows)
