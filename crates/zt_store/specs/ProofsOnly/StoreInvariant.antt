-- What holds of a store's parts. Used by proofs only.
use Rattle.std.specs.Prelude.{ℕ, List}
use Rattle.zt_cells.specs.CellsView.{CellsView}
use Rattle.zt_index.specs.declared.index.RowChains.{RowChains}
use Rattle.zt_index.specs.declared.support_counts.KoidCounts.{KoidCounts}
use Rattle.zt_index.specs.IndexInvariant.{IsIndexed}
use Rattle.zt_index.specs.PacketCounts.{ArePending}
use Rattle.zt_index.specs.ProofsOnly.KoidCounts.{AreKoidCounts, NamesFew}

-- the numbers by koid, those of the packets of users by port, and the buckets of the waits and of the live jobs and processes,
-- are those of the rows
pub record IsStore (s : CellsView) (list : List KoidCounts) (packets : List ℕ) (index : RowChains) : Type 0 where
  pub koid_counts : AreKoidCounts s.state list
  pub few : NamesFew s.state
  pub packets_counted : ArePending s packets
  pub indexed : IsIndexed s index
