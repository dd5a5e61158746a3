-- Definitions to believe: public clauses are stated in them.
pub mod TableSizes
pub mod RowSlots
pub mod CellsView
pub mod FirstNumber
pub mod AlikeObjects
-- Used by proofs only: no public clause depends on them.
pub mod ProofsOnly
