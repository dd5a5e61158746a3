-- Definitions to believe: public clauses are stated in them.
pub mod Tree
pub mod HistoryRefusals
pub mod Timeline
pub mod TreeInvariant
pub mod RowHappenings
pub mod Losses
pub mod Released
pub mod LostChild
-- Used by proofs only: no public clause depends on them.
pub mod ProofsOnly
