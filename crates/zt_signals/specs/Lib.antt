-- Definitions to believe: public clauses are stated in them.
pub mod ObjectSignals
pub mod DroppedWaits
-- Used by proofs only: no public clause depends on them.
pub mod ProofsOnly
