-- Definitions to believe: public clauses are stated in them.
pub mod PortEnd
pub mod PortFront
-- Used by proofs only: no public clause depends on them.
pub mod ProofsOnly
