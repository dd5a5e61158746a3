-- Definitions to believe: public clauses are stated in them.
pub mod KoidCounts
pub mod Chains
pub mod Criteria
pub mod IndexInvariant
pub mod PacketCounts
-- Used by proofs only: no public clause depends on them.
pub mod ProofsOnly
