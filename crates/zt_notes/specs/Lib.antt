-- Definitions to believe: public clauses are stated in them.
pub mod Cuts
pub mod Forms
pub mod Walks
pub mod Annotations
pub mod Found
-- Used by proofs only: no public clause depends on them.
pub mod ProofsOnly
