-- Definitions to believe: public clauses are stated in them.
pub mod Comparison
pub mod Schedule
pub mod Parts
pub mod Trails
pub mod Orders
pub mod Counts
pub mod Imports
pub mod Names
-- Used by proofs only: no public clause depends on them.
pub mod ProofsOnly
