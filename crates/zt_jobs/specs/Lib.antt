-- Definitions to believe: public clauses are stated in them.
pub mod EndingWalk
pub mod EndedTasks
pub mod CriticalTask
-- Used by proofs only: no public clause depends on them.
pub mod ProofsOnly
