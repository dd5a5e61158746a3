-- Definitions to believe: public clauses are stated in them.
pub mod Session
pub mod SavedSessions
pub mod Log
-- Used by proofs only: no public clause depends on them.
pub mod ProofsOnly
