-- Used by proofs only: no public clause depends on them.
pub mod Log
pub mod SessionState
pub mod SavedSessions
pub mod CallsInARow
