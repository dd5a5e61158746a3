-- Definitions to believe: public clauses are stated in them.
pub mod Reachability
pub mod Leaks
pub mod Happenings
pub mod HappeningTimes
pub mod LaterMoments
pub mod FrozenCopy
-- Used by proofs only: no public clause depends on them.
pub mod ProofsOnly
