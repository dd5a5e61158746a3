-- Definitions to believe: public clauses are stated in them.
pub mod CountedFaults
pub mod Conversations
pub mod BookRun
pub mod Explored
pub mod Run
pub mod Sessions
pub mod LoadedText
pub mod Typed
pub mod NotedPaths
-- Used by proofs only: no public clause depends on them.
pub mod ProofsOnly
