-- Used by proofs only: no public clause depends on them.
pub mod TaskTree
pub mod EndedTasks
pub mod NextRow
pub mod EndingWalk
pub mod FoundKoids
