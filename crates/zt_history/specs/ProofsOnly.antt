-- Used by proofs only: no public clause depends on them.
pub mod Timeline
pub mod TreeInvariant
pub mod KeptHistory
pub mod Branches
pub mod FourBytes
pub mod Forks
pub mod StoredNodes
pub mod MomentNodes
pub mod ObjectNotes
