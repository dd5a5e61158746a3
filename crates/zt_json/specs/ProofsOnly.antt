-- Used by proofs only: no public clause depends on them.
pub mod Done
