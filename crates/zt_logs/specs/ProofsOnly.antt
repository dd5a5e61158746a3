-- Used by proofs only: no public clause depends on them.
pub mod ReadLines
pub mod Tokens
pub mod Walks
