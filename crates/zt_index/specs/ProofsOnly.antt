-- Used by proofs only: no public clause depends on them.
pub mod KoidCounts
pub mod OptionalNumbers
pub mod Chains
pub mod IndexInvariant
pub mod CountedRows
