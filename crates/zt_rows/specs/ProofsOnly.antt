-- Used by proofs only: no public clause depends on them.
pub mod RowOrder
pub mod KeyOrder
pub mod SameRows
