-- Used by proofs only: no public clause depends on them.
pub mod StoreView
pub mod KeptRows
pub mod BeforeImages
pub mod ChangedRows
pub mod RecordRows
pub mod StepView
pub mod StoreInvariant
pub mod TouchedIndex
pub mod StepRows
pub mod KeyColumns
pub mod RowExchange
