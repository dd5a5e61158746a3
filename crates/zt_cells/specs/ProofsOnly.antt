-- Used by proofs only: no public clause depends on them.
pub mod TablePlaces
pub mod MarkedNumbers
pub mod WordsOfMarks
pub mod MarkedPlaces
pub mod NextValues
pub mod NumberedTables
pub mod RowTables
pub mod AlikeRows
