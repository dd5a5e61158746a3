-- Definitions to believe: public clauses are stated in them.
pub mod Words
pub mod Parts
pub mod Names
pub mod Values
pub mod Made
pub mod Members
pub mod Calls
pub mod Rows
pub mod Lines
pub mod Lives
pub mod Texts
-- Used by proofs only: no public clause depends on them.
pub mod ProofsOnly
