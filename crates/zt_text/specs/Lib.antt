-- Definitions to believe: public clauses are stated in them.
pub mod Numbers
pub mod Fields
pub mod Bytes
pub mod Lists
pub mod Names
pub mod ReadCalls
pub mod ReadLines
pub mod ShownNumbers
pub mod Calls
pub mod Answers
pub mod Lines
pub mod Session
pub mod SessionCalls
pub mod Rows
pub mod Spellings
pub mod Columns
pub mod SavedTexts
pub mod Notes
pub mod NotedTexts
-- Used by proofs only: no public clause depends on them.
pub mod ProofsOnly
