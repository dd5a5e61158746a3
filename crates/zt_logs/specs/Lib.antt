-- Definitions to believe: public clauses are stated in them.
pub mod Lines
pub mod OtherKinds
pub mod CallNames
pub mod Members
pub mod Entries
pub mod Numbers
pub mod LoggedCalls
pub mod Answered
pub mod LineCalls
pub mod Logged
pub mod Contexts
-- Used by proofs only: no public clause depends on them.
pub mod ProofsOnly
