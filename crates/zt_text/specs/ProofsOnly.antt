-- Used by proofs only: no public clause depends on them.
pub mod Calls
pub mod Cut
pub mod Lists
pub mod SavedTexts
pub mod CallNames
pub mod SessionCalls
pub mod Notes
