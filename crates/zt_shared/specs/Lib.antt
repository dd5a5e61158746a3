-- Definitions to believe: public clauses are stated in them, views, or the invariants on which the shared book's promises rest.
pub mod Accounts
pub mod Sharing
pub mod ClientSlots
pub mod LockedBooks
pub mod OpenedBook
-- Used by proofs only: no public clause depends on them.
pub mod ProofsOnly
