-- Definitions to believe: public clauses are stated in them.
pub mod Changes
pub mod HandleList
pub mod CallList
pub mod EventList
pub mod BranchList
pub mod MessageList
pub mod ObjectLook
pub mod CallCounts
pub mod Fates
pub mod AliveList
pub mod Names
pub mod Signaled
pub mod NamedTexts
pub mod Lines
pub mod LifeLines
pub mod ObjectHandles
pub mod HandleTree
pub mod LineageLines
pub mod QueuedMessages
-- Used by proofs only: no public clause depends on them.
pub mod ProofsOnly
