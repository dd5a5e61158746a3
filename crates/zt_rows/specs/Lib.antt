-- Definitions to believe: public clauses are stated in them.
pub mod Contents
pub mod Refusals
pub mod Keys
pub mod RowOrder
pub mod State
pub mod Reads
pub mod Tests
pub mod Support
pub mod Opening
pub mod Collect
pub mod Justified
pub mod Settle
pub mod End
pub mod Handles
pub mod ObjectCalls
pub mod ChannelCalls
pub mod PortCalls
pub mod JobCalls
pub mod Step
pub mod Same
pub mod Change
pub mod Path
pub mod Room
pub mod CallsInARow
pub mod Consistent
-- Used by proofs only: no public clause depends on them.
pub mod ProofsOnly
