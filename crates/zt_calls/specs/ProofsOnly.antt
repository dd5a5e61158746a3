-- Used by proofs only: no public clause depends on them.
pub mod ExpectedKinds
pub mod CallOutcomes
pub mod SentMessage
pub mod ReceivedMessage
pub mod NewTasks
