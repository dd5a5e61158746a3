-- Used by proofs only: no public clause depends on them.
pub mod Run
pub mod LineFeed
pub mod ClientSessions
pub mod LoadedText
pub mod ReadText
