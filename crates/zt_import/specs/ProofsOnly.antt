-- Used by proofs only: no public clause depends on them.
pub mod TakenCalls
pub mod PortQueue
pub mod Least
pub mod ReadTexts
