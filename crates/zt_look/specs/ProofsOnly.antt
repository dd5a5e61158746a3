-- Used by proofs only: no public clause depends on them.
pub mod RecordSides
pub mod HandlesSoFar
pub mod UnleakedSearch
pub mod UnleakedSet
pub mod EventsSoFar
pub mod BranchMarks
pub mod MessageEnds
pub mod RowWalk
pub mod CountedCalls
pub mod NumbersBelow
pub mod FatesSoFar
pub mod BitsLeft
pub mod SpacedWords
pub mod TwoStates
pub mod AliveSoFar
pub mod Departures
pub mod TreeLinks
