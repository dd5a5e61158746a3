-- Used by proofs only: no public clause depends on them.
pub mod Holders
pub mod LeakGraph
pub mod ReachabilitySearch
pub mod RowHappenings
pub mod FirstLeak
pub mod NameSearch
