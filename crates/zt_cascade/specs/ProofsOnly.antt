-- Used by proofs only: no public clause depends on them.
pub mod RemovedObject
pub mod NearObjects
pub mod RaisedWaits
pub mod LostObjects
