-- Definitions to believe: public clauses are stated in them.
pub mod Places
pub mod StoreView
pub mod RecordRows
pub mod RecordLook
pub mod StepView
pub mod KoidSets
-- Used by proofs only: no public clause depends on them.
pub mod ProofsOnly
