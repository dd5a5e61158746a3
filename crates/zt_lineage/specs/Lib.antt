-- Definitions to believe: public clauses are stated in them.
pub mod Places
pub mod Origins
pub mod Lives
-- Used by proofs only: no public clause depends on them.
pub mod ProofsOnly
