-- Definitions to believe: public clauses are stated in them.
pub mod OneByOne
pub mod JoinedLinks
pub mod ToldObjects
pub mod PacketRoom
-- Used by proofs only: no public clause depends on them.
pub mod ProofsOnly
