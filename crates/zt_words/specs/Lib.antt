-- Definitions to believe: public clauses are stated in them.
pub mod Rules
pub mod Questions
pub mod LookWords
pub mod Words
pub mod Statuses
