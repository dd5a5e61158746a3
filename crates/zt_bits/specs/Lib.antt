-- Definitions to believe: public clauses are stated in them.
pub mod Tables
pub mod Words
