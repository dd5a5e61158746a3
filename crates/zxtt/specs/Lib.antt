-- Definitions to believe: public clauses are stated in them.
pub mod Traces
pub mod LookedAt
pub mod Finding
pub mod NotedAnswers
