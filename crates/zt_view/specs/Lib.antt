-- Definitions to believe: public clauses are stated in them.
pub mod Cuts
pub mod Guard
pub mod Lacks
pub mod Requests
pub mod PathRanges
pub mod HandleTexts
pub mod Questions
pub mod Responses
pub mod Answers
