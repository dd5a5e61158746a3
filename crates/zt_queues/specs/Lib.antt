-- Definitions to believe: public clauses are stated in them.
pub mod QueueEnd
pub mod QueueFront
