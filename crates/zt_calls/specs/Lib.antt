pub mod Wanting
pub mod Outcomes
pub mod Walks
pub mod Taking
pub mod Losing
