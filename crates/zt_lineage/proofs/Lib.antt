pub mod OriginLaws
pub mod MoveLaws
pub mod WayLaws
pub mod LifeLaws
