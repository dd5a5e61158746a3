pub mod Loading
pub mod ClientLaws
