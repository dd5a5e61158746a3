pub mod ChangeLaws
pub mod TwoStateLaws
pub mod HandleLaws
pub mod CallLaws
pub mod SearchLaws
pub mod UnleakedLaws
pub mod EventLaws
pub mod MarkLaws
pub mod MessageLaws
pub mod RowWalkLaws
pub mod ObjectRowLaws
pub mod CountLaws
pub mod BelowLaws
pub mod FateLaws
pub mod AliveLaws
pub mod SpacedLines
pub mod NameLaws
pub mod MaskLaws
mod WorkedLines
mod WorkedLives
pub mod QueuedLaws
pub mod TreeLaws
pub mod DepartureLaws
