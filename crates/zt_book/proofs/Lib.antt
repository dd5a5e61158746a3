pub mod ListLaws
pub mod ServedLaws
pub mod CountLaws
pub mod SessionStateLaws
pub mod LoadLaws
pub mod TurnLaws
pub mod SeatLaws
pub mod KeptLaws
pub mod RowLaws
pub mod BegunLaws
pub mod GrowingRows
pub mod AgainLaws
pub mod WrittenLaws
pub mod SavedLaws
pub mod ReplayLaws
pub mod BookLaws
pub mod RenewLaws
mod WorkedSessions
