pub mod CutLaws
pub mod PartLaws
pub mod KeptLaws
pub mod FoundLaws
pub mod WalkLaws
mod WorkedForms
mod WorkedAnswers
