pub mod CutLaws
pub mod QueryLaws
pub mod AnswerLaws
pub mod HeaderLaws
pub mod ObjectLaws
pub mod LifeLaws
