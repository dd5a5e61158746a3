pub mod WordLaws
pub mod QuestionLaws
