pub mod PutOrder
pub mod FrontLaws
pub mod TakenLaws
