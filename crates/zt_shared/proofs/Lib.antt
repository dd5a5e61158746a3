pub mod AccountLaws
pub mod SharingLaws
pub mod OpeningLaws
