pub mod PartLemmas
pub mod NameLemmas
pub mod SkipLemmas
