pub mod Totals
pub mod Naming
pub mod SupportCountLaws
pub mod Counts
pub mod ChainOrder
pub mod ChainLaws
pub mod IndexLaws
pub mod PacketCountLaws
