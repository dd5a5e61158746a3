pub mod PutOrder
pub mod FrontLaws
pub mod PacketLaws
pub mod CancelLaws
