pub mod PutOrder
