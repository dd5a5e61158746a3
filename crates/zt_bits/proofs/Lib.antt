pub mod WorkedRights
