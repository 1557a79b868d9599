pub mod IdLists
pub mod Lending
pub mod Nodes
pub mod Table
