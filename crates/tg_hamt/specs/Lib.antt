pub mod Order
pub mod Links
pub mod Shards
pub mod Directories
pub mod NameLaws
