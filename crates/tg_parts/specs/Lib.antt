pub mod Connections
pub mod PartLaws
pub mod Parts
