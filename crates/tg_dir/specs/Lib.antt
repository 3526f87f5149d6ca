pub mod Weights
pub mod Made
pub mod Basic
