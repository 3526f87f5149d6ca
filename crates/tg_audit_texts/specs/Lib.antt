pub mod Hashing
pub mod Queries
pub mod Expected
pub mod Summary
