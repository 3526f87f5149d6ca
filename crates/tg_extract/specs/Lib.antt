pub mod Answers
pub mod Counts
pub mod Extracts
pub mod Faults
pub mod Laws
pub mod Lines
