pub mod Counting
pub mod Imported
pub mod Refused
pub mod Steps
pub mod Packing
