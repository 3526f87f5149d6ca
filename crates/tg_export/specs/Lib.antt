pub mod Cars
pub mod Given
pub mod Packed
