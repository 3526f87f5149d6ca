pub mod Unix
pub mod Faults
pub mod Reading
pub mod Writing
pub mod Computed
pub mod Places
pub mod Starting
