pub mod Node
pub mod Faults
pub mod Cursor
pub mod Reading
pub mod Writing
pub mod Computed
