pub mod Serving
pub mod SideBySide
pub mod Turns
pub mod Saying
pub mod Packed
