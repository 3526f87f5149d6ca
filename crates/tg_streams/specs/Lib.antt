pub mod Streams
pub mod Joining
pub mod Gathering
pub mod Memory
pub mod Known
