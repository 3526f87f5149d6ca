pub mod Dials
pub mod Memory
pub mod Tcp
