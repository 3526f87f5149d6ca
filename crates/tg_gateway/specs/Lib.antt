pub mod Heads
pub mod Room
pub mod Sessions
pub mod Steps
pub mod Links
pub mod Laws
