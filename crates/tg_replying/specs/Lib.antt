pub mod Bodies
pub mod Replying
