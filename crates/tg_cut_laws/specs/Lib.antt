pub mod Sections
pub mod Cars
pub mod Bodies
pub mod Replies
pub mod Clients
