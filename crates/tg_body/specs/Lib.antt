pub mod Bodies
pub mod History
pub mod State
pub mod Steps
pub mod Laws
