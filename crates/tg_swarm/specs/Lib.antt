pub mod Jobs
pub mod Laws
pub mod Peers
pub mod Said
pub mod Swarms
