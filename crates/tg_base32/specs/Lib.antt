pub mod Base32
pub mod Held
pub mod Computed
pub mod Laws
