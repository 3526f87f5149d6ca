pub mod NameHash
pub mod Laws
