pub mod Varint
pub mod GroupLaws
pub mod Computed
pub mod Laws
