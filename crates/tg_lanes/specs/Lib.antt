pub mod Caches
pub mod CacheLaws
pub mod Lanes
pub mod History
pub mod Hearing
pub mod Laws
pub mod Callers
pub mod OwnLaws
