pub mod NewTrees
pub mod Noted
pub mod Now
