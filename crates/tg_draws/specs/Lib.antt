pub mod Draws
pub mod Trees
