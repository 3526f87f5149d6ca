pub mod Chunks
pub mod Heights
pub mod Trees
pub mod State
pub mod MadeFile
pub mod Linking
