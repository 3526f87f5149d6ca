pub mod BlockLog
pub mod BlockLogLaws
pub mod LoggedBlocks
