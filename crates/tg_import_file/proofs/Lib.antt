pub mod Cuts
pub mod Taken
pub mod PieceSteps
pub mod Closing
pub mod Reading
pub mod Causes
