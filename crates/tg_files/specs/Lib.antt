pub mod Folders
pub mod Packs
pub mod Readers
pub mod PathLaws
pub mod System
pub mod TempNames
