pub mod HelloWorld
pub mod SmallDags
