mod Groups
mod Reading
mod Writing
mod Uniqueness
mod Fronts
mod Computed
