mod Accepted
mod OwnBlocks
mod Roots
mod Slices
mod Written
