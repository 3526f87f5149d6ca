mod Bits
mod Items
mod Texts
mod Steps
mod Reading
mod Writing
mod ComputedText
