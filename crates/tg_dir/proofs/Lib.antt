mod Weighing
mod Pairs
mod Orders
mod OneBlock
mod ByWeight
