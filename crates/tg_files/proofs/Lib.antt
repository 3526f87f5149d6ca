mod Counted
mod Entries
mod Moves
mod Places
mod Sought
mod Walks
mod Written
