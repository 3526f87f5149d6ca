mod Answering
mod Attached
mod Moves
mod Parts
mod Pieces
