mod Draws
mod Names
mod Trees
