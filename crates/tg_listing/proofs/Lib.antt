mod Orders
mod Gathering
mod Lines
