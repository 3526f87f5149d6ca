mod Counts
mod Serving
mod Keeping
mod Steps
mod Ends
