mod MadeLists
mod Walks
