mod Counting
mod LineTexts
mod Made
mod Paths
mod Sizes
mod Stages
