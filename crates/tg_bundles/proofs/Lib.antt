mod Bundles
mod Escapes
mod Members
mod Proper
mod ReadBack
mod Shown
