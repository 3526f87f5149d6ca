mod BlockLogs
mod KeptBlocks
