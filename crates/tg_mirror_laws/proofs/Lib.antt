mod Digests
mod Mirroring
mod SameReplies
