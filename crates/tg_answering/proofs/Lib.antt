mod MissedRoots
mod OwnReplies
mod PathsCut
mod SentFronts
mod StoredRoots
