pub mod WalksSend
pub mod OwnReplies
pub mod StoredRoots
pub mod MissedRoots
