pub mod Received
pub mod ReceivedLaws
pub mod Ends
pub mod Body
pub mod Keeping
pub mod BodyLaws
pub mod Telling
