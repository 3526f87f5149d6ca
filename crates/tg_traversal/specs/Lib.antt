pub mod Frames
pub mod Places
pub mod Left
pub mod BlocksLeft
pub mod Opening
pub mod PlaceTexts
pub mod SaidFaults
pub mod FaultLaws
