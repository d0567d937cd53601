pub mod Kept
pub mod Answered
pub mod Bytes
pub mod Taken
pub mod Turns
pub mod Finished
pub mod Whole
pub mod Reached
