pub mod Determined
pub mod Judging
