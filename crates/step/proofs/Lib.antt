pub mod Determined
pub mod Whole
