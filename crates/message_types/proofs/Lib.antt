pub mod Determined
pub mod Rows
