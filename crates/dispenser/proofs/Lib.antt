pub mod Determined
pub mod Greatest
