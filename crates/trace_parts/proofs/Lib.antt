pub mod Determined
pub mod Digits
pub mod Puts
