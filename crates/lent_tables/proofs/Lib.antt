pub mod Determined
pub mod Taking
pub mod Putting
pub mod Within
