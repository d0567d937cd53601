pub mod Determined
pub mod Finding
pub mod Memory
