pub mod Orders
pub mod Finished
