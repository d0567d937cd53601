pub mod Determined
pub mod Done
pub mod Entered
