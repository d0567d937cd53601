pub mod Laws
pub mod Found
pub mod Events
pub mod Determined
