pub mod Holdings
pub mod Within
