pub mod Census
pub mod Computes
