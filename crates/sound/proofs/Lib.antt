pub mod Turns
pub mod Heaps
pub mod Rowing
pub mod Laws
pub mod Fused
