mod Signals
pub mod Lines
pub mod Coincide
