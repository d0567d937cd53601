pub mod Case
pub mod Words
pub mod Twelve
pub mod Further
pub mod Lines
