pub mod Spelling
pub mod Mapped
pub mod Determined
