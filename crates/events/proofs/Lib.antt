pub mod PutBack
pub mod Takes
pub mod Asking
pub mod Roomy
pub mod OwnEvent
