pub mod Program
pub mod Sessions
