pub mod Sessions
pub mod Steps
pub mod Lines
pub mod Laws
