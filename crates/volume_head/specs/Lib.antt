pub mod Calls
pub mod Definition
pub mod Empty
pub mod Head
pub mod Reading
