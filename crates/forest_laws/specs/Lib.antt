pub mod Keeping
pub mod Paths
pub mod Spans
pub mod Entries
pub mod Examples
pub mod Places
pub mod Joining
