pub mod Changes
pub mod Entries
pub mod Faults
pub mod Resolved
