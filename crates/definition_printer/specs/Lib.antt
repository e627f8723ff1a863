pub mod Dbd
pub mod Partitions
pub mod Wrapped
