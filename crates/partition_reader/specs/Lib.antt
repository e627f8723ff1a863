pub mod Partitions
pub mod Tables
pub mod Values
