pub mod KeeperView
pub mod Calls
pub mod TakerOf
pub mod Steps
pub mod KeptLines
pub mod Laws
