pub mod Endings
pub mod Goings
pub mod Joined
pub mod LineLemmas
pub mod Loops
pub mod Pieces
pub mod Runs
pub mod Rooms
