pub mod Answer
pub mod Inserts
pub mod Laws
pub mod Moves
pub mod Outcome
