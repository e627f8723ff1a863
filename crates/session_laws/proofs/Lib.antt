pub mod PathParts
pub mod Surviving
pub mod Standing
pub mod Arriving
